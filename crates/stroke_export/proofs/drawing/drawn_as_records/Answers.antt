use Rattle.std.proofs.Common.{ap, ◌∙◌}
use Rattle.job.specs.Readers.{start}
use Rattle.job.specs.Sayings.{said}
use Rattle.job.specs.Whole.{whole}
use Rattle.stroke_export.specs.Drawings.{Drawn}
use Rattle.stroke_export.proofs.Writings.{drawn_untouched, all_written}
use Rattle.stroke_export.proofs.drawing.drawn_as_records.Goals as goal

pub returns-clause-answer : goal.returns-clause-answer
returns-clause-answer g c =
    let j = said (whole (start c.args.bytes) c.args.job.now) in
    c.read_and_drawn.ensures.outcome.0 ∙ ap (λ (d : Drawn). d.answer) (drawn_untouched (g.K.MathsHost.acts.functions c.args.host.now) (g.B.Storage.acts.capacity c.args.storage.now) j c.args.sink.now c.read_and_drawn.new.sink c.requires)

pub returns-clause-sink : goal.returns-clause-sink
returns-clause-sink g c =
    let j = said (whole (start c.args.bytes) c.args.job.now) in
    all_written (g.K.MathsHost.acts.functions c.args.host.now) (g.B.Storage.acts.capacity c.args.storage.now) j c.args.sink.now c.read_and_drawn.new.sink c.requires c.read_and_drawn.ensures.outcome.1 c.read_and_drawn.ensures.writes
