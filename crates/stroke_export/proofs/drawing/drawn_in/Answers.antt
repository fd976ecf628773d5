use Rattle.std.proofs.Common.{◌≡◌, length, ap, ◌∙◌, rules}
use Rattle.job.specs.Readers.{start}
use Rattle.job.specs.Sayings.{said, said_by}
use Rattle.job.specs.Whole.{whole}
use Rattle.stroke_export.specs.Drawings.{said_drawn, untouched, told_of, bytes_of}
use Rattle.stroke_export.proofs.Writings.{says_by}
use Rattle.stroke_export.proofs.drawing.drawn_in.Goals as goal

pub returns-clause-answer : goal.returns-clause-answer
returns-clause-answer g c =
    let read : said (whole (start c.args.job) c.new-read.result) ≡ said_by 4096 32 c.args.job.now = says_by c.args.job _ _ c.new-read.ensures (search rules) (search rules) in
    c.drawn_in_lists.ensures.answer
    ∙ ap (λ s. told_of (said_drawn (g.K.MathsHost.acts.functions c.args.host.now) (g.B.Storage.acts.capacity c.args.storage.now) s (untouched (length c.args.bytes.now)))) read

pub returns-clause-bytes : goal.returns-clause-bytes
returns-clause-bytes g c =
    let read : said (whole (start c.args.job) c.new-read.result) ≡ said_by 4096 32 c.args.job.now = says_by c.args.job _ _ c.new-read.ensures (search rules) (search rules) in
    c.drawn_in_lists.ensures.bytes
    ∙ ap (λ s. bytes_of (said_drawn (g.K.MathsHost.acts.functions c.args.host.now) (g.B.Storage.acts.capacity c.args.storage.now) s (untouched (length c.args.bytes.now))) c.args.bytes.now) read
