use Rattle.std.proofs.Common.{rules, Ok, w64, sym, ap, ◌∙◌}
use Rattle.std.proofs.lemmas.Int.{to_z-of_z}
use Rattle.stroke.specs.Events.{Plan, draw}
use Rattle.stroke.specs.Outliners.{stage}
use Rattle.stroke.specs.Ranges.{twice_place}
use Rattle.stroke.proofs.Stretches.{dot_there, dot_found}
use Rattle.stroke.proofs.outliner.Outliner.dash_segments.Goals as goal

pub returns-in-Some : goal.returns-in-Some
returns-in-Some g c =
    let from = c.twice_place-from.ensures ∙ ap (twice_place c.len-len.result) (to_z-of_z w64 c.args.range.start (search rules)) in
    c.dash_dot.ensures
    ∙ ap (λ (E : Plan). draw g.S.Sink.acts g.K.MathsHost.acts E (stage g.K.MathsHost.acts c.args.self.now (Ok tt)))
    (dot_there (g.B.Storage.acts.held c.args.storage.now) c.args.range c.in-Some.segment c.len-len.ensures from c.requires.within (sym c.is_dot.ensures ∙ c.if-is_dot.true) c.twice_at.ensures c.in-Some.is)

pub returns-in-None : goal.returns-in-None
returns-in-None g c =
    let from = c.twice_place-from.ensures ∙ ap (twice_place c.len-len.result) (to_z-of_z w64 c.args.range.start (search rules)) in
    dot_found (g.B.Storage.acts.held c.args.storage.now) c.args.range c.len-len.ensures from c.requires.within c.twice_at.ensures c.in-None.is
