use Rattle.std.proofs.Common.{ap, ◌∙◌}
use Rattle.stroke.specs.Strokers.{stroking}
use Rattle.stroke.proofs.Performing.{spent}
use Rattle.stroke.proofs.stroker.Stroker.spend.Goals as goal

pub returns : goal.returns
returns g c =
    let a = c.args.self.now in
    ap (stroking g.K.MathsHost.acts (record a { steps = c.spend.new.self })) c.refused_by_budget.ensures ∙ spent g.S.Sink.acts g.B.Storage.acts g.K.MathsHost.acts a c.spend.ensures.answer c.spend.ensures.after
