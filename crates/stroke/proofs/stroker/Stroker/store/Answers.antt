use Rattle.std.proofs.Common.{ap, ◌∙◌}
use Rattle.stroke.specs.Strokers.{stroking}
use Rattle.stroke.proofs.Performing.{stored}
use Rattle.stroke.proofs.stroker.Stroker.store.Goals as goal

pub returns : goal.returns
returns g c =
    let a = c.args.self.now in
    ap (stroking g.K.MathsHost.acts (record a { storage = record a.storage { now = c.push.new.self } })) c.refused_by_storage.ensures ∙ stored g.S.Sink.acts g.B.Storage.acts g.K.MathsHost.acts c.args.segment a c.push.ensures.answer c.push.ensures.after
