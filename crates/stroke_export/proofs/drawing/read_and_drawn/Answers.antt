use Rattle.stroke_export.proofs.Writings.{stroke_writes}
use Rattle.stroke_export.proofs.drawing.read_and_drawn.Goals as goal

pub returns-clause-writes : goal.returns-clause-writes
returns-clause-writes g c =
    stroke_writes g.B.Storage.acts g.K.MathsHost.acts _ c.args.sink.now c.args.storage.now c.args.host.now c.stroke_with_storage.ensures.whole
