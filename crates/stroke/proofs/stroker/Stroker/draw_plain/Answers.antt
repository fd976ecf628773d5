use Rattle.std.proofs.Common.{sym, ap}
use Rattle.stroke.specs.Events.{Standing}
use Rattle.stroke.specs.Outlines.{outline}
use Rattle.stroke.proofs.Performing.{outlined}
use Rattle.stroke.proofs.stroker.Stroker.draw_plain.Goals as goal

pub shape_of-self : goal.shape_of-self
unfolding Rattle.stroke.specs.Events.draw
shape_of-self g c = sym (ap (λ (d : Standing _ _). d.names.1) c.stroke_segments-drawn.ensures)

pub shape_of-self-2 : goal.shape_of-self-2
unfolding Rattle.stroke.specs.Events.draw
shape_of-self-2 g c = sym (ap (λ (d : Standing _ _). d.names.0) c.stroke_segments-drawn.ensures)

pub returns : goal.returns
returns g c = outlined g.S.Sink.acts g.B.Storage.acts g.K.MathsHost.acts (outline c.args.closed (g.B.Storage.acts.held c.args.self.now.storage.now)) c.args.self.now _ c.stroke_segments-drawn.ensures c.refused_by_sink.ensures
