use Rattle.std.proofs.Common.{sym, ap}
use Rattle.stroke.specs.Events.{Standing}
use Rattle.stroke.specs.Ranges.{dash_of}
use Rattle.stroke.proofs.Performing.{outlined}
use Rattle.stroke.proofs.stroker.Stroker.draw_dash.Goals as goal

pub shape_of-self : goal.shape_of-self
unfolding Rattle.stroke.specs.Events.draw
shape_of-self g c = sym (ap (λ (d : Standing _ _). d.names.1) c.dash_segments-drawn.ensures)

pub shape_of-self-2 : goal.shape_of-self-2
unfolding Rattle.stroke.specs.Events.draw
shape_of-self-2 g c = sym (ap (λ (d : Standing _ _). d.names.0) c.dash_segments-drawn.ensures)

pub returns : goal.returns
returns g c = outlined g.S.Sink.acts g.B.Storage.acts g.K.MathsHost.acts (dash_of (g.B.Storage.acts.held c.args.self.now.storage.now) c.args.range) c.args.self.now _ c.dash_segments-drawn.ensures c.refused_by_sink.ensures
