use Rattle.std.proofs.Common.{Ok, sym, ap, ◌∙◌}
use Rattle.stroke.specs.Events.{Plan, draw}
use Rattle.stroke.specs.Outlines.{dot_on, first_point}
use Rattle.stroke.specs.Outliners.{stage}
use Rattle.stroke.proofs.Drawn.{draw_by_nib}
use Rattle.stroke.proofs.Walking.{first_dot}
use Rattle.stroke.proofs.outliner.Outliner.lone_dot.Goals as goal

pub returns : goal.returns
returns g c =
    let here = stage g.K.MathsHost.acts c.args.self.now (Ok tt) in
    let at = first_dot (g.R.Row.pieces c.args.row.now) c.in-Some.segment (sym c.get.ensures ∙ c.in-Some.is) in
    c.spot.ensures ∙ simp (c.add.ensures, c.sub.ensures, c.mul-way.ensures, c.new-up.ensures, c.first_point-point.ensures) (sym (draw_by_nib g.S.Sink.acts g.K.MathsHost.acts (dot_on (first_point c.in-Some.segment)) here)) ∙ sym (ap (λ (E : Plan). draw g.S.Sink.acts g.K.MathsHost.acts E here) at)
