use Rattle.std.proofs.Common.{subst}
use Rattle.pen.specs.declared.corner.Corner.{Corner}
use Rattle.pen.specs.Joins.{LeadsTo}
use Rattle.pen.proofs.Leading.{joined_leads}
use Rattle.pen.proofs.joins.split_join.Goals as goal

pub returns-clause-leads : goal.returns-clause-leads
returns-clause-leads g c =
    let F = g.K.MathsHost.acts.functions c.args.host.now in
    subst (λ (corner : Corner). LeadsTo c.args.turn.to corner c.shape.result.items) c.split_corner.ensures (joined_leads F c.split_corner.result c.args.nib c.args.turn c.shape.ensures.answer)
