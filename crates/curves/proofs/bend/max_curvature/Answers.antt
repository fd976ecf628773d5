use Rattle.std.proofs.Common.{ap, ◌∙◌}
use Rattle.curves.specs.Roots.{roots}
use Rattle.curves.proofs.bend.max_curvature.Goals as goal

pub returns-clause-answer : goal.returns-clause-answer
returns-clause-answer g c = c.solve.ensures.answer ∙ ap (roots (g.K.MathsHost.acts.functions c.args.host.now)) c.bend.ensures
