use Rattle.std.proofs.Common.{sym, ◌∙◌}
use Rattle.pen.proofs.Causes.{within_limit}
use Rattle.pen.proofs.corner.Corner.between.Goals as goal

pub returns-in-Miter-clause-limit : goal.returns-in-Miter-clause-limit
returns-in-Miter-clause-limit c = λ is. within_limit c.args.nib c.args.turn (sym c.miter_corner.ensures ∙ is)
