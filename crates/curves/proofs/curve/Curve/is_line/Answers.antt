use Rattle.curves.proofs.Reversing.{count_either_way}
use Rattle.curves.proofs.curve.Curve.is_line.Goals as goal

pub returns-clause-either_way : goal.returns-clause-either_way
returns-clause-either_way c = count_either_way c.args.self c.args.tolerance c.nearly_eq_by-ab.ensures c.nearly_eq_by-bc.ensures c.nearly_eq_by-cd.ensures
