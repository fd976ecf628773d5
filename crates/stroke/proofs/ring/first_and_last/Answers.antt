use Rattle.std.proofs.Common.{sym, ◌∙◌}
use Rattle.stroke.proofs.Walking.{ends_found}
use Rattle.stroke.proofs.ring.first_and_last.Goals as goal

pub returns : goal.returns
returns g c = ends_found (g.R.Row.pieces c.args.row.now) c.len.result c.in_ok-first.first c.in_ok-last.last c.len.ensures (sym c.get.ensures ∙ c.in_ok-first.was) (sym c.get-2.ensures ∙ c.in_ok-last.was)
