use Rattle.std.proofs.Common.{◌≡◌, false, drop}
use Rattle.dashes.specs.Spans.{further, reach}
use Rattle.dashes.proofs.dasher.reach.find_reach.Given as goal

-- what is still to be walked comes as far as all of it does
abbrev pub invariant-loop-i : goal.invariant-loop-i
invariant-loop-i g l = further false l.last l.i l.goal (drop l.i (g.B.Storage.acts.held l.storage)) ≡ reach (g.B.Storage.acts.held l.storage) l.start l.along l.len
