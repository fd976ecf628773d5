use Rattle.std.proofs.Common.{◌≡◌, ◌+◌, ◌*◌, ◌≤◌, length, take}
use Rattle.cursor.specs.Cuts.{all_halved}
use Rattle.cursor.proofs.cuts.halve_all.Given as goal

abbrev pub invariant-loop-curve : goal.invariant-loop-curve
invariant-loop-curve l = (l.pieces.items ≡ all_halved (take l.curve-index l.curve-items)) × (16 ≤ length l.pieces.spare + 4 * l.curve-index)
