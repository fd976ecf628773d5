use Rattle.std.proofs.Common.{◌≡◌, ◌+◌, ◌≤◌, ◌++◌, length, drop}
use Rattle.numbers.specs.Arithmetic.{zero}
use Rattle.cursor.specs.Cuts.{all_inside, slices}
use Rattle.cursor.proofs.cuts.cut_at.Given as goal

-- the slices so far, with those at the cuts that are left, are the slices at all cuts
abbrev pub invariant-loop-t : goal.invariant-loop-t
invariant-loop-t l = record {
  slices : l.pieces.items ++ slices l.curve l.last (all_inside (drop l.t-index l.t-items)) ≡ slices l.curve zero (all_inside l.t-items);
  few : length l.pieces.items ≤ l.t-index;
  room : 4 ≤ length l.pieces.items + length l.pieces.spare;
}
