use Rattle.std.proofs.Common.{◌≡◌, false, drop}
use Rattle.numbers.specs.Arithmetic.{zero}
use Rattle.dashes.specs.Patterns.{gap_sum}
use Rattle.dashes.proofs.pattern.gap_sum.Given as goal

-- the sum so far goes on with what is left
abbrev pub invariant-loop-x : goal.invariant-loop-x
invariant-loop-x l = gap_sum l.is_gap l.sum (drop l.x-index l.lengths) ≡ gap_sum false zero l.lengths
