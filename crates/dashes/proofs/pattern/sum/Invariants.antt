use Rattle.std.proofs.Common.{◌≡◌, fold, drop}
use Rattle.numbers.specs.Arithmetic.{◌⊕◌, zero}
use Rattle.dashes.proofs.pattern.sum.Given as goal

-- the sum so far goes on with what is left
abbrev pub invariant-loop-x : goal.invariant-loop-x
invariant-loop-x l = fold (λ sum x. sum ⊕ x) l.sum (drop l.x-index l.lengths) ≡ fold (λ sum x. sum ⊕ x) zero l.lengths
