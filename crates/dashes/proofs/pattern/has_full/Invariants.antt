use Rattle.std.proofs.Common.{◌≡◌, drop}
use Rattle.dashes.specs.Patterns.{some, full}
use Rattle.dashes.proofs.pattern.has_full.Given as goal

-- what is left decides
abbrev pub invariant-loop-x : goal.invariant-loop-x
invariant-loop-x l = some full (drop l.x-index l.lengths) ≡ some full l.lengths
