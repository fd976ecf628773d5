use Rattle.std.proofs.Common.{◌≡◌, drop}
use Rattle.dashes.specs.Patterns.{some, negative}
use Rattle.dashes.proofs.pattern.has_negative.Given as goal

-- what is left decides
abbrev pub invariant-loop-x : goal.invariant-loop-x
invariant-loop-x l = some negative (drop l.x-index l.lengths) ≡ some negative l.lengths
