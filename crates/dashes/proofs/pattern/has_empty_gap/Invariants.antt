use Rattle.std.proofs.Common.{◌≡◌, false, drop}
use Rattle.dashes.specs.Patterns.{empty_gap}
use Rattle.dashes.proofs.pattern.has_empty_gap.Given as goal

-- what is left decides
abbrev pub invariant-loop-x : goal.invariant-loop-x
invariant-loop-x l = empty_gap l.odd l.is_gap (drop l.x-index l.lengths) ≡ empty_gap l.odd false l.lengths
