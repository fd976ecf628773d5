-- Reading operands off the front of a row of bytes.
use Rattle.std.specs.Prelude.{◌≡◌, ℕ, ◌<◌, ◌≤◌, List, length, drop, Result, MatchResult}
use Rattle.path.specs.declared.refusal.Reason.{Reason}
use Rattle.path.specs.declared.refusal.Reason.TheVariants.{MissingOperands}

-- x is read of the first n bytes of a row, and those after them are left; refused where there are fewer
abbrev pub Front : {X : Type 0} → ℕ → X → List ℕ → List ℕ → Result X Reason → Type 0
Front n x bytes rest r = MatchResult r (λ y. (n ≤ length bytes) × (y ≡ x) × (rest ≡ drop n bytes)) (λ e. (length bytes < n) × (e ≡ MissingOperands))
