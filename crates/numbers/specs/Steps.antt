-- Small steps on floats.
use Rattle.std.specs.Prelude.{◌≡◌, ℕ, ◌+◌, ◌*◌, ◌<◌, ◌≤◌, true, false, if◌then◌else◌, Float}
use Rattle.std.specs.Float.{nan, inf, fin}
use Rattle.std.specs.Float.Ieee.{up, down, lt}
use Rattle.std.specs.Float.Ieee.Exact.{HasValue}

-- the bound that x passes, else x: a NaN passes none
abbrev pub kept_within : Float → Float → Float → Float
kept_within x low high = if lt x low then low else if lt high x then high else x

-- The least whole number that is not below x, with x's sign: k, and -k where x is negative. The size of x is the fraction m * up e / down e.
abbrev pub Ceiling : Float → Float → Type 0
Ceiling nan r = r ≡ nan
Ceiling (inf s) r = r ≡ inf s
Ceiling (fin false m e) r = (k : ℕ) × HasValue r false k 1 × (m * up e ≤ k * down e) × (k * down e < m * up e + down e)
Ceiling (fin true m e) r = (k : ℕ) × HasValue r true k 1 × (k * down e ≤ m * up e) × (m * up e < k * down e + down e)
