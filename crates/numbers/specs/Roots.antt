-- The root of an `f32` by whole numbers and their squares alone. `HasValue x false a c` says that x is finite, not negative, and a / c.
use Rattle.std.specs.Prelude.{◌≡◌, ℕ, zero, suc, ◌+◌, ◌-◌, ◌*◌, ◌^◌, ◌<◌, ◌≤◌, true, false, Float}
use Rattle.std.specs.Float.{nan, inf, fin}
use Rattle.std.specs.Float.Ieee.Exact.{HasValue}

-- The whole number q is nearest to the root of n: the root lies between q - 1/2 and q + 1/2.
-- It is neither of the two, since an odd square is never 4 * n. So there is no tie.
pub record Nearest (n q : ℕ) : Type 0 where
  pub above : (2 * q - 1) * (2 * q - 1) < 4 * n
  pub below : 4 * n < (2 * q + 1) * (2 * q + 1)

-- With the unit u = 2 ^ h / 2 ^ 98, x is n * u * u. Every positive `f32` is that, for one n in these bounds and one unit.
-- It has 24 digits, so n stays 2 ^ 24 below 2 ^ 48.
pub record Scaled (x : Float) (n h : ℕ) : Type 0 where
  pub of : HasValue x false (n * 4 ^ h) (4 ^ 98)
  pub low : 2 ^ 46 ≤ n
  pub high : n + 2 ^ 24 ≤ 2 ^ 48

-- With that unit, r is q * u. The root of x is from 2 ^ 23 * u up to less than 2 ^ 24 * u, where the format's numbers are the whole multiples of u.
-- So r is the number nearest to the root. Ties go to the even one, and there is none.
pub record RootBetween (x r : Float) : Type 0 where
  pub n : ℕ
  pub h : ℕ
  pub q : ℕ
  pub scaled : Scaled x n h
  pub near : Nearest n q
  pub digits : (2 ^ 23 ≤ q) × (q < 2 ^ 24)
  pub is : HasValue r false (q * 2 ^ h) (2 ^ 98)

-- A zero stays, with its sign. What is below it has no root.
abbrev pub NearestRoot : Float → Float → Type 0
NearestRoot nan r = r ≡ nan
NearestRoot (inf false) r = r ≡ inf false
NearestRoot (inf true) r = r ≡ nan
NearestRoot (fin s zero e) r = r ≡ fin s zero e
NearestRoot (fin true (suc m) e) r = r ≡ nan
NearestRoot (fin false (suc m) e) r = RootBetween (fin false (suc m) e) r
