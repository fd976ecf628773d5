-- The `f32` nearest to an `f64`, by the pattern: 29 digits fewer, and an exponent that counts from 896 less.
use Rattle.std.proofs.Common.{◌≡◌, ℕ, suc, ◌+◌, ◌-◌, ◌*◌, ◌/◌, ◌%◌, ◌^◌, ◌<◌, ◌≤◌, Bool, true, false, cond, not, T, eqb, leb, sym, refl, ap, ◌∙◌, subst, arith, tests, rules, le-ltb, leb-true, leb-false, ne_eqb, pow-add, pow_pos, pow_mono, mul-pos, mul-le-mul_right, mul-lt-mul_of_pos_right, mul-div_cancel, le-div_iff_mul-le, div-lt_iff_lt-mul, eq-or-lt_of_le, inl, inr}
use Rattle.std.specs.Float.{round_to_format}
use lib.Ieee.{Float, nan, inf, fin, binary32, binary64, up, down, size, odd, round, units, fits, of_fields, of_bits, to_bits, nan_bits}
use lib.Ieee.Bits.{of_bits-to_bits, nan_bits_above}
use lib.Ieee.Exact.{HasValue, odd_sign, units_val}
use lib.Ieee.Fits.{down_pos, round_is, round-fits, core}
use lib.Ieee.Nearest.{closest, closest_same}
use lib.Ieee.Scale.{round_same}
use Rattle.numbers.proofs.Patterns.{bits_of_value}
use Rattle.numbers.proofs.Squares.{size_is}

-- ---- whole numbers

kept_is : (x : ℕ) → (x + 0x0fff_ffff + x / 2 ^ 29 % 2) / 2 ^ 29 ≡ closest x (2 ^ 29)
kept_is x = search (tests, rules)

-- ---- the pattern of k * 2 ^ i / 2 ^ 149, with a k of 24 digits

written : (x : Float) (s : Bool) (k i : ℕ) → HasValue x s (k * 2 ^ i) (2 ^ 149) → 2 ^ 23 ≤ k → k < 2 ^ 24 → to_bits binary32 x ≡ cond s (2 ^ 31) 0 + i * 2 ^ 23 + k
written x s k i v least few =
    let lo : 2 ^ (i + 23) ≤ k * 2 ^ i = omega (arith, pow-add 2 i 23, mul-le-mul_right (2 ^ i) least) in
    let hi : k * 2 ^ i < 2 ^ (i + 23 + 1) = omega (arith, pow-add 2 (i + 23) 1, pow-add 2 i 23, mul-lt-mul_of_pos_right few (pow_pos i)) in
    let z : size (k * 2 ^ i) - 24 ≡ i = omega (arith, size_is (k * 2 ^ i) (i + 23) lo hi) in
    bits_of_value x s (k * 2 ^ i) v ∙ ap (λ (l : ℕ). cond s (2 ^ 31) 0 + l * 2 ^ 23 + k * 2 ^ i / 2 ^ l) z ∙ ap (λ (q : ℕ). cond s (2 ^ 31) 0 + i * 2 ^ 23 + q) (mul-div_cancel k (pow_pos i))

-- a digit too many is carried into the exponent
carried : (x : Float) (s : Bool) (k i : ℕ) → HasValue x s (k * 2 ^ i) (2 ^ 149) → 2 ^ 23 ≤ k → k ≤ 2 ^ 24 → to_bits binary32 x ≡ cond s (2 ^ 31) 0 + i * 2 ^ 23 + k
carried x s k i v least few = elim (eq-or-lt_of_le few) [
  | inl e ↦
      let same : k * 2 ^ i ≡ 2 ^ 23 * 2 ^ (i + 1) = omega (arith, pow-add 2 i 1, ap (λ (q : ℕ). q * 2 ^ i) e) in
      written x s (2 ^ 23) (i + 1) (subst (λ (a : ℕ). HasValue x s a (2 ^ 149)) same v) (omega arith) (omega arith) ∙ omega arith
  | inr l ↦ written x s k i v least l
]

-- ---- m * 2 ^ j / 2 ^ 178 rounded, with an m of 53 digits

module _ (m j : ℕ) (least : 2 ^ 52 ≤ m) (few : m < 2 ^ 53) where
  abbrev kept : ℕ
  kept = closest m (2 ^ 29)

  C : 0 < 2 ^ 178
  C = pow_pos 178

  drop_is : size (m * 2 ^ j * 2 ^ 149 / 2 ^ 178) - 24 ≡ j
  drop_is =
      let lo : 2 ^ (j + 23) * 2 ^ 178 ≤ m * 2 ^ j * 2 ^ 149 = omega (arith, pow-add 2 j 23, mul-le-mul_right (2 ^ j) least) in
      let hi : m * 2 ^ j * 2 ^ 149 < 2 ^ (j + 23 + 1) * 2 ^ 178 = omega (arith, pow-add 2 (j + 23) 1, pow-add 2 j 23, mul-lt-mul_of_pos_right few (pow_pos j)) in
      omega (arith, size_is (m * 2 ^ j * 2 ^ 149 / 2 ^ 178) (j + 23) ((le-div_iff_mul-le C).1 lo) ((div-lt_iff_lt-mul C).1 hi))

  regroup : (a p : ℕ) → a * p * 2 ^ 149 * 2 ^ 29 ≡ a * (2 ^ 178 * p)
  regroup a p = omega arith

  rounded : (s : Bool) → round binary32 s (m * 2 ^ j) (2 ^ 178) ≡ units binary32 s kept j
  rounded s =
      round_is binary32 s (m * 2 ^ j) (2 ^ 178) ∙ ap (core binary32 s (m * 2 ^ j * 2 ^ 149) (2 ^ 178)) drop_is
      ∙ ap (λ (q : ℕ). units binary32 s q j) (closest_same (m * 2 ^ j * 2 ^ 149) (2 ^ 178 * 2 ^ j) m (2 ^ 29) (mul-pos C (pow_pos j)) (omega arith) (regroup m (2 ^ j)))

  under : j * 2 ^ 23 + kept < 255 * 2 ^ 23 → kept * 2 ^ j < 2 ^ 277
  under h =
      let most : kept ≤ 2 ^ 24 = omega (arith, kept_is m) in
      elim (eq-or-lt_of_le most) [
        | inl e ↦ omega (arith, pow_mono {i = j} {j = 252} (omega arith), ap (λ (q : ℕ). q * 2 ^ j) e)
        | inr l ↦ omega (arith, pow_mono {i = j} {j = 253} (omega (arith, kept_is m)), mul-lt-mul_of_pos_right l (pow_pos j))
      ]

  pattern_is : (s : Bool) → j * 2 ^ 23 + kept < 255 * 2 ^ 23 → to_bits binary32 (round binary32 s (m * 2 ^ j) (2 ^ 178)) ≡ cond s (2 ^ 31) 0 + j * 2 ^ 23 + kept
  pattern_is s h =
      let v = subst (λ (y : Float). HasValue y s (kept * 2 ^ j) (2 ^ 149)) (sym (rounded s)) (units_val binary32 s kept j (under h)) in
      carried _ s kept j v (omega (arith, kept_is m)) (omega (arith, kept_is m))

-- ---- from the pattern of the `f64`

fields_value : (s : Bool) (x t k : ℕ) → x ≡ suc k → suc k < 2047 → HasValue (of_fields binary64 s x t) s ((2 ^ 52 + t) * 2 ^ k) (2 ^ 1074)
unfolding of_fields
fields_value s x t k X l =
    subst (λ (a : ℕ). HasValue (of_fields binary64 s a t) s ((2 ^ 52 + t) * 2 ^ k) (2 ^ 1074)) (sym X)
    (subst (λ (a : Bool). HasValue (cond a (cond (eqb t 0) (inf s) nan) (odd 53 s (2 ^ 52 + t) k 1074)) s ((2 ^ 52 + t) * 2 ^ k) (2 ^ 1074)) (sym (ne_eqb (suc k) 2047 (omega arith)))
    (odd_sign 53 s (2 ^ 52 + t) k 1074))

normal_value : (b k : ℕ) → b % 2 ^ 63 / 2 ^ 52 ≡ suc k → suc k < 2047 → HasValue (of_bits binary64 b) (leb (2 ^ 63) b) ((2 ^ 52 + b % 2 ^ 52) * 2 ^ k) (2 ^ 1074)
unfolding of_bits
normal_value b k e l = fields_value (leb (2 ^ 63) b) (b % 2 ^ 63 / 2 ^ 52) (b % 2 ^ 52) k e l

of_value : (y : Float) (s : Bool) (a c : ℕ) → 0 < c → HasValue y s a c → round_to_format binary32 y ≡ round binary32 s a c
unfolding round_to_format
of_value nan s a c C v = absurd v
of_value (inf t) s a c C v = absurd v
of_value (fin t m e) s a c C v = ap (λ (r : Bool). round binary32 r (m * up e) (down e)) v.0 ∙ round_same binary32 s (m * up e) (down e) a c (down_pos e) C v.1

sign_is : (b : ℕ) → b < 2 ^ 64 → cond (leb (2 ^ 63) b) (2 ^ 31) 0 ≡ b / 2 ^ 63 * 2 ^ 31
sign_is b fit = by (leb (2 ^ 63) b) refl
  where
    by : (s : Bool) → leb (2 ^ 63) b ≡ s → cond s (2 ^ 31) 0 ≡ b / 2 ^ 63 * 2 ^ 31
    by true e = omega (arith, leb-true _ _ e)
    by false e = omega (arith, leb-false _ _ e)

module _ (b q : ℕ) (fit : b < 2 ^ 64) (low : 0x3810_0000_0000_0000 ≤ b % 2 ^ 63) (high : b % 2 ^ 63 < 0x47ef_ffff_f000_0000) (is : q ≡ closest (b % 2 ^ 63) (2 ^ 29)) where
  abbrev m : ℕ
  m = 2 ^ 52 + b % 2 ^ 52

  abbrev j : ℕ
  j = b % 2 ^ 63 / 2 ^ 52 - 897

  abbrev p : ℕ
  p = q - 896 * 2 ^ 23 + b / 2 ^ 63 * 2 ^ 31

  q_is : q ≡ (b % 2 ^ 63 + 0x0fff_ffff + b % 2 ^ 63 / 2 ^ 29 % 2) / 2 ^ 29
  q_is = is ∙ sym (kept_is (b % 2 ^ 63))

  fewer : j * 2 ^ 23 + closest m (2 ^ 29) ≡ q - 896 * 2 ^ 23
  fewer = omega (arith, q_is, kept_is m)

  pub is_number : T (not (nan_bits binary32 p))
  is_number = subst (λ (t : Bool). T (not t)) (sym (nan_bits_above binary32 p ∙ le-ltb _ _ (omega (arith, q_is)))) tt

  value : m * 2 ^ (b % 2 ^ 63 / 2 ^ 52 - 1) * 2 ^ 178 ≡ m * 2 ^ j * 2 ^ 1074
  value =
      let e : b % 2 ^ 63 / 2 ^ 52 - 1 ≡ j + 896 = omega arith in
      ap (λ (k : ℕ). m * 2 ^ k * 2 ^ 178) e ∙ ap (λ (k : ℕ). m * k * 2 ^ 178) (pow-add 2 j 896) ∙ omega arith

  pub narrows : of_bits binary32 p ≡ round_to_format binary32 (of_bits binary64 b)
  narrows =
      let s = leb (2 ^ 63) b in
      let r = round binary32 s (m * 2 ^ j) (2 ^ 178) in
      let bits : to_bits binary32 r ≡ p = pattern_is m j (omega arith) (omega arith) s (omega (arith, q_is, fewer)) ∙ omega (arith, fewer, sign_is b fit) in
      ap (of_bits binary32) (sym bits) ∙ of_bits-to_bits binary32 r (round-fits binary32 s (m * 2 ^ j) (2 ^ 178))
      ∙ round_same binary32 s (m * 2 ^ j) (2 ^ 178) (m * 2 ^ (b % 2 ^ 63 / 2 ^ 52 - 1)) (2 ^ 1074) (pow_pos 178) (pow_pos 1074) (sym value)
      ∙ sym (of_value (of_bits binary64 b) s (m * 2 ^ (b % 2 ^ 63 / 2 ^ 52 - 1)) (2 ^ 1074) (pow_pos 1074) (normal_value b (b % 2 ^ 63 / 2 ^ 52 - 1) (omega arith) (omega arith)))

pub of_pattern : (y : Float) (b : ℕ) → fits binary64 y ≡ true → b ≡ to_bits binary64 y → round_to_format binary32 (of_bits binary64 b) ≡ round_to_format binary32 y
of_pattern y b f e = ap (round_to_format binary32) (ap (of_bits binary64) e ∙ of_bits-to_bits binary64 y (subst T (sym f) tt))
