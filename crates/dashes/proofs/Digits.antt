-- The digits of a number above 0, by its pattern.
use Rattle.std.proofs.Common.{◌≡◌, ℕ, zero, suc, ◌+◌, ◌-◌, ◌*◌, ◌/◌, ◌%◌, ◌^◌, ◌<◌, ◌≤◌, Bool, true, false, cond, ◌&&◌, T, eqb, ltb, leb, ℤ, pos, refl, sym, ap, ◌∙◌, subst, arith, inl, inr, true≢false, ltb→lt, leb→le, eq-zero-or-pos, le-div_iff_mul-le, div-lt_iff_lt-mul, mod-eq_of_lt, pow-add, pow_mono, ne_eqb, ltb-true, one-mul}
use Rattle.std.proofs.lemmas.Bool.{and_parts}
use Rattle.std.proofs.lemmas.Float.{T_from_true}
use borrow.Author.Tests.{lt-leb}
use lib.Ieee.{Float, nan, inf, fin, binary32, up, down, size, lt, odd, of_fields, of_bits, to_bits, fits}
use lib.Ieee.Bits.{of_bits-to_bits}
use lib.Ieee.Digits.{size-le}
use lib.Ieee.Exact.{HasValue, odd_sign}
use lib.Ieee.Fits.{down_pos, and_l, and_r, kept-lt}
use Rattle.numbers.proofs.Patterns.{zero_is, above_nought}
use Rattle.dashes.specs.Remainders.{positive, HasDigits}

-- ---- what a pattern stands for

fields_value : (s : Bool) (x t k : ℕ) → s ≡ false → x ≡ suc k → suc k < 255 → HasValue (of_fields binary32 s x t) false ((2 ^ 23 + t) * 2 ^ k) (2 ^ 149)
unfolding of_fields
fields_value s x t k S X l =
    let e : eqb (suc k) 255 ≡ false = ne_eqb (suc k) 255 (omega arith) in
    subst (λ (a : Bool). HasValue (of_fields binary32 a x t) false ((2 ^ 23 + t) * 2 ^ k) (2 ^ 149)) (sym S)
    (subst (λ (a : ℕ). HasValue (of_fields binary32 false a t) false ((2 ^ 23 + t) * 2 ^ k) (2 ^ 149)) (sym X)
    (subst (λ (a : Bool). HasValue (cond a (cond (eqb t 0) (inf false) nan) (odd 24 false (2 ^ 23 + t) k 149)) false ((2 ^ 23 + t) * 2 ^ k) (2 ^ 149)) (sym e)
    (odd_sign 24 false (2 ^ 23 + t) k 149)))

low_value : (s : Bool) (x t : ℕ) → s ≡ false → x ≡ 0 → HasValue (of_fields binary32 s x t) false (t * 2 ^ 0) (2 ^ 149)
unfolding of_fields
low_value s x t S X =
    subst (λ (a : Bool). HasValue (of_fields binary32 a x t) false (t * 2 ^ 0) (2 ^ 149)) (sym S)
    (subst (λ (a : ℕ). HasValue (of_fields binary32 false a t) false (t * 2 ^ 0) (2 ^ 149)) (sym X) (odd_sign 24 false t 0 149))

normal_value : (b k : ℕ) → b / 2 ^ 23 ≡ k + 1 → k < 254 → HasDigits (of_bits binary32 b) (2 ^ 23 + b % 2 ^ 23) k
unfolding of_bits
normal_value b k e l = fields_value (leb (2 ^ 31) b) (b % 2 ^ 31 / 2 ^ 23) (b % 2 ^ 23) k (lt-leb (2 ^ 31) b (omega arith)) (omega arith) (omega arith)

subnormal_value : (b : ℕ) → b < 2 ^ 23 → HasDigits (of_bits binary32 b) (b % 2 ^ 23) 0
unfolding of_bits
subnormal_value b l = low_value (leb (2 ^ 31) b) (b % 2 ^ 31 / 2 ^ 23) (b % 2 ^ 23) (lt-leb (2 ^ 31) b (omega arith)) (omega arith)

same_digits : (x : Float) (a b p : ℕ) → a ≡ b → HasDigits x a p → HasDigits x b p
same_digits x a b p e v = subst (λ (k : ℕ). HasDigits x k p) e v

pub normal_digits : (b : ℕ) → 2 ^ 23 ≤ b → b < 255 * 2 ^ 23 → HasDigits (of_bits binary32 b) (b % 2 ^ 23 + 2 ^ 23) (b / 2 ^ 23 - 1)
normal_digits b lo hi = same_digits (of_bits binary32 b) (2 ^ 23 + b % 2 ^ 23) (b % 2 ^ 23 + 2 ^ 23) (b / 2 ^ 23 - 1) (omega arith) (normal_value b (b / 2 ^ 23 - 1) (omega arith) (omega arith))

pub subnormal_digits : (b : ℕ) → b < 2 ^ 23 → HasDigits (of_bits binary32 b) b 0
subnormal_digits b l = same_digits (of_bits binary32 b) (b % 2 ^ 23) b 0 (mod-eq_of_lt l) (subnormal_value b l)

-- ---- powers of 2

pub low_power : (p : ℕ) → p < 23 → HasDigits (of_bits binary32 (1 * 2 ^ p % 2 ^ 32)) 1 p
low_power p l =
    let few : p ≤ 22 = omega arith in
    let small : 2 ^ p < 2 ^ 23 = omega (arith, pow_mono few) in
    let whole : 1 * 2 ^ p % 2 ^ 32 ≡ 2 ^ p = ap (λ (x : ℕ). x % 2 ^ 32) (one-mul (2 ^ p)) ∙ mod-eq_of_lt {n = 2 ^ p} {m = 2 ^ 32} (omega arith) in
    let moved : 2 ^ p * 2 ^ 0 ≡ 1 * 2 ^ p = omega arith in
    rw whole (subst (λ (k : ℕ). HasValue (of_bits binary32 (2 ^ p)) false k (2 ^ 149)) moved (subnormal_digits (2 ^ p) small))

pub high_power : (p : ℕ) → 23 ≤ p → p < 254 → HasDigits (of_bits binary32 ((p - 22) * 2 ^ 23)) 1 p
high_power p lo hi =
    let b = (p - 22) * 2 ^ 23 in
    let k = p - 23 in
    let power : 2 ^ p ≡ 2 ^ 23 * 2 ^ k = ap (λ (i : ℕ). 2 ^ i) {x = p} {y = 23 + k} (omega arith) ∙ pow-add 2 23 k in
    let digits : (2 ^ 23 + b % 2 ^ 23) * 2 ^ k ≡ 1 * 2 ^ p = ap (λ (x : ℕ). x * 2 ^ k) {x = 2 ^ 23 + b % 2 ^ 23} {y = 2 ^ 23} (omega arith) ∙ sym power ∙ sym (one-mul (2 ^ p)) in
    subst (λ (k : ℕ). HasValue (of_bits binary32 b) false k (2 ^ 149)) digits (normal_value b k (omega arith) (omega arith))

-- ---- the pattern of a number above 0 and below the infinity

pub infinity_is : of_bits binary32 0x7f80_0000 ≡ inf false
unfolding of_bits
infinity_is = refl

abbrev above : Float → Bool
above x = lt (fin false 0 (pos 0)) x && lt x (inf false)

pub above_is : (x : Float) → positive x ≡ above x
above_is x i = lt (zero_is i) x && lt x (infinity_is i)

not_above_zero : (e : ℤ) → above (fin false zero e) ≡ true → ⊥
unfolding lt
not_above_zero e t = omega (arith, ltb-true (0 * 1 * down e) (0 * up e * 1) (and_parts (ltb (0 * 1 * down e) (0 * up e * 1)) true t).0)

pattern_in : (a : ℕ) → 0 < a → a < 2 ^ 277 → (0 < 0 + (size a - 24) * 2 ^ 23 + a / 2 ^ (size a - 24)) × (0 + (size a - 24) * 2 ^ 23 + a / 2 ^ (size a - 24) < 255 * 2 ^ 23)
pattern_in a lo hi = (
  elim (eq-zero-or-pos (size a - 24)) [
    | inl z ↦ rw z (omega arith)
    | inr p ↦ omega arith
  ],
  omega (arith, size-le a 277 hi, kept-lt 24 a),
)

bits_in : (m : ℕ) (e : ℤ) → T (fits binary32 (fin false (suc m) e)) → (0 < to_bits binary32 (fin false (suc m) e)) × (to_bits binary32 (fin false (suc m) e) < 255 * 2 ^ 23)
unfolding to_bits fits
bits_in m e f =
    let a = eqb (suc m % 2) 1 && ltb (suc m) (2 ^ 24) in
    let b = leb (down e) (2 ^ 149) in
    let t = ltb (suc m * up e) (2 ^ 128 * down e) in
    let low : down e ≤ 2 ^ 149 = leb→le (down e) (2 ^ 149) (and_r a b (and_l (a && b) t f)) in
    let high : suc m * up e < 2 ^ 128 * down e = ltb→lt (suc m * up e) (2 ^ 128 * down e) (and_r (a && b) t f) in
    pattern_in (suc m * up e * 2 ^ 149 / down e)
    ((le-div_iff_mul-le (down_pos e)).1 (omega (arith, above_nought m e)))
    ((div-lt_iff_lt-mul (down_pos e)).1 (omega arith))

above_bits : (x : Float) → T (fits binary32 x) → above x ≡ true → (0 < to_bits binary32 x) × (to_bits binary32 x < 255 * 2 ^ 23)
unfolding lt
above_bits nan f t = absurd (true≢false (sym t))
above_bits (inf true) f t = absurd (true≢false (sym t))
above_bits (inf false) f t = absurd (true≢false (sym t))
above_bits (fin true m e) f t = absurd (true≢false (sym t))
above_bits (fin false zero e) f t = absurd (not_above_zero e t)
above_bits (fin false (suc m) e) f t = bits_in m e f

pub positive_bits : (x : Float) (b : ℕ) → fits binary32 x ≡ true → positive x ≡ true → b ≡ to_bits binary32 x → (0 < b) × (b < 255 * 2 ^ 23)
positive_bits x b f is e = subst (λ (n : ℕ). (0 < n) × (n < 255 * 2 ^ 23)) (sym e) (above_bits x (T_from_true _ f) (sym (above_is x) ∙ is))

pub of_pattern : (x : Float) (b d p : ℕ) → fits binary32 x ≡ true → b ≡ to_bits binary32 x → HasDigits (of_bits binary32 b) d p → HasDigits x d p
of_pattern x b d p f e has = subst (λ (y : Float). HasDigits y d p) (ap (of_bits binary32) e ∙ of_bits-to_bits binary32 x (T_from_true _ f)) has
