-- A number from 0 on and below infinity, over one above 0 that it does not pass, is from 0 to 1.
use Rattle.std.proofs.Common.{◌≡◌, not, ℕ, suc, zero, ◌*◌, ◌<◌, ◌≤◌, Bool, true, false, ◌&&◌, ◌||◌, T, eqb, ltb, pos, ℤ, refl, sym, ap, subst, ◌∙◌, inl, inr, arith, mul-pos, mul-le-mul_right, le_of_lt, le_of_eq, ltb→lt, eqb→eq, ltb-true, ne_eqb}
use Rattle.std.proofs.lemmas.Bool.{or_cases}
use Rattle.std.proofs.lemmas.Float.{T_from_true, le_refl, lt_of_lt_of_le}
use lib.Ieee.{Float, binary32, nan, inf, fin, up, down, round, div, lt, le, eq, is_nan, of_bits}
use lib.Ieee.Bits.{is_true}
use lib.Ieee.Fits.{down_pos, and_l, and_r}
use lib.Ieee.Order.{round_mono}
use lib.Ieee.Scale.{round_same}
use Rattle.numbers.specs.Arithmetic.{zero as zeroᶠ, one, ◌⊘◌}

zero_is : zeroᶠ ≡ fin false 0 (pos 0)
unfolding of_bits
zero_is = refl

one_is : one ≡ fin false 1 (pos 0)
unfolding of_bits
one_is = refl

-- ---- the order of two that are not below 0

at_most : (a b : ℕ) → (ltb a b || (eqb a b && true)) ≡ true → a ≤ b
at_most a b t = elim (or_cases (ltb a b) (eqb a b && true) t) [
  | inl u ↦ le_of_lt (ltb-true a b u)
  | inr u ↦ le_of_eq (eqb→eq a b (and_l (eqb a b) true (T_from_true _ u)))
]

crossed : (m : ℕ) (e : ℤ) (n : ℕ) (d : ℤ) → T (le (fin false m e) (fin false n d)) → m * up e * down d ≤ n * up d * down e
unfolding le
crossed m e n d h = at_most (m * up e * down d) (n * up d * down e) (is_true _ h)

-- what is not above 0 and not below 0 is 0
flat : (m : ℕ) (e : ℤ) → T (le (fin false 0 (pos 0)) (fin true m e)) → m * up e ≡ 0
unfolding le lt eq
flat m e h = omega (arith, eqb→eq (0 * 1 * down e) (m * up e * 1) (and_l (eqb (0 * 1 * down e) (m * up e * 1)) (eqb (0 * 1 * down e) 0) h))

some : (n : ℕ) (d : ℤ) → T (lt (fin false 0 (pos 0)) (fin false n d)) → 0 < n * up d
unfolding lt
some n d h = omega (arith, ltb→lt (0 * 1 * down d) (n * up d * 1) h)

-- ---- the rounded fraction

round_low : round binary32 false 0 1 ≡ fin false 0 (pos 0)
unfolding round
round_low = refl

round_below : round binary32 true 0 1 ≡ fin true 0 (pos 0)
unfolding round
round_below = refl

round_high : round binary32 false 1 1 ≡ fin false 1 (pos 0)
unfolding round
round_high = refl

abbrev Within : Float → Type 0
Within t = T (le (fin false 0 (pos 0)) t) × T (le t (fin false 1 (pos 0)))

round_within : (a b : ℕ) → 0 < b → a ≤ b → Within (round binary32 false a b)
round_within a b p h = (
  subst (λ (z : Float). T (le z (round binary32 false a b))) round_low (round_mono binary32 0 1 a b (omega arith) p (omega arith)),
  subst (λ (z : Float). T (le (round binary32 false a b) z)) round_high (round_mono binary32 a b 1 1 p (omega arith) (omega arith)),
)

minus_zero : Within (fin true 0 (pos 0))
unfolding le lt eq
minus_zero = (tt, tt)

zero_within : (b : ℕ) → 0 < b → Within (round binary32 true 0 b)
zero_within b p = subst Within (sym (round_same binary32 true 0 b 0 1 p (omega arith) (omega arith) ∙ round_below)) minus_zero

-- ---- the quotient

div_is : (s : Bool) (m : ℕ) (e : ℤ) (n : ℕ) (d : ℤ) → 0 < n → div binary32 (fin s m e) (fin false n d) ≡ round binary32 s (m * up e * down d) (n * up d * down e)
unfolding div
div_is true m e n d p = rw (ne_eqb n 0 (λ z. omega arith)) refl
div_is false m e n d p = rw (ne_eqb n 0 (λ z. omega arith)) refl

fraction : (s : Bool) (m : ℕ) (e : ℤ) (n : ℕ) (d : ℤ) → T (le (fin false 0 (pos 0)) (fin s m e)) → T (lt (fin false 0 (pos 0)) (fin false n d)) → T (le (fin s m e) (fin false n d))
    → Within (div binary32 (fin s m e) (fin false n d))
fraction s m e zero d low above most = absurd (let p = some zero d above in omega arith)
fraction false m e (suc n) d low above most =
    let p : 0 < suc n * up d * down e = mul-pos (some (suc n) d above) (down_pos e) in
    subst Within (sym (div_is false m e (suc n) d (omega arith))) (round_within (m * up e * down d) (suc n * up d * down e) p (crossed m e (suc n) d most))
fraction true m e (suc n) d low above most =
    let p : 0 < suc n * up d * down e = mul-pos (some (suc n) d above) (down_pos e) in
    let none : m * up e * down d ≡ 0 = omega (arith, ap (λ k. k * down d) (flat m e low)) in
    subst Within (sym (div_is true m e (suc n) d (omega arith) ∙ ap (λ a. round binary32 true a (suc n * up d * down e)) none)) (zero_within (suc n * up d * down e) p)

quotient : (x y : Float) → T (le (fin false 0 (pos 0)) x) → T (lt x (inf false)) → T (lt (fin false 0 (pos 0)) y) → T (le x y) → Within (div binary32 x y)
unfolding lt le div eq
quotient nan y low finite above most = absurd low
quotient (inf true) y low finite above most = absurd low
quotient (inf false) y low finite above most = absurd finite
quotient (fin s m e) nan low finite above most = absurd above
quotient (fin s m e) (inf true) low finite above most = absurd above
quotient (fin true m e) (inf false) low finite above most = (tt, tt)
quotient (fin false m e) (inf false) low finite above most = (tt, tt)
quotient (fin s m e) (fin true n d) low finite above most = absurd above
quotient (fin s m e) (fin false n d) low finite above most = fraction s m e n d low above most

pub quotient_within : (x y : Float) → T (le zeroᶠ x) → T (lt x (inf false)) → T (lt zeroᶠ y) → T (le x y) → T (le zeroᶠ (x ⊘ y)) × T (le (x ⊘ y) one)
quotient_within x y low finite above most =
    let within = quotient x y (subst (λ z. T (le z x)) zero_is low) finite (subst (λ z. T (lt z y)) zero_is above) most in
    (subst (λ z. T (le z (x ⊘ y))) (sym zero_is) within.0, subst (λ z. T (le (x ⊘ y) z)) (sym one_is) within.1)

pub one_within : T (le zeroᶠ one) × T (le one one)
unfolding le lt eq
one_within = rw (zero_is, one_is) (tt, tt)

-- ---- a greater divisor makes less of a number above 0

above_zero : Float → Type 0
above_zero x = T (lt (fin false 0 (pos 0)) x)

least : (a b : ℕ) → 0 < b → T (le (fin false 0 (pos 0)) (round binary32 false a b))
least a b p = subst (λ (z : Float). T (le z (round binary32 false a b))) round_low (round_mono binary32 0 1 a b (omega arith) p (omega arith))

-- no number above 0 is at most one that is not
not_below : (m : ℕ) (e : ℤ) (n : ℕ) (d : ℤ) → T (lt (fin false 0 (pos 0)) (fin false m e)) → T (le (fin false m e) (fin true n d)) → ⊥
unfolding le lt eq
not_below m e n d above h =
    let none : m * up e * down d ≡ 0 = eqb→eq (m * up e * down d) 0 (and_r (eqb (m * up e * down d) (n * up d * down e)) (eqb (m * up e * down d) 0) h) in
    let more : 0 < m * up e * down d = mul-pos (some m e above) (down_pos d) in
    omega arith

fractions : (m : ℕ) (e : ℤ) (n : ℕ) (d : ℤ) (k : ℕ) (c : ℤ) → above_zero (fin false n d) → above_zero (fin false k c) → T (le (fin false k c) (fin false n d))
    → T (le (div binary32 (fin false m e) (fin false n d)) (div binary32 (fin false m e) (fin false k c)))
unfolding above_zero
fractions m e zero d k c above below most = absurd (let p = some zero d above in omega arith)
fractions m e (suc n) d zero c above below most = absurd (let p = some zero c below in omega arith)
fractions m e (suc n) d (suc k) c above below most =
    let p : 0 < suc n * up d * down e = mul-pos (some (suc n) d above) (down_pos e) in
    let q : 0 < suc k * up c * down e = mul-pos (some (suc k) c below) (down_pos e) in
    let h : suc k * up c * down d ≤ suc n * up d * down c = crossed (suc k) c (suc n) d most in
    rw (div_is false m e (suc n) d (omega arith), div_is false m e (suc k) c (omega arith))
    (round_mono binary32 (m * up e * down d) (suc n * up d * down e) (m * up e * down c) (suc k * up c * down e) p q (omega (arith, mul-le-mul_right (m * up e * down e) h)))

-- over an infinity it is 0
over_infinity : (m : ℕ) (e : ℤ) (i : ℕ) (c : ℤ) → above_zero (fin false i c) → T (le (div binary32 (fin false m e) (inf false)) (div binary32 (fin false m e) (fin false i c)))
unfolding div above_zero
over_infinity m e zero c q = absurd (let p = some zero c q in omega arith)
over_infinity m e (suc i) c q = rw (ne_eqb (suc i) 0 (λ z. omega arith)) (least (m * up e * down c) (suc i * up c * down e) (mul-pos (some (suc i) c q) (down_pos e)))

above_too : (i : ℕ) (c : ℤ) (n : ℕ) (d : ℤ) → above_zero (fin false i c) → T (le (fin false i c) (fin false n d)) → above_zero (fin false n d)
unfolding above_zero
above_too i c n d q h = lt_of_lt_of_le (fin false 0 (pos 0)) (fin false i c) (fin false n d) q h

falls : (r s v : Float) → above_zero r → above_zero v → T (le v s) → T (not (is_nan (div binary32 r s))) → T (le (div binary32 r s) (div binary32 r v))
unfolding above_zero lt le eq div is_nan
falls nan s v p q h k = absurd p
falls (inf true) s v p q h k = absurd p
falls (fin true m e) s v p q h k = absurd p
falls r s nan p q h k = absurd q
falls r s (inf true) p q h k = absurd q
falls r s (fin true i c) p q h k = absurd q
falls (inf false) nan v p q h k = absurd k
falls (inf false) (inf t) v p q h k = absurd k
falls (fin false m e) nan v p q h k = absurd k
falls (inf false) (fin t n d) (inf false) p q h k = absurd h
falls (inf false) (fin true n d) (fin false i c) p q h k = absurd (not_below i c n d q h)
falls (inf false) (fin false n d) (fin false i c) p q h k = tt
falls (fin false m e) (inf true) (inf false) p q h k = absurd h
falls (fin false m e) (inf false) (inf false) p q h k = le_refl (fin false 0 (pos 0)) tt
falls (fin false m e) (inf true) (fin false i c) p q h k = absurd h
falls (fin false m e) (inf false) (fin false i c) p q h k = over_infinity m e i c q
falls (fin false m e) (fin t n d) (inf false) p q h k = absurd h
falls (fin false m e) (fin true n d) (fin false i c) p q h k = absurd (not_below i c n d q h)
falls (fin false m e) (fin false n d) (fin false i c) p q h k = fractions m e n d i c (above_too i c n d q h) q h

pub quotient_falls : (r s v : Float) → T (lt zeroᶠ r) → T (lt zeroᶠ v) → T (le v s) → T (not (is_nan (r ⊘ s))) → T (le (r ⊘ s) (r ⊘ v))
unfolding above_zero
quotient_falls r s v p q h k = falls r s v (subst (λ z. T (lt z r)) zero_is p) (subst (λ z. T (lt z v)) zero_is q) h k

-- what is no NaN has no NaN under it
pub divisor_number : (r s : Float) → T (not (is_nan (r ⊘ s))) → T (not (is_nan s))
unfolding div is_nan
divisor_number nan s k = absurd k
divisor_number (inf t) nan k = absurd k
divisor_number (inf t) (inf u) k = tt
divisor_number (inf t) (fin u n d) k = tt
divisor_number (fin t m e) nan k = absurd k
divisor_number (fin t m e) (inf u) k = tt
divisor_number (fin t m e) (fin u n d) k = tt
