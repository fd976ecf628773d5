-- The remainder of two numbers above 0, by their digits.
use Rattle.std.proofs.Common.{◌≡◌, ℕ, zero, suc, ◌+◌, ◌-◌, ◌*◌, ◌/◌, ◌%◌, ◌^◌, ◌<◌, ◌≤◌, Bool, true, false, cond, eqb, ltb, lt-ltb, ℤ, pos, refl, sym, ap, ◌∙◌, subst, arith, lit<, lit≤, mul_assoc, mul_comm, mul_right_comm, mul-one, one-mul, pow-add, pow_pos, pow_mono, mul-pos, add-mul, true≢false, ne_eqb, mul-lt-mul_of_pos_right, mul-le-mul_right, mul-le-mul_left, div-add-mod', mod-eq_of_lt, mod-lt, lt_of_lt_of_le, le_trans}
use Rattle.std.proofs.Math.Nat.{mul-add-mod_self_right}
use lib.Ieee.{Float, nan, inf, fin, binary32, up, down, round, mul, rem, of_int, of_bits, lt, le, eq, is_nan}
use Rattle.std.proofs.lemmas.Bool.{and_from, or_from, and_left, ltb-true, le-ltb}
use Rattle.std.proofs.lemmas.Float.{T_from_false, lt_of_not-le}
use Rattle.dashes.specs.Remainders.{positive}
use Rattle.std.specs.Float.{float_with_sign}
use Rattle.numbers.proofs.Patterns.{nan_is, zero_is, above_nought}
use Rattle.dashes.proofs.Digits.{infinity_is}
use lib.Ieee.Bits.{is_true}
use lib.Ieee.Exact.{HasValue, round_exact}
use lib.Ieee.Scale.{round_same}
use lib.Ieee.Fits.{down_pos}
use lib.Ieee.Positive.{first_pos}
use lib.Pow.{shl_lt}

-- ---- whole numbers

mod_scaled : (a b k : ℕ) → 0 < b → 0 < k → a * k % (b * k) ≡ a % b * k
mod_scaled a b k p q =
    let whole : a ≡ a / b * b + a % b = sym (div-add-mod' a b) in
    let parts : a * k ≡ a / b * (b * k) + a % b * k = ap (λ (x : ℕ). x * k) whole ∙ add-mul (a / b * b) (a % b) k ∙ ap (λ (x : ℕ). x + a % b * k) (mul_assoc (a / b) b k) in
    ap (λ (x : ℕ). x % (b * k)) parts ∙ mul-add-mod_self_right (a / b) (b * k) (a % b * k) ∙ mod-eq_of_lt (mul-lt-mul_of_pos_right (mod-lt a p) q)

mod_doubled : (a b : ℕ) → a % b * 2 % b ≡ a * 2 % b
mod_doubled a b =
    let whole : a ≡ a / b * b + a % b = sym (div-add-mod' a b) in
    let parts : a * 2 ≡ a / b * 2 * b + a % b * 2 = ap (λ (x : ℕ). x * 2) whole ∙ add-mul (a / b * b) (a % b) 2 ∙ ap (λ (x : ℕ). x + a % b * 2) (mul_right_comm (a / b) b 2) in
    sym (ap (λ (x : ℕ). x % b) parts ∙ mul-add-mod_self_right (a / b * 2) b (a % b * 2))

regroup : (r E q D : ℕ) → r * E * (q * D) ≡ r * q * (E * D)
regroup r E q D = sym (mul_assoc (r * E) q D) ∙ ap (λ (z : ℕ). z * D) (mul_right_comm r E q) ∙ mul_assoc (r * q) E D

-- one digit more of what is divided
pub one_digit : (a b k : ℕ) → a * 2 ^ k % b * 2 % b ≡ a * 2 ^ (k + 1) % b
one_digit a b k = mod_doubled (a * 2 ^ k) b ∙ ap (λ (x : ℕ). x % b) (mul_assoc a (2 ^ k) 2 ∙ ap (λ (x : ℕ). a * x) (sym (pow-add 2 k 1)))

-- ---- numbers in steps, of which u make 1

rem_fin : (m : ℕ) (e : ℤ) (n : ℕ) (d : ℤ) (a b u : ℕ) → 0 < u → m * up e * u ≡ a * down e → n * up d * u ≡ b * down d → 0 < b
    → round binary32 false (m * up e * down d % (n * up d * down e)) (down e * down d) ≡ round binary32 false (a % b) u
rem_fin m e n d a b u one x y p =
    let E = down e in
    let D = down d in
    let X : ℕ = m * up e * D in
    let Y : ℕ = n * up d * E in
    let first : X * u ≡ a * (E * D) = mul_right_comm (m * up e) D u ∙ ap (λ (z : ℕ). z * D) x ∙ mul_assoc a E D in
    let second : Y * u ≡ b * (E * D) = mul_right_comm (n * up d) E u ∙ ap (λ (z : ℕ). z * E) y ∙ mul_assoc b D E ∙ ap (λ (z : ℕ). b * z) (mul_comm D E) in
    let steps : 0 < E * D = mul-pos (down_pos e) (down_pos d) in
    let some : 0 < Y = first_pos Y u (subst (λ (z : ℕ). 0 < z) (sym second) (mul-pos p steps)) in
    round_same binary32 false (X % Y) (E * D) (a % b) u steps one
    (sym (mod_scaled X Y u some one) ∙ ap (λ (z : ℕ). z % (Y * u)) first ∙ ap (λ (z : ℕ). a * (E * D) % z) second ∙ mod_scaled a b (E * D) p steps)

some_digits : (n : ℕ) (d : ℤ) (b u : ℕ) → n * up d * u ≡ b * down d → 0 < b → n ≡ 0 → ⊥
some_digits n d b u y p none =
    let above : 0 < n = first_pos n (up d) (first_pos (n * up d) u (subst (λ (z : ℕ). 0 < z) (sym y) (mul-pos p (down_pos d)))) in omega arith

rem_steps : (x y : Float) (a b u : ℕ) → 0 < u → HasValue x false a u → HasValue y false b u → 0 < b → rem binary32 x y ≡ round binary32 false (a % b) u
unfolding rem
rem_steps nan y a b u one v w p = absurd v
rem_steps (inf s) y a b u one v w p = absurd v
rem_steps (fin true m e) y a b u one v w p = absurd (true≢false v.0)
rem_steps (fin false m e) nan a b u one v w p = absurd w
rem_steps (fin false m e) (inf t) a b u one v w p = absurd w
rem_steps (fin false m e) (fin true n d) a b u one v w p = absurd (true≢false w.0)
rem_steps (fin false m e) (fin false n d) a b u one v w p =
    ap (λ (t : Bool). cond t nan (round binary32 false (m * up e * down d % (n * up d * down e)) (down e * down d))) (ne_eqb n 0 (some_digits n d b u w.1 p)) ∙ rem_fin m e n d a b u one v.1 w.1 p

-- a whole number times one in steps
times_whole : (v w : Float) (r q u : ℕ) → 0 < u → HasValue v false r 1 → HasValue w false q u → mul binary32 v w ≡ round binary32 false (r * q) u
unfolding mul
times_whole nan w r q u one x y = absurd x
times_whole (inf s) w r q u one x y = absurd x
times_whole (fin true m e) w r q u one x y = absurd (true≢false x.0)
times_whole (fin false m e) nan r q u one x y = absurd y
times_whole (fin false m e) (inf t) r q u one x y = absurd y
times_whole (fin false m e) (fin true n d) r q u one x y = absurd (true≢false y.0)
times_whole (fin false m e) (fin false n d) r q u one x y =
    let M : ℕ = m * up e in
    let N : ℕ = n * up d in
    round_same binary32 false (M * N) (down e * down d) (r * q) u (mul-pos (down_pos e) (down_pos d)) one
    (mul_assoc M N u ∙ ap (λ (z : ℕ). M * z) y.1 ∙ ap (λ (z : ℕ). z * (q * down d)) (sym (mul-one M) ∙ x.1) ∙ regroup r (down e) q (down d))

whole_value : (r : ℕ) → r < 2 ^ 24 → HasValue (of_int binary32 (pos r)) false r 1
unfolding of_int
whole_value r few = round_exact binary32 false r 1 r 149 (lit< tt) few (lt_of_lt_of_le (shl_lt 24 149 few) (lit≤ tt)) (sym (mul-one (r * 2 ^ 149)))

-- ---- all together

-- digits and powers: b's power is not above a's
pub rem_digits : (x y w : Float) (a p b q u : ℕ) → 0 < u → HasValue x false (a * 2 ^ p) u → HasValue y false (b * 2 ^ q) u → HasValue w false (1 * 2 ^ q) u → 0 < b → b < 2 ^ 24 → q ≤ p
    → (r : ℕ) → r ≡ a * 2 ^ (p - q) % b → mul binary32 (of_int binary32 (pos r)) w ≡ rem binary32 x y
rem_digits x y w a p b q u one v s t some few h n is =
    let r : ℕ = a * 2 ^ (p - q) % b in
    let small : r < b = mod-lt (a * 2 ^ (p - q)) some in
    let power : 2 ^ p ≡ 2 ^ (p - q) * 2 ^ q = ap (λ (i : ℕ). 2 ^ i) {x = p} {y = (p - q) + q} (omega arith) ∙ pow-add 2 (p - q) q in
    let digits : a * 2 ^ p ≡ a * 2 ^ (p - q) * 2 ^ q = ap (λ (i : ℕ). a * i) power ∙ sym (mul_assoc a (2 ^ (p - q)) (2 ^ q)) in
    let left : a * 2 ^ p % (b * 2 ^ q) ≡ r * 2 ^ q = ap (λ (i : ℕ). i % (b * 2 ^ q)) digits ∙ mod_scaled (a * 2 ^ (p - q)) b (2 ^ q) some (pow_pos q) in
    ap (λ (i : ℕ). mul binary32 (of_int binary32 (pos i)) w) is
    ∙ times_whole (of_int binary32 (pos r)) w r (2 ^ q) u one (whole_value r (omega arith)) (subst (λ (i : ℕ). HasValue w false i u) (one-mul (2 ^ q)) t)
    ∙ ap (λ (i : ℕ). round binary32 false i u) (sym left)
    ∙ sym (rem_steps x y (a * 2 ^ p) (b * 2 ^ q) u one v s (mul-pos some (pow_pos q)))

one_value : HasValue (of_bits binary32 0x3f80_0000) false 1 1
unfolding of_bits
one_value = (refl, refl)

-- with a lower power x is below y, and left whole
pub rem_low : (x y : Float) (a p b q u : ℕ) → 0 < u → HasValue x false (a * 2 ^ p) u → HasValue y false (b * 2 ^ q) u → a < 2 ^ 24 → 2 ^ 23 ≤ b → p < q
    → mul binary32 (of_bits binary32 0x3f80_0000) x ≡ rem binary32 x y
rem_low x y a p b q u one v s few many h =
    let A : ℕ = a * 2 ^ p in
    let B : ℕ = b * 2 ^ q in
    let first : A < 2 ^ 24 * 2 ^ p = mul-lt-mul_of_pos_right few (pow_pos p) in
    let power : 2 ^ (p + 1) ≡ 2 ^ p * 2 = pow-add 2 p 1 in
    let next : p + 1 ≤ q = omega arith in
    let second : 2 ^ 23 * 2 ^ (p + 1) ≤ B = le_trans (mul-le-mul_right (2 ^ (p + 1)) many) (mul-le-mul_left b (pow_mono next)) in
    let less : A < B = omega arith in
    let some : 0 < B = omega arith in
    times_whole (of_bits binary32 0x3f80_0000) x 1 A u one one_value v
    ∙ ap (λ (i : ℕ). round binary32 false i u) (one-mul A ∙ sym (mod-eq_of_lt less))
    ∙ sym (rem_steps x y A B u one v s some)

-- ---- the other numbers

abbrev infinity : Float
infinity = of_bits binary32 0x7f80_0000

abbrev naught : Float
naught = of_bits binary32 0

-- only the size of what is taken counts
pub rem_size : (x y : Float) → rem binary32 x (float_with_sign false y) ≡ rem binary32 x y
unfolding rem float_with_sign
rem_size nan y = refl
rem_size (inf s) y = refl
rem_size (fin s m e) nan = refl
rem_size (fin s m e) (inf t) = refl
rem_size (fin s m e) (fin t n d) = refl

infinite : (x y : Float) → lt x (inf false) ≡ false → nan ≡ rem binary32 x y
unfolding rem lt
infinite nan y h = refl
infinite (inf s) y h = refl
infinite (fin s m e) y h = absurd (true≢false h)

pub rem_infinite : (x y : Float) → lt x infinity ≡ false → of_bits binary32 0x7fc0_0000 ≡ rem binary32 x y
rem_infinite x y h = nan_is ∙ infinite x y (sym (ap (lt x) infinity_is) ∙ h)

not_below : (n : ℕ) (d : ℤ) → ltb (0 * 1 * down d) (suc n * up d * 1) ≡ false → ⊥
not_below n d h = true≢false (sym (lt-ltb (0 * 1 * down d) (suc n * up d * 1) (omega (arith, above_nought n d))) ∙ h)

by_none : (x y : Float) → lt (fin false 0 (pos 0)) (float_with_sign false y) ≡ false → nan ≡ rem binary32 x y
unfolding rem lt float_with_sign
by_none nan y h = refl
by_none (inf s) y h = refl
by_none (fin s m e) nan h = refl
by_none (fin s m e) (inf t) h = absurd (true≢false h)
by_none (fin s m e) (fin t zero d) h = refl
by_none (fin s m e) (fin t (suc n) d) h = absurd (not_below n d h)

pub rem_none : (x y size : Float) → size ≡ float_with_sign false y → lt naught size ≡ false → of_bits binary32 0x7fc0_0000 ≡ rem binary32 x y
rem_none x y size is h = nan_is ∙ by_none x y (sym (ap (λ (z : Float). lt z (float_with_sign false y)) zero_is) ∙ sym (ap (lt naught) is) ∙ h)

by_infinite : (x y : Float) → le x (fin false 0 (pos 0)) ≡ false → lt x (inf false) ≡ true → lt (fin false 0 (pos 0)) (float_with_sign false y) ≡ true → lt (float_with_sign false y) (inf false) ≡ false → x ≡ rem binary32 x y
unfolding rem lt le float_with_sign
by_infinite nan y a b c d = refl
by_infinite (inf true) y a b c d = absurd (true≢false a)
by_infinite (inf false) y a b c d = absurd (true≢false (sym b))
by_infinite (fin s m e) nan a b c d = absurd (true≢false (sym c))
by_infinite (fin s m e) (inf t) a b c d = refl
by_infinite (fin s m e) (fin t n k) a b c d = absurd (true≢false d)

pub rem_whole : (x y size : Float) → size ≡ float_with_sign false y → le x naught ≡ false → lt x infinity ≡ true → lt naught size ≡ true → lt size infinity ≡ false → x ≡ rem binary32 x y
rem_whole x y size is a b c d =
    by_infinite x y (sym (ap (le x) zero_is) ∙ a) (sym (ap (lt x) infinity_is) ∙ b)
    (sym (ap (λ (z : Float). lt z (float_with_sign false y)) zero_is) ∙ sym (ap (lt naught) is) ∙ c)
    (sym (ap (lt (float_with_sign false y)) infinity_is) ∙ sym (ap (λ (z : Float). lt z infinity) is) ∙ d)

over_zero : (x : Float) → le x (fin false 0 (pos 0)) ≡ false → lt x (inf false) ≡ true → lt (fin false 0 (pos 0)) x ≡ true
unfolding lt is_nan
over_zero nan a b = b
over_zero (inf true) a b = is_true _ (lt_of_not-le (inf true) (fin false 0 (pos 0)) tt tt (T_from_false _ a))
over_zero (inf false) a b = refl
over_zero (fin s m e) a b = is_true _ (lt_of_not-le (fin s m e) (fin false 0 (pos 0)) tt tt (T_from_false _ a))

pub positive_of : (x : Float) → le x naught ≡ false → lt x infinity ≡ true → positive x ≡ true
positive_of x a b = and_from (lt naught x) (lt x infinity) (ap (λ (z : Float). lt z x) zero_is ∙ over_zero x (sym (ap (le x) zero_is) ∙ a) (sym (ap (lt x) infinity_is) ∙ b)) b

-- ---- what is above 0, or NaN

pub not_le : (x y : Float) → lt x y ≡ false → eq x y ≡ false → le x y ≡ false
unfolding le
not_le x y a b = or_from (lt x y) (eq x y) a b

turned : (x : Float) → lt x (fin false 0 (pos 0)) ≡ true → le (float_with_sign false x) (fin false 0 (pos 0)) ≡ false
unfolding lt le eq float_with_sign
turned nan h = refl
turned (inf s) h = refl
turned (fin false m e) h = absurd (omega (arith, ltb-true (m * up e * 1) (0 * 1 * down e) h))
turned (fin true m e) h =
    let above : 0 < m * up e * 1 + 0 * 1 * down e = ltb-true 0 (m * up e * 1 + 0 * 1 * down e) h in
    or_from (ltb (m * up e * 1) (0 * 1 * down e)) _ (le-ltb (m * up e * 1) (0 * 1 * down e) (omega arith)) (and_left (eqb (m * up e * 1) (0 * 1 * down e)) _ (ne_eqb (m * up e * 1) (0 * 1 * down e) (λ e. omega arith)))

pub size_above : (x : Float) → lt x naught ≡ true → le (float_with_sign false x) naught ≡ false
size_above x h = ap (le (float_with_sign false x)) zero_is ∙ turned x (sym (ap (lt x) zero_is) ∙ h)
