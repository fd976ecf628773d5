-- What is left of a number when whole fours are taken from it.
use Rattle.std.proofs.Common.{◌≡◌, ℕ, zero, suc, ◌+◌, ◌-◌, ◌*◌, ◌/◌, ◌%◌, ◌^◌, ◌<◌, ◌≤◌, Bool, true, false, not, cond, ◌&&◌, T, ltb, leb, eqb, ℤ, pos, negsuc, refl, sym, ap, ◌∙◌, subst, arith, ltb→lt, leb→le, lit≤, lit<, mul_assoc, mul-one, pow-add, pow_pos, pow_mono, mul-lt-mul_of_pos_right, mul-pos, div-one, div-le_self, true≢false, mul-le-mul_left, mul_comm, mul_right_comm, add-mul, div-add-mod', div-mul-le_self, le-div_iff_mul-le, lt_of_mul-lt-mul_right, le-ltb, nltb→le, mod-eq_of_lt, le_trans, le_of_eq, lt_of_lt_of_le, lt_of_le_of_lt, lt_of_not-le}
use Rattle.std.specs.Float.{trunc, round_with, float_with_sign}
use Rattle.std.proofs.lemmas.Float.{T_from_true, T_from_false, one_f64_is}
use lib.Ieee.{Float, nan, inf, fin, binary64, up, down, odd, units, round, neg, mul, sub, add, sum, rem, lt, fits, of_bits}
use lib.Ieee.Exact.{HasValue, round_exact}
use lib.Ieee.Scale.{round_same}
use lib.Ieee.Nearest.{div_same}
use lib.Ieee.Fits.{down_pos, and_l, and_r, round-fits}
use lib.Ieee.Positive.{first_pos}
use lib.Pow.{shl_lt}

abbrev four : Float
four = fin false 1 (pos 2)

abbrev quarter : Float
quarter = fin false 1 (negsuc 1)

odd_neg : (d : ℕ) (s : Bool) (q k l : ℕ) → neg (odd d s q k l) ≡ odd d (not s) q k l
unfolding neg odd
odd_neg d s zero k l = refl
odd_neg d s (suc q) k l = refl

cond_neg : (b : Bool) (x y : Float) → neg (cond b x y) ≡ cond b (neg x) (neg y)
cond_neg true x y = refl
cond_neg false x y = refl

units_neg : (s : Bool) (q k : ℕ) → neg (units binary64 s q k) ≡ units binary64 (not s) q k
unfolding units neg
units_neg s q k = cond_neg (ltb (q * 2 ^ k) (2 ^ 2098)) (odd 54 s q k 1074) (inf s) ∙ ap (λ (x : Float). cond (ltb (q * 2 ^ k) (2 ^ 2098)) x (inf (not s))) (odd_neg 54 s q k 1074)

pub round_neg : (s : Bool) (n d : ℕ) → neg (round binary64 s n d) ≡ round binary64 (not s) n d
unfolding round
round_neg s n d = units_neg s _ _

-- ---- what fits

record Fitting (m : ℕ) (e : ℤ) : Type 0 where
  few : m < 2 ^ 53
  small : down e ≤ 2 ^ 1074
  within : m * up e < 2 ^ 1024 * down e

fitting : (m : ℕ) (e : ℤ) → T (fits binary64 (fin false m e)) → 0 < m * up e → Fitting m e
unfolding fits
fitting zero e h p = absurd (omega arith)
fitting (suc m) e h p = record {
  few = ltb→lt (suc m) (2 ^ 53) (and_r (eqb (suc m % 2) 1) (ltb (suc m) (2 ^ 53)) (and_l (eqb (suc m % 2) 1 && ltb (suc m) (2 ^ 53)) (leb (down e) (2 ^ 1074)) (and_l (eqb (suc m % 2) 1 && ltb (suc m) (2 ^ 53) && leb (down e) (2 ^ 1074)) (ltb (suc m * up e) (2 ^ 1024 * down e)) h)));
  small = leb→le (down e) (2 ^ 1074) (and_r (eqb (suc m % 2) 1 && ltb (suc m) (2 ^ 53)) (leb (down e) (2 ^ 1074)) (and_l (eqb (suc m % 2) 1 && ltb (suc m) (2 ^ 53) && leb (down e) (2 ^ 1074)) (ltb (suc m * up e) (2 ^ 1024 * down e)) h));
  within = ltb→lt (suc m * up e) (2 ^ 1024 * down e) (and_r (eqb (suc m % 2) 1 && ltb (suc m) (2 ^ 53) && leb (down e) (2 ^ 1074)) (ltb (suc m * up e) (2 ^ 1024 * down e)) h);
}

-- ---- a quarter of it

shift : (m k n : ℕ) → m * 2 ^ (k + n) ≡ m * 2 ^ k * 2 ^ n
shift m k n = ap (λ (x : ℕ). m * x) (pow-add 2 k n) ∙ sym (mul_assoc m (2 ^ k) (2 ^ n))

wide_within : (p : ℕ) → p < 2 ^ 1024 * 1 → p * 2 ^ 1072 < 2 ^ 2098
wide_within p h = lt_of_lt_of_le (mul-lt-mul_of_pos_right h (pow_pos 1072)) (lit≤ tt)

wide_same : (p : ℕ) → p * 1 * 2 ^ 1074 ≡ p * 2 ^ 1072 * 4
wide_same p = ap (λ (x : ℕ). x * 2 ^ 1074) (mul-one p) ∙ sym (mul_assoc p (2 ^ 1072) 4)

narrow : (m k : ℕ) → 4 * 2 ^ suc k ≤ m * 1 → m < 2 ^ 53 → suc k + 2 < 53
narrow m k large few = lt_of_not-le (λ (past : 53 ≤ suc k + 2).
    let far : 2 ^ 53 ≤ 2 ^ (suc k + 2) = pow_mono past in
    let is : 2 ^ (suc k + 2) ≡ 2 ^ suc k * 4 = pow-add 2 (suc k) 2 in
    omega arith)

quartered : (m : ℕ) (e : ℤ) → Fitting m e → 4 * down e ≤ m * up e → HasValue (round binary64 false (m * up e * 1) (down e * 4)) false (m * up e * 1) (down e * 4)
quartered m (pos k) h large =
    round_exact binary64 false (m * 2 ^ k * 1) 4 m (k + 1072) (lit< tt) h.few
    (subst (λ (x : ℕ). x < 2 ^ 2098) (sym (shift m k 1072)) (wide_within (m * 2 ^ k) h.within))
    (wide_same (m * 2 ^ k) ∙ ap (λ (x : ℕ). x * 4) (sym (shift m k 1072)))
quartered m (negsuc k) h large =
    let low : suc k + 2 < 53 = narrow m k large h.few in
    let j : ℕ = 1074 - (suc k + 2) in
    let whole : 1074 ≡ j + (suc k + 2) = omega arith in
    let power : 2 ^ 1074 ≡ 2 ^ j * (2 ^ suc k * 4) = ap (λ (x : ℕ). 2 ^ x) whole ∙ pow-add 2 j (suc k + 2) ∙ ap (λ (x : ℕ). 2 ^ j * x) (pow-add 2 (suc k) 2) in
    let room : 53 + j ≤ 2098 = omega arith in
    round_exact binary64 false (m * 1 * 1) (2 ^ suc k * 4) m j (mul-pos (pow_pos (suc k)) (lit< tt)) h.few
    (lt_of_lt_of_le (shl_lt 53 j h.few) (pow_mono room))
    (ap (λ (x : ℕ). x * 2 ^ 1074) (mul-one (m * 1) ∙ mul-one m) ∙ ap (λ (x : ℕ). m * x) power ∙ sym (mul_assoc m (2 ^ j) (2 ^ suc k * 4)))

-- ---- its whole part

whole_part : (m : ℕ) (e : ℤ) → Fitting m e → HasValue (round binary64 false (m * up e / down e) 1) false (m * up e / down e) 1
whole_part m (pos k) h =
    let is : m * 2 ^ k / 1 ≡ m * 2 ^ k = div-one (m * 2 ^ k) in
    subst (λ (x : ℕ). HasValue (round binary64 false x 1) false x 1) (sym is)
    (round_exact binary64 false (m * 2 ^ k) 1 m (k + 1074) (lit< tt) h.few
    (subst (λ (x : ℕ). x < 2 ^ 2098) (sym (shift m k 1074)) (lt_of_lt_of_le (mul-lt-mul_of_pos_right h.within (pow_pos 1074)) (lit≤ tt)))
    (sym (shift m k 1074) ∙ sym (mul-one (m * 2 ^ (k + 1074)))))
whole_part m (negsuc k) h =
    let n : ℕ = m * 1 / 2 ^ suc k in
    let few : n < 2 ^ 53 = lt_of_le_of_lt (div-le_self (m * 1) (2 ^ suc k)) (subst (λ (x : ℕ). x < 2 ^ 53) (sym (mul-one m)) h.few) in
    round_exact binary64 false n 1 n 1074 (lit< tt) few (lt_of_lt_of_le (shl_lt 53 1074 few) (lit≤ tt)) (sym (mul-one (n * 2 ^ 1074)))

cut : (q : Float) (a c : ℕ) → 0 < c → HasValue q false a c → trunc binary64 q ≡ round binary64 false (a / c) 1
unfolding round_with
cut nan a c p v = absurd v
cut (inf s) a c p v = absurd v
cut (fin true m e) a c p v = absurd (true≢false v.0)
cut (fin false m e) a c p v = ap (λ (x : ℕ). round binary64 false x 1) (div_same (m * up e) (down e) a c (down_pos e) p v.1)

-- what is at least 1 is not 0
some : (m : ℕ) (e : ℤ) (a c : ℕ) → 0 < c → c ≤ a → m * up e * c ≡ a * down e → 0 < m * up e
some m e a c p large is = first_pos (m * up e) c (subst (λ (x : ℕ). 0 < x) (sym is) (mul-pos (lt_of_lt_of_le p large) (down_pos e)))

cut_value : (q : Float) (a c : ℕ) → 0 < c → c ≤ a → T (fits binary64 q) → HasValue q false a c → HasValue (round binary64 false (a / c) 1) false (a / c) 1
cut_value nan a c p large f v = absurd v
cut_value (inf s) a c p large f v = absurd v
cut_value (fin true m e) a c p large f v = absurd (true≢false v.0)
cut_value (fin false m e) a c p large f v =
    let is : m * up e / down e ≡ a / c = div_same (m * up e) (down e) a c (down_pos e) p v.1 in
    subst (λ (x : ℕ). HasValue (round binary64 false x 1) false x 1) is (whole_part m e (fitting m e f (some m e a c p large v.1)))

-- ---- four times that

fours : (w : Float) (n : ℕ) → T (fits binary64 w) → HasValue w false n 1 → 0 < n → n * 4 < 2 ^ 1024 → HasValue (round binary64 false (n * 4) 1) false (n * 4) 1
fours nan n f v p top = absurd v
fours (inf s) n f v p top = absurd v
fours (fin true m e) n f v p top = absurd (true≢false v.0)
fours (fin false m (pos k)) n f v p top =
    let is : m * 2 ^ k ≡ n = sym (mul-one (m * 2 ^ k)) ∙ v.1 ∙ mul-one n in
    let fit = fitting m (pos k) f (subst (λ (x : ℕ). 0 < x) (sym is) p) in
    let same : n * 4 * 2 ^ 1074 ≡ m * 2 ^ (k + 1076) = mul_assoc n 4 (2 ^ 1074) ∙ ap (λ (x : ℕ). x * 2 ^ 1076) (sym is) ∙ sym (shift m k 1076) in
    round_exact binary64 false (n * 4) 1 m (k + 1076) (lit< tt) fit.few
    (subst (λ (x : ℕ). x < 2 ^ 2098) same (lt_of_lt_of_le (mul-lt-mul_of_pos_right top (pow_pos 1074)) (lit≤ tt)))
    (same ∙ sym (mul-one (m * 2 ^ (k + 1076))))
fours (fin false m (negsuc k)) n f v p top =
    let is : m * 1 * 1 ≡ n * 2 ^ suc k = v.1 in
    let some : 0 < m * 1 = first_pos (m * 1) 1 (subst (λ (x : ℕ). 0 < x) (sym is) (mul-pos p (pow_pos (suc k)))) in
    let fit = fitting m (negsuc k) f some in
    let less : n * 1 ≤ n * 2 ^ suc k = mul-le-mul_left n (pow_pos (suc k)) in
    let few : n < 2 ^ 53 = lt_of_le_of_lt (le_trans (le_trans (le_of_eq (sym (mul-one n))) less) (le_of_eq (sym is ∙ mul-one (m * 1) ∙ mul-one m))) fit.few in
    round_exact binary64 false (n * 4) 1 n 1076 (lit< tt) few (lt_of_lt_of_le (shl_lt 53 1076 few) (lit≤ tt)) (mul_assoc n 4 (2 ^ 1074) ∙ sym (mul-one (n * 2 ^ 1076)))

fourfold : (a n d : ℕ) → a * 1 ≡ n * d → a * 4 * 1 ≡ n * 4 * (d * 1)
fourfold a n d h = mul-one (a * 4) ∙ ap (λ (x : ℕ). x * 4) (sym (mul-one a) ∙ h) ∙ mul_right_comm n d 4 ∙ ap (λ (x : ℕ). n * 4 * x) (sym (mul-one d))

times_four : (w : Float) (n : ℕ) → HasValue w false n 1 → mul binary64 w four ≡ round binary64 false (n * 4) 1
unfolding mul
times_four nan n v = absurd v
times_four (inf s) n v = absurd v
times_four (fin true m e) n v = absurd (true≢false v.0)
times_four (fin false m e) n v =
    round_same binary64 false (m * up e * 4) (down e * 1) (n * 4) 1 (mul-pos (down_pos e) (lit< tt)) (lit< tt)
    (fourfold (m * up e) n (down e) v.1)

-- ---- what that leaves

-- with a = M / D and b = k, over D * g
taken : (M k D g b : ℕ) → k * D ≤ M → b ≡ k * g * D → (M * g - b ≡ (M - k * D) * g) × (b ≤ M * g)
taken M k D g b h is =
    let R : ℕ = M - k * D in
    let whole : M ≡ R + k * D = omega arith in
    let split : M * g ≡ R * g + k * D * g = ap (λ (x : ℕ). x * g) whole ∙ add-mul R (k * D) g in
    let other : b ≡ k * D * g = is ∙ mul_right_comm k g D in
    (omega arith, omega arith)

difference : (m : ℕ) (e : ℤ) (v : Float) (k : ℕ) → HasValue v false k 1 → k * down e ≤ m * up e
    → sub binary64 (fin false m e) v ≡ round binary64 false (m * up e - k * down e) (down e)
unfolding sub add neg sum
difference m e nan k v h = absurd v
difference m e (inf s) k v h = absurd v
difference m e (fin true n d) k v h = absurd (true≢false v.0)
difference m e (fin false n d) k v h =
    let M : ℕ = m * up e in
    let D : ℕ = down e in
    let g : ℕ = down d in
    let b : ℕ = n * up d * D in
    let is : b ≡ k * g * D = ap (λ (x : ℕ). x * D) (sym (mul-one (n * up d)) ∙ v.1) in
    let both = taken M k D g b h is in
    ap (λ (t : Bool). cond t (round binary64 true (b - M * g) (D * g)) (round binary64 false (M * g - b) (D * g))) (le-ltb (M * g) b both.1)
    ∙ ap (λ (x : ℕ). round binary64 false x (D * g)) both.0
    ∙ round_same binary64 false ((M - k * D) * g) (D * g) (M - k * D) D (mul-pos (down_pos e) (down_pos d)) (down_pos e) (mul_assoc (M - k * D) g D ∙ ap (λ (x : ℕ). (M - k * D) * x) (mul_comm g D))

-- ---- all together

rest : (M D : ℕ) → M - M * 1 / (D * 4) * 4 * D ≡ M * 1 % (4 * D)
rest M D =
    let q : ℕ = M * 1 / (D * 4) in
    let parts : q * (D * 4) + M * 1 % (D * 4) ≡ M * 1 = div-add-mod' (M * 1) (D * 4) in
    let turned : q * (D * 4) ≡ q * 4 * D = ap (λ (x : ℕ). q * x) (mul_comm D 4) ∙ sym (mul_assoc q 4 D) in
    let other : M * 1 % (D * 4) ≡ M * 1 % (4 * D) = ap (λ (x : ℕ). M * 1 % x) (mul_comm D 4) in
    let one : M * 1 ≡ M = mul-one M in
    omega arith

large : (m : ℕ) (e : ℤ) → T (fits binary64 (fin false m e)) → 4 * down e ≤ m * up e
    → sub binary64 (fin false m e) (mul binary64 (trunc binary64 (mul binary64 (fin false m e) quarter)) four) ≡ rem binary64 (fin false m e) four
unfolding mul rem
large m e f h =
    let M : ℕ = m * up e in
    let D : ℕ = down e in
    let fit = fitting m e f (lt_of_lt_of_le (mul-pos (lit< tt) (down_pos e)) h) in
    let Q : Float = round binary64 false (M * 1) (D * 4) in
    let q_is = quartered m e fit h in
    let p : 0 < D * 4 = mul-pos (down_pos e) (lit< tt) in
    let over : D * 4 ≤ M * 1 = omega arith in
    let F : ℕ = M * 1 / (D * 4) in
    let w_is = cut_value Q (M * 1) (D * 4) p over (round-fits binary64 false (M * 1) (D * 4)) q_is in
    let under : F * (D * 4) ≤ M * 1 = div-mul-le_self (M * 1) (D * 4) in
    let turned : F * (D * 4) ≡ F * 4 * D = ap (λ (x : ℕ). F * x) (mul_comm D 4) ∙ sym (mul_assoc F 4 D) in
    let below : F * 4 * D ≤ M = omega arith in
    let top : F * 4 < 2 ^ 1024 = lt_of_mul-lt-mul_right D (lt_of_le_of_lt below fit.within) in
    let first : 1 ≤ F = (le-div_iff_mul-le p).1 (omega arith) in
    let v_is = fours (round binary64 false F 1) F (round-fits binary64 false F 1) w_is first top in
    ap (λ (x : Float). sub binary64 (fin false m e) (mul binary64 x four)) (cut Q (M * 1) (D * 4) p q_is)
    ∙ ap (λ (x : Float). sub binary64 (fin false m e) x) (times_four (round binary64 false F 1) F w_is)
    ∙ difference m e (round binary64 false (F * 4) 1) (F * 4) v_is below
    ∙ round_same binary64 false (M - F * 4 * D) D (M * 1 % (4 * D)) (D * 1) (down_pos e) (mul-pos (down_pos e) (lit< tt)) (ap (λ (x : ℕ). x * (D * 1)) (rest M D) ∙ ap (λ (x : ℕ). M * 1 % (4 * D) * x) (mul-one D))

-- ---- for the code

-- 4, a quarter and 0 by their bits
four_is : of_bits binary64 0x4010_0000_0000_0000 ≡ four
unfolding of_bits
four_is = refl

quarter_is : of_bits binary64 0x3FD0_0000_0000_0000 ≡ quarter
unfolding of_bits
quarter_is = refl

zero_is : of_bits binary64 0 ≡ fin false 0 (pos 0)
unfolding of_bits
zero_is = refl

small : (t : Float) → lt (float_with_sign false t) four ≡ true → mul binary64 t (fin false 1 (pos 0)) ≡ rem binary64 t four
unfolding lt mul rem float_with_sign
small nan h = refl
small (inf s) h = absurd (true≢false (sym h))
small (fin true m e) h = ap (λ (x : ℕ). round binary64 true x (down e * 1)) (sym (mod-eq_of_lt (ltb→lt (m * up e * 1) (4 * down e) (T_from_true _ h))))
small (fin false m e) h = ap (λ (x : ℕ). round binary64 false x (down e * 1)) (sym (mod-eq_of_lt (ltb→lt (m * up e * 1) (4 * down e) (T_from_true _ h))))

fits_without : (s : Bool) (m : ℕ) (e : ℤ) → T (fits binary64 (fin s m e)) → T (fits binary64 (fin false m e))
unfolding fits
fits_without s zero e f = f
fits_without s (suc m) e f = f

past_four : (m : ℕ) (e : ℤ) → ltb (m * up e * 1) (4 * down e) ≡ false → 4 * down e ≤ m * up e
past_four m e h = let past : 4 * down e ≤ m * up e * 1 = nltb→le (m * up e * 1) (4 * down e) (T_from_false _ h) in omega arith

large_size : (t : Float) → T (fits binary64 t) → lt (float_with_sign false t) four ≡ false
    → sub binary64 (float_with_sign false t) (mul binary64 (trunc binary64 (mul binary64 (float_with_sign false t) quarter)) four) ≡ rem binary64 (float_with_sign false t) four
unfolding lt mul rem sub add neg round_with float_with_sign
large_size nan f h = refl
large_size (inf s) f h = refl
large_size (fin s m e) f h = large m e (fits_without s m e f) (past_four m e h)

below_zero : (t : Float) → lt t (fin false 0 (pos 0)) ≡ true → neg (rem binary64 (float_with_sign false t) four) ≡ rem binary64 t four
unfolding lt rem neg float_with_sign
below_zero nan h = refl
below_zero (inf s) h = refl
below_zero (fin true m e) h = round_neg false (m * up e * 1 % (4 * down e)) (down e * 1)
below_zero (fin false m e) h = absurd (let less : m * up e * 1 < 0 * down e = ltb→lt (m * up e * 1) (0 * down e) (T_from_true _ h) in omega arith)

above_zero : (t : Float) → lt (float_with_sign false t) four ≡ false → lt t (fin false 0 (pos 0)) ≡ false → rem binary64 (float_with_sign false t) four ≡ rem binary64 t four
unfolding lt rem float_with_sign
above_zero nan h k = refl
above_zero (inf s) h k = refl
above_zero (fin false m e) h k = refl
above_zero (fin true m e) h k = absurd (
    let past = past_four m e h in
    let none : m * up e * 1 + 0 * down e ≤ 0 = nltb→le 0 (m * up e * 1 + 0 * down e) (T_from_false _ k) in
    let some = down_pos e in omega arith)

abbrev bits : ℕ → Float
bits b = of_bits binary64 b

pub rest_of_small : (t a : Float) → a ≡ float_with_sign false t → lt a (bits 0x4010_0000_0000_0000) ≡ true → mul binary64 t (bits 0x3FF0_0000_0000_0000) ≡ rem binary64 t (bits 0x4010_0000_0000_0000)
rest_of_small t a is h =
    subst (λ (k : Float). lt a k ≡ true → mul binary64 t (bits 0x3FF0_0000_0000_0000) ≡ rem binary64 t k) (sym four_is)
    (λ l. ap (mul binary64 t) one_f64_is ∙ small t (subst (λ (x : Float). lt x four ≡ true) is l)) h

rest_of_size : (t a w : Float) → fits binary64 t ≡ true → a ≡ float_with_sign false t → w ≡ trunc binary64 (mul binary64 a (bits 0x3FD0_0000_0000_0000)) → lt a four ≡ false
    → sub binary64 a (mul binary64 w four) ≡ rem binary64 (float_with_sign false t) four
rest_of_size t a w f is part h =
    ap (λ (x : Float). sub binary64 a (mul binary64 x four)) (part ∙ ap (λ (x : Float). trunc binary64 (mul binary64 a x)) quarter_is)
    ∙ ap (λ (x : Float). sub binary64 x (mul binary64 (trunc binary64 (mul binary64 x quarter)) four)) is
    ∙ large_size t (T_from_true _ f) (subst (λ (x : Float). lt x four ≡ false) is h)

pub rest_of_negative : (t a w : Float) → fits binary64 t ≡ true → a ≡ float_with_sign false t → w ≡ trunc binary64 (mul binary64 a (bits 0x3FD0_0000_0000_0000))
    → lt a (bits 0x4010_0000_0000_0000) ≡ false → lt t (bits 0) ≡ true
    → neg (sub binary64 a (mul binary64 w (bits 0x4010_0000_0000_0000))) ≡ rem binary64 t (bits 0x4010_0000_0000_0000)
rest_of_negative t a w f is part h k =
    subst (λ (x : Float). lt a x ≡ false → neg (sub binary64 a (mul binary64 w x)) ≡ rem binary64 t x) (sym four_is)
    (λ l. ap neg (rest_of_size t a w f is part l) ∙ below_zero t (subst (λ (x : Float). lt t x ≡ true) zero_is k)) h

pub rest_of_positive : (t a w : Float) → fits binary64 t ≡ true → a ≡ float_with_sign false t → w ≡ trunc binary64 (mul binary64 a (bits 0x3FD0_0000_0000_0000))
    → lt a (bits 0x4010_0000_0000_0000) ≡ false → lt t (bits 0) ≡ false
    → sub binary64 a (mul binary64 w (bits 0x4010_0000_0000_0000)) ≡ rem binary64 t (bits 0x4010_0000_0000_0000)
rest_of_positive t a w f is part h k =
    subst (λ (x : Float). lt a x ≡ false → sub binary64 a (mul binary64 w x) ≡ rem binary64 t x) (sym four_is)
    (λ l. rest_of_size t a w f is part l ∙ above_zero t (subst (λ (x : Float). lt x four ≡ false) is l) (subst (λ (x : Float). lt t x ≡ false) zero_is k)) h
