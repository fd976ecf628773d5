-- `Floats.ceil` is the least whole number that is not below its argument.
use Rattle.std.proofs.Common.{◌≡◌, ℕ, zero, suc, ◌+◌, ◌-◌, ◌*◌, ◌/◌, ◌%◌, ◌^◌, ◌<◌, ◌≤◌, Bool, true, false, ◌&&◌, T, eqb, ltb, leb, ℤ, pos, negsuc, sym, refl, ap, ◌∙◌, subst, mul-le-mul_right, mod-lt, mul-le-mul_left, lt_of_not-le, div-add-mod', mul-one, div-le_self, div-one, arith, ltb→lt, pow-add}
use lib.Ieee.{Float, nan, inf, fin, binary32, up, down, round, fits}
use lib.Ieee.Back.{round_whole}
use lib.Ieee.Exact.{HasValue, round_exact}
use lib.Ieee.Fits.{down_pos, and_l, and_r}
use Rattle.std.proofs.lemmas.Float.{T_from_true}
use Rattle.std.specs.Float.{ceil, round_with, ratio_ceil, ratio_floor}
use Rattle.numbers.specs.Steps.{Ceiling}

-- 24 digits, and below 2 ^ 128
abbrev Within : ℕ → ℤ → Type 0
Within m e = (m < 2 ^ 24) × (m * up e < 2 ^ 128 * down e)

within : (s : Bool) (m : ℕ) (e : ℤ) → T (fits binary32 (fin s m e)) → Within m e
unfolding fits
within s zero e f = (omega arith, omega (arith, down_pos e))
within s (suc m) e f =
    let a = eqb (suc m % 2) 1 in
    let b = ltb (suc m) (2 ^ 24) in
    let c = leb (down e) (2 ^ 149) in
    let t = ltb (suc m * up e) (2 ^ 128 * down e) in
    (ltb→lt (suc m) (2 ^ 24) (and_r a b (and_l (a && b) c (and_l (a && b && c) t f))), ltb→lt (suc m * up e) (2 ^ 128 * down e) (and_r (a && b && c) t f))

-- the whole number that x is cut or raised to is a value of the format
exact : (s : Bool) (m a : ℕ) → m < 2 ^ 24 → m * 2 ^ a < 2 ^ 128 → HasValue (round binary32 s (m * 2 ^ a) 1) s (m * 2 ^ a) 1
exact s m a small fine = round_exact binary32 s (m * 2 ^ a) 1 m (a + 149) (omega arith) small (rw (pow-add 2 a 149) (omega arith)) (rw (pow-add 2 a 149) (omega arith))

raise : (n d : ℕ) → 0 < d → (n ≤ ratio_ceil n d * d) × (ratio_ceil n d * d < n + d)
raise n d D = (omega (arith, div-add-mod' (n + d - 1) d, mod-lt (n + d - 1) D), omega (arith, div-add-mod' (n + d - 1) d))

lower : (n d : ℕ) → 0 < d → (ratio_floor n d * d ≤ n) × (n < ratio_floor n d * d + d)
lower n d D = (omega (arith, div-add-mod' n d), omega (arith, div-add-mod' n d, mod-lt n D))

-- k is m * up e / down e where that is whole, and else at most m
value : (s : Bool) (m : ℕ) (e : ℤ) (k : ℕ) → Within m e → (down e ≡ 1 → k ≡ m * up e) → (up e ≡ 1 → k ≤ m) → HasValue (round binary32 s k 1) s k 1
value s m (pos a) k w whole part = subst (λ (i : ℕ). HasValue (round binary32 s i 1) s i 1) (sym (whole refl)) (exact s m a w.0 (omega arith))
value s m (negsuc a) k w whole part = round_whole binary32 s k (omega (arith, part refl))

-- ---- upwards, for a number above zero, and downwards in size, for one below

whole_up : (n d : ℕ) → d ≡ 1 → ratio_ceil n d ≡ n
whole_up n d e = ap (λ (i : ℕ). (n + i - 1) / i) e ∙ omega arith

part_up : (m u d : ℕ) → 0 < d → u ≡ 1 → ratio_ceil (m * u) d ≤ m
part_up m u d D e =
    let k = ratio_ceil m d in
    let least : k ≤ m = omega (arith, lt_of_not-le (λ (g : m + 1 ≤ k). omega (arith, mul-le-mul_right d g, mul-le-mul_left m D, raise m d D))) in
    subst (λ (i : ℕ). ratio_ceil i d ≤ m) {x = m} {y = m * u} (sym (ap (λ (i : ℕ). m * i) e ∙ mul-one m)) least

whole_down : (n d : ℕ) → d ≡ 1 → ratio_floor n d ≡ n
whole_down n d e = ap (λ (i : ℕ). n / i) e ∙ div-one n

part_down : (m u d : ℕ) → u ≡ 1 → ratio_floor (m * u) d ≤ m
part_down m u d e = omega (arith, div-le_self (m * u) d, ap (λ (i : ℕ). m * i) e)

ceiling : (x : Float) → T (fits binary32 x) → Ceiling x (ceil binary32 x)
unfolding round_with
ceiling nan f = refl
ceiling (inf s) f = refl
ceiling (fin false m e) f = let k = raise (m * up e) (down e) (down_pos e) in (ratio_ceil (m * up e) (down e), value false m e _ (within false m e f) (whole_up (m * up e) (down e)) (part_up m (up e) (down e) (down_pos e)), k.0, k.1)
ceiling (fin true m e) f = let k = lower (m * up e) (down e) (down_pos e) in (ratio_floor (m * up e) (down e), value true m e _ (within true m e f) (whole_down (m * up e) (down e)) (part_down m (up e) (down e)), k.0, k.1)

pub ceiling_is : (x y : Float) → fits binary32 x ≡ true → y ≡ ceil binary32 x → Ceiling x y
ceiling_is x y f e = rw e (ceiling x (T_from_true _ f))
