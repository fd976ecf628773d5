-- An arc turns as its flags say, and its radii grow where they are too small.
use Rattle.std.proofs.Common.{◌≡◌, ℕ, zero, suc, ◌+◌, ◌-◌, ◌*◌, ◌<◌, ◌≤◌, Bool, true, false, cond, ◌&&◌, ◌||◌, T, ltb, eqb, ℤ, pos, refl, sym, subst, arith, ltb-true}
use Rattle.std.proofs.Math.Facts.{yes_ltb}
use Rattle.std.proofs.lemmas.Bool.{cond_both, ltb-false}
use Rattle.std.proofs.lemmas.Float.{T_from_true}
use Prim.Native.Nat.{◌^◌}
use lib.Ieee.{Float, nan, inf, fin, binary32, up, down, round, sum, odd, units, low, prec, emax, nearest, size, neg, sub, add, lt, le, eq, is_nan, of_bits}
use lib.Ieee.Fits.{down_pos}
use lib.Ieee.Order.{round_mono, le_of_values}
use Rattle.numbers.specs.Arithmetic.{◌⊕◌, ◌⊖◌, ◌⊗◌, one}
use Rattle.numbers.specs.Arithmetic.{zero as zeroᶠ}
use Rattle.maths.specs.Functions.{Functions, Angle}
use Rattle.std.specs.Float.{float_with_sign}
use Prim.Native.Nat.{◌%◌, compare}
use Rattle.std.proofs.Common.{◌/◌}
use Rattle.arcs.specs.declared.arc_to.ArcTo.{ArcTo}
use Rattle.arcs.specs.declared.arc_to.ArcSize.{ArcSize}
use Rattle.arcs.specs.declared.arc_to.ArcSize.TheVariants.{Small, Large}
use Rattle.arcs.specs.declared.arc_to.ArcSweep.{ArcSweep}
use Rattle.arcs.specs.declared.arc_to.ArcSweep.TheVariants.{Negative, Positive}
use Rattle.numbers.specs.Arithmetic.{root}
use Rattle.path.specs.Vectors.{multiple}
use Rattle.arcs.specs.declared.radii.Radii.{Radii}
use Rattle.arcs.specs.Centres.{size_of, half_chord, radii_of, scaled_radii, divided_radii, scale_of, lambda}
use Rattle.arcs.specs.Curves.{turned_of}
use Rattle.arcs.specs.Sweeps.{tau, turned_by, turn_by}
use Rattle.arcs.specs.Laws.{goes, is_of, wraps, ByFlags, TurnsByFlags, FitsBy, RadiiFit}
use Rattle.arcs.proofs.Quarters.{size_round, half_turn, zero_round, half_round, or_r, Within, small, no_inf, Half, signed, at_most}

-- ---- numbers with a sign

or_l : (a b : Bool) → T a → T (a || b)
or_l true b h = tt
or_l false b h = absurd h

minus_by : (a b : ℕ) → b ≡ 0 → T (ltb 0 (a + b) || (eqb a b && (false || eqb a 0)))
minus_by a b none = subst (λ (k : ℕ). T (ltb 0 (a + k) || (eqb a k && (false || eqb a 0)))) (sym none) (go a)
  where
    go : (a : ℕ) → T (ltb 0 (a + 0) || (eqb a 0 && (false || eqb a 0)))
    go zero = tt
    go (suc a) = or_l (ltb 0 (suc a + 0)) _ (yes_ltb (omega arith))

minus : (m : ℕ) (e : ℤ) → T (le (fin true m e) zeroᶠ)
unfolding lt le eq of_bits
minus m e = minus_by (m * up e * 1) (0 * 1 * down e) (omega arith)

plus : (m : ℕ) (e : ℤ) → T (le zeroᶠ (fin false m e))
unfolding of_bits
plus m e = le_of_values (fin false 0 (pos 0)) (fin false m e) 0 1 (m * up e) (down e) (omega arith) (down_pos e) (refl, refl) (refl, refl) (omega arith)

none : (m : ℕ) (e : ℤ) → m * up e ≡ 0 → T (le (fin false m e) zeroᶠ)
unfolding of_bits
none m e z = le_of_values (fin false m e) (fin false 0 (pos 0)) (m * up e) (down e) 0 1 (down_pos e) (omega arith) (refl, refl) (refl, refl) (omega (arith, z))

none_minus : (m : ℕ) (e : ℤ) → m * up e ≡ 0 → T (le zeroᶠ (fin true m e))
unfolding lt le eq of_bits
none_minus m e z = by (0 * 1 * down e) (m * up e * 1) (omega arith) (omega (arith, z))
  where
    by : (a b : ℕ) → a ≡ 0 → b ≡ 0 → T (false || (eqb a b && (false || eqb a 0)))
    by a b x y = subst (λ (k : ℕ). T (false || (eqb k b && (false || eqb k 0)))) (sym x) (subst (λ (k : ℕ). T (false || (eqb 0 k && (false || eqb 0 0)))) (sym y) tt)

minus_odd : (d q k l : ℕ) → T (le (odd d true q k l) zeroᶠ)
unfolding odd
minus_odd d zero k l = minus 0 (pos 0)
minus_odd d (suc q) k l = minus _ _

minus_round : (a c : ℕ) → T (le (round binary32 true a c) zeroᶠ)
unfolding round units lt le eq of_bits
minus_round a c =
    let f = binary32 in
    let n = a * 2 ^ low f in
    let k = size (n / c) - prec f in
    let q = nearest (n / (c * 2 ^ k)) (compare (n % (c * 2 ^ k) * 2) (c * 2 ^ k)) in
    cond_both (ltb (q * 2 ^ k) (2 ^ (low f + suc (emax f)))) (odd (suc (prec f)) true q k (low f)) (inf true) (λ (x : Float). T (le x zeroᶠ)) (λ _. minus_odd (suc (prec f)) q k (low f)) (λ _. tt)

plus_round : (a c : ℕ) → 0 < c → T (le zeroᶠ (round binary32 false a c))
plus_round a c C = subst (λ (x : Float). T (le x (round binary32 false a c))) zero_round (round_mono binary32 0 1 a c (omega arith) C (omega arith))

-- ---- at least half a turn

past_half : (s : Bool) (a c : ℕ) → 0 < c → 13176795 * c ≤ a * 2 ^ 22 → T (le half_turn (size_of (round binary32 s a c)))
past_half s a c C h = subst (λ (x : Float). T (le half_turn x)) (sym (size_round binary32 s a c)) (subst (λ (x : Float). T (le x (round binary32 false a c))) half_round (round_mono binary32 13176795 (2 ^ 22) a c (omega arith) C h))

abbrev Big : ArcSweep → Float → Type 0
Big w t = T (goes w t) × T (is_of Large t)

grown_by : (a c : ℕ) → 0 < c → 13176795 * c ≤ a * 2 ^ 22 → Big Positive (round binary32 false a c)
unfolding of_bits
grown_by a c C h = (plus_round a c C, past_half false a c C h)

fallen_by : (a c : ℕ) → 0 < c → 13176795 * c ≤ a * 2 ^ 22 → Big Negative (round binary32 true a c)
unfolding of_bits
fallen_by a c C h = (minus_round a c, past_half true a c C h)

flags : (z : ArcSize) (w : ArcSweep) (x t : Float) → T (goes w t) → T (is_of z t) → ByFlags z w x t
flags z w x t g k = (or_r (is_nan t) (goes w t) g, or_r (is_nan t) (is_of z t || wraps z w x) (or_l (is_of z t) (wraps z w x) k))

-- ---- each of the four

large_growing : (x a : Float) → Angle a → ByFlags Large Positive x (tau ⊖ a)
unfolding sub add neg of_bits sum
large_growing x nan h = unfold is_nan in (tt, tt)
large_growing x (inf s) h = absurd (no_inf s h)
large_growing x (fin false m e) h =
    let k = small false m e h in
    let A = 13176795 * 1 * down e in
    let B = m * up e * 2 ^ 21 in
    let c = 2 ^ 21 * down e in
    let C : 0 < c = omega (arith, down_pos e) in
    cond_both (ltb A B) (round binary32 true (B - A) c) (round binary32 (false && ltb B A) (A - B) c) (ByFlags Large Positive x)
    (λ less. absurd (omega (arith, ltb-true A B less, k.0, down_pos e)))
    (λ _. let p = grown_by (A - B) c C (omega (arith, k.0)) in flags Large Positive x (round binary32 false (A - B) c) p.0 p.1)
large_growing x (fin true m e) h =
    let k = small true m e h in
    let A = 13176795 * 1 * down e in
    let B = m * up e * 2 ^ 21 in
    let c = 2 ^ 21 * down e in
    let C : 0 < c = omega (arith, down_pos e) in
    let p = grown_by (A + B) c C (omega arith) in flags Large Positive x (round binary32 false (A + B) c) p.0 p.1

large_falling : (x a : Float) → Angle a → ByFlags Large Negative x (a ⊖ tau)
unfolding sub add neg of_bits sum
large_falling x nan h = unfold is_nan in (tt, tt)
large_falling x (inf s) h = absurd (no_inf s h)
large_falling x (fin false m e) h =
    let k = small false m e h in
    let A = m * up e * 2 ^ 21 in
    let B = 13176795 * 1 * down e in
    let c = down e * 2 ^ 21 in
    let C : 0 < c = omega (arith, down_pos e) in
    cond_both (ltb A B) (round binary32 true (B - A) c) (round binary32 (false && ltb B A) (A - B) c) (ByFlags Large Negative x)
    (λ _. let p = fallen_by (B - A) c C (omega (arith, k.0)) in flags Large Negative x (round binary32 true (B - A) c) p.0 p.1)
    (λ not_less. absurd (omega (arith, ltb-false A B not_less, k.0, down_pos e)))
large_falling x (fin true m e) h =
    let A = m * up e * 2 ^ 21 in
    let B = 13176795 * 1 * down e in
    let c = down e * 2 ^ 21 in
    let C : 0 < c = omega (arith, down_pos e) in
    let p = fallen_by (A + B) c C (omega arith) in flags Large Negative x (round binary32 true (A + B) c) p.0 p.1

within_half : (s : Bool) (m : ℕ) (e : ℤ) → Within s m e → T (is_of Small (fin s m e))
unfolding float_with_sign of_bits
within_half s m e k = le_of_values (fin false m e) half_turn (m * up e) (down e) 13176795 (2 ^ 22) (down_pos e) (omega arith) (refl, refl) (refl, refl) (omega (arith, k.0))

small_falling : (x a : Float) → Angle a → ByFlags Small Negative x (neg a)
unfolding neg float_with_sign
small_falling x nan h = unfold is_nan in (tt, tt)
small_falling x (inf s) h = absurd (no_inf s h)
small_falling x (fin false m e) h = flags Small Negative x (fin true m e) (minus m e) (within_half false m e (small false m e h))
small_falling x (fin true m e) h = let k = small true m e h in flags Small Negative x (fin false m e) (none m e (k.1 refl)) (within_half true m e k)

-- ---- small, with growing angles

plus_tau : (s : Bool) (m : ℕ) (e : ℤ) → m * up e * 2 ^ 22 ≤ 13176795 * down e → T (le zeroᶠ (fin s m e ⊕ tau))
unfolding add of_bits sum
plus_tau false m e h = plus_round (m * up e * 2 ^ 21 + 13176795 * 1 * down e) (down e * 2 ^ 21) (omega (arith, down_pos e))
plus_tau true m e h =
    let A = m * up e * 2 ^ 21 in
    let B = 13176795 * 1 * down e in
    let c = down e * 2 ^ 21 in
    cond_both (ltb A B) (round binary32 false (B - A) c) (round binary32 (true && ltb B A) (A - B) c) (λ t. T (le zeroᶠ t))
    (λ _. plus_round (B - A) c (omega (arith, down_pos e)))
    (λ not_less. absurd (omega (arith, ltb-false A B not_less, h, down_pos e)))

not_below : (s : Bool) (m : ℕ) (e : ℤ) → lt (fin s m e) zeroᶠ ≡ false → T (le zeroᶠ (fin s m e))
unfolding lt of_bits
not_below false m e h = plus m e
not_below true m e h = none_minus m e (omega (arith, ltb-false 0 (m * up e * 1 + 0 * 1 * down e) h))

grows_from : (x : Float) → Half x → T (is_nan (turned_by x) || goes Positive (turned_by x))
unfolding is_nan le lt eq of_bits float_with_sign
grows_from nan h = tt
grows_from (inf s) h = absurd h
grows_from (fin s m e) h =
    let few : m * up e * 2 ^ 22 ≤ 13176795 * 1 * down e = at_most (m * up e * 2 ^ 22) (13176795 * 1 * down e) true h in
    cond_both (lt (fin s m e) zeroᶠ) (fin s m e ⊕ tau) (fin s m e) (λ t. T (is_nan t || le zeroᶠ t))
    (λ _. or_r (is_nan (fin s m e ⊕ tau)) _ (plus_tau s m e (omega (arith, few))))
    (λ up. or_r (is_nan (fin s m e)) _ (not_below s m e up))

weaker : (a b c : Bool) → T (a || b) → T (a || (b || c))
weaker true b c h = tt
weaker false true c h = tt
weaker false false c h = absurd h

small_of : (x : Float) → Half x → T (is_nan x || is_of Small x)
unfolding of_bits
small_of x h = h

small_growing : (x : Float) → Half x → ByFlags Small Positive x (turned_by x)
small_growing x h = (
  grows_from x h,
  cond_both (lt x zeroᶠ) (x ⊕ tau) x (λ t. T (is_nan t || (is_of Small t || lt x zeroᶠ)))
      (λ below. or_r (is_nan (x ⊕ tau)) _ (or_r (is_of Small (x ⊕ tau)) (lt x zeroᶠ) (T_from_true (lt x zeroᶠ) below)))
      (λ _. weaker (is_nan x) (is_of Small x) (lt x zeroᶠ) (small_of x h)),
)

by_flags : (z : ArcSize) (w : ArcSweep) (b : Bool) (a : Float) → Angle a → ByFlags z w (cond b (neg one) one ⊗ a) (turn_by z w (cond b (neg one) one) a)
unfolding neg of_bits
by_flags Small Positive b a h = cond_both b (neg one) one (λ s. ByFlags Small Positive (s ⊗ a) (turned_by (s ⊗ a))) (λ _. small_growing _ (signed true a h)) (λ _. small_growing _ (signed false a h))
by_flags Small Negative b a h = small_falling (cond b (neg one) one ⊗ a) a h
by_flags Large Positive b a h = large_growing (cond b (neg one) one ⊗ a) a h
by_flags Large Negative b a h = large_falling (cond b (neg one) one ⊗ a) a h

pub turns : (F : Functions) → ((x : Float) → Angle (F.arc_cosine x)) → (alone : Bool) (a : ArcTo) → TurnsByFlags F alone a
turns F lawful alone a = by_flags a.size a.sweep _ _ (lawful _)

-- ---- the radii

fits_by : (b : Bool) (l : Float) (r : Radii) (k : Float) → FitsBy b l r k (divided_radii (cond b (scaled_radii r (root l)) r) k)
fits_by true l r k = refl
fits_by false l r k = refl

pub radii_fit : (F : Functions) (alone : Bool) (a : ArcTo) → RadiiFit F alone a
radii_fit F alone a =
    let p = half_chord a (turned_of F a.angle) in
    let k = scale_of alone p (radii_of a) in
    let r = scaled_radii (radii_of a) k in
    let l = lambda (multiple p k) r in
    fits_by (lt one l) l r k
