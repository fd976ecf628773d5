-- How far an arc turns is at most a whole turn, so it needs one to four curves, as many as are counted.
use Rattle.std.proofs.Common.{◌≡◌, ℕ, zero, suc, ◌+◌, ◌-◌, ◌*◌, ◌/◌, ◌<◌, ◌≤◌, Bool, true, false, cond, ◌&&◌, ◌||◌, T, ltb, eqb, ℤ, pos, negsuc, refl, sym, ap, ◌∙◌, subst, not, true≢false, eqb→eq, mul-le-mul_right, le_trans, div-lt_iff_lt-mul, arith, ltb→lt, ltb-true}
use Rattle.std.specs.Bool.{beq}
use Rattle.std.proofs.Math.Nat.{zero-div}
use Rattle.std.proofs.lemmas.Bool.{cond_both}
use Prim.Native.Nat.{◌%◌, ◌^◌, compare}
use lib.Ieee.{Float, Format, nan, inf, fin, binary32, prec, emax, low, up, down, nearest, round, units, odd, sum, size, neg, sub, add, mul, div, lt, eq, le, is_nan, of_bits, of_int}
use lib.Ieee.Fits.{down_pos, and_l, and_r}
use lib.Ieee.Order.{round_mono, le_of_values}
use Rattle.numbers.specs.Arithmetic.{◌⊕◌, ◌⊖◌, ◌⊗◌, one}
use Rattle.numbers.specs.Arithmetic.{zero as zeroᶠ}
use Rattle.maths.specs.Functions.{Functions, Angle}
use Rattle.arcs.specs.declared.arc_to.ArcTo.{ArcTo}
use Rattle.arcs.specs.declared.centre.Centred.{Centred}
use Rattle.arcs.specs.Centres.{size_of}
use Rattle.arcs.specs.Sweeps.{tau, four, turned_by, turn_by, turn_of, curves_needed, sweep_of, Counted}
use Rattle.arcs.specs.Curves.{round_curves, ellipse, AsNeeded}
use Rattle.arcs.specs.declared.centre.Turned.{Turned}
use Rattle.arcs.proofs.Round.{curves_long}
use Rattle.std.specs.Float.{float_with_sign, float_max, ceil, round_with, ratio_ceil, ratio_floor}
use Rattle.arcs.specs.declared.arc_to.ArcSize.{ArcSize}
use Rattle.arcs.specs.declared.arc_to.ArcSize.TheVariants.{Small, Large}
use Rattle.arcs.specs.declared.arc_to.ArcSweep.{ArcSweep}
use Rattle.arcs.specs.declared.arc_to.ArcSweep.TheVariants.{Negative, Positive}

-- ---- sizes

size_odd : (d q k l : ℕ) (s : Bool) → size_of (odd d s q k l) ≡ odd d false q k l
unfolding odd float_with_sign
size_odd d zero k l s = refl
size_odd d (suc q) k l s = refl

size_units : (f : Format) (s : Bool) (q k : ℕ) → size_of (units f s q k) ≡ units f false q k
unfolding units float_with_sign
size_units f s q k = go (ltb (q * 2 ^ k) (2 ^ (low f + suc (emax f))))
  where
    go : (b : Bool) → size_of (cond b (odd (suc (prec f)) s q k (low f)) (inf s)) ≡ cond b (odd (suc (prec f)) false q k (low f)) (inf false)
    go true = size_odd (suc (prec f)) q k (low f) s
    go false = refl

pub size_round : (f : Format) (s : Bool) (a c : ℕ) → size_of (round f s a c) ≡ round f false a c
unfolding round
size_round f s a c =
    let n = a * 2 ^ low f in
    let k = size (n / c) - prec f in
    size_units f s (nearest (n / (c * 2 ^ k)) (compare (n % (c * 2 ^ k) * 2) (c * 2 ^ k))) k

-- a fraction of at most N / D, rounded with either sign
rounded : (f : Format) (s : Bool) (a c N D : ℕ) → 0 < c → 0 < D → a * D ≤ N * c → T (le (size_of (round f s a c)) (round f false N D))
rounded f s a c N D C P h = subst (λ (x : Float). T (le x (round f false N D))) (sym (size_round f s a c)) (round_mono f a c N D C P h)

-- and a sum
summed : (f : Format) (s t : Bool) (a b c N D : ℕ) → 0 < c → 0 < D → a * D ≤ N * c → b * D ≤ N * c → (beq s t ≡ true → (a + b) * D ≤ N * c) → T (le (size_of (sum f s a t b c)) (round f false N D))
unfolding sum
summed f s t a b c N D C P h k both =
    cond_both (beq s t) _ _ (λ (x : Float). T (le (size_of x) (round f false N D)))
    (λ e. rounded f s (a + b) c N D C P (both e))
    (λ _. cond_both (ltb a b) (round f t (b - a) c) (round f (s && ltb b a) (a - b) c) (λ (x : Float). T (le (size_of x) (round f false N D)))
    (λ _. rounded f t (b - a) c N D C P (le_trans (mul-le-mul_right D (omega arith)) k))
    (λ _. rounded f (s && ltb b a) (a - b) c N D C P (le_trans (mul-le-mul_right D (omega arith)) h)))

-- ---- a whole turn and half of it, as they are
abbrev turn : Float
turn = fin false 13176795 (negsuc 20)

abbrev pub half_turn : Float
half_turn = fin false 13176795 (negsuc 21)

turn_round : round binary32 false 13176795 (2 ^ 21) ≡ turn
unfolding round
turn_round = refl

four_round : round binary32 false (13176795 * 2 ^ 23) (13176795 * 2 ^ 21) ≡ four
unfolding round of_bits
four_round = refl

pub zero_round : round binary32 false 0 1 ≡ zeroᶠ
unfolding round of_bits
zero_round = refl

pub half_round : round binary32 false 13176795 (2 ^ 22) ≡ half_turn
unfolding round
half_round = refl

-- ---- what compares as fractions do

pub at_most : (a b : ℕ) (c : Bool) → T (ltb a b || (eqb a b && c)) → a ≤ b
at_most a b c = go (ltb a b) (eqb a b) (ltb→lt a b) (eqb→eq a b)
  where
    go : (x y : Bool) → (T x → a < b) → (T y → a ≡ b) → T (x || (y && c)) → a ≤ b
    go true y l e h = omega (arith, l tt)
    go false true l e h = omega (arith, e tt)
    go false false l e h = absurd h

pub or_r : (a b : Bool) → T b → T (a || b)
or_r true b h = tt
or_r false b h = h

-- ---- what an arc turns

abbrev Bounded : Float → Type 0
Bounded t = T (is_nan t || le (size_of t) tau)

known : (x : Float) → T (le (size_of x) turn) → Bounded x
unfolding of_bits
known x h = or_r (is_nan x) (le (size_of x) turn) h

by_sum : (s t : Bool) (a b c : ℕ) → 0 < c → a * 2 ^ 21 ≤ 13176795 * c → b * 2 ^ 21 ≤ 13176795 * c → (beq s t ≡ true → (a + b) * 2 ^ 21 ≤ 13176795 * c) → Bounded (sum binary32 s a t b c)
by_sum s t a b c C h k both = known _ (subst (λ (x : Float). T (le (size_of (sum binary32 s a t b c)) x)) turn_round (summed binary32 s t a b c 13176795 (2 ^ 21) C (omega arith) h k both))

finite : (s : Bool) (m : ℕ) (e : ℤ) → m * up e * 2 ^ 21 ≤ 13176795 * down e → Bounded (fin s m e)
unfolding float_with_sign
finite s m e h = known (fin s m e) (le_of_values (fin false m e) turn (m * up e) (down e) 13176795 (2 ^ 21) (down_pos e) (omega arith) (refl, refl) (refl, refl) h)

-- an angle as a fraction; one below 0 is minus 0
abbrev pub Within : Bool → ℕ → ℤ → Type 0
Within s m e = (m * up e * 2 ^ 22 ≤ 13176795 * down e) × (s ≡ true → m * up e ≡ 0)

-- of the numbers with a minus only minus 0 is not below 0
pub no_size : (m : ℕ) (e : ℤ) → T (le zeroᶠ (fin true m e)) → m * up e ≡ 0
unfolding le lt eq of_bits
no_size m e h =
    let level : T (eqb (0 * 1 * down e) (m * up e * 1)) = and_l (eqb (0 * 1 * down e) (m * up e * 1)) (false || eqb (0 * 1 * down e) 0) h in
    omega (arith, eqb→eq (0 * 1 * down e) (m * up e * 1) level)

pub small : (s : Bool) (m : ℕ) (e : ℤ) → Angle (fin s m e) → Within s m e
unfolding is_nan le lt eq of_bits
small false m e h = (at_most (m * up e * 2 ^ 22) (13176795 * 1 * down e) true (and_r (le zeroᶠ (fin false m e)) (le (fin false m e) half_turn) h), λ i. absurd (true≢false (sym i)))
small true m e h = let none = no_size m e (and_l (le zeroᶠ (fin true m e)) (le (fin true m e) half_turn) h) in (omega (arith, none), λ _. none)

pub no_inf : (s : Bool) → Angle (inf s) → ⊥
unfolding is_nan le lt eq of_bits
no_inf true h = h
no_inf false h = h

-- ---- each of the four

negated : (a : Float) → Angle a → Bounded (neg a)
unfolding neg
negated nan h = unfold is_nan in tt
negated (inf s) h = absurd (no_inf s h)
negated (fin s m e) h = finite (not s) m e (omega (arith, (small s m e h).0))

rest : (a : Float) → Angle a → Bounded (tau ⊖ a)
unfolding sub add neg of_bits
rest nan h = unfold is_nan in tt
rest (inf s) h = absurd (no_inf s h)
rest (fin s m e) h =
    let k = small s m e h in
    by_sum false (not s) (13176795 * 1 * down e) (m * up e * 2 ^ 21) (2 ^ 21 * down e) (omega (arith, down_pos e)) (omega arith) (omega (arith, k.0)) (λ same. omega (arith, k.1 (minus s same)))
  where
    minus : (s : Bool) → beq false (not s) ≡ true → s ≡ true
    minus true e = refl
    minus false e = absurd (true≢false (sym e))

less : (a : Float) → Angle a → Bounded (a ⊖ tau)
unfolding sub add neg of_bits
less nan h = unfold is_nan in tt
less (inf s) h = absurd (no_inf s h)
less (fin s m e) h =
    let k = small s m e h in
    by_sum s true (m * up e * 2 ^ 21) (13176795 * 1 * down e) (down e * 2 ^ 21) (omega (arith, down_pos e)) (omega (arith, k.0)) (omega arith) (λ same. omega (arith, k.1 (same_true s same)))
  where
    same_true : (s : Bool) → beq s true ≡ true → s ≡ true
    same_true true e = refl
    same_true false e = e

-- with a sign
abbrev pub Half : Float → Type 0
Half t = T (is_nan t || le (size_of t) half_turn)

pub signed : (t : Bool) (a : Float) → Angle a → Half (fin t 1 (pos 0) ⊗ a)
unfolding mul
signed t nan h = unfold is_nan in tt
signed t (inf s) h = absurd (no_inf s h)
signed t (fin s m e) h = or_r _ _ (subst (λ (x : Float). T (le (size_of (fin t 1 (pos 0) ⊗ fin s m e)) x)) half_round (rounded binary32 (not (beq t s)) (1 * 1 * (m * up e)) (1 * down e) 13176795 (2 ^ 22) (omega (arith, down_pos e)) (omega arith) (omega (arith, (small s m e h).0))))

turned : (x : Float) → Half x → Bounded (turned_by x)
unfolding is_nan le lt eq of_bits add float_with_sign
turned nan h = tt
turned (inf s) h = absurd h
turned (fin s m e) h =
    let few : m * up e * 2 ^ 22 ≤ 13176795 * 1 * down e = at_most (m * up e * 2 ^ 22) (13176795 * 1 * down e) true h in
    cond_both (lt (fin s m e) zeroᶠ) (fin s m e ⊕ tau) (fin s m e) Bounded
    (λ below. by_sum s false (m * up e * 2 ^ 21) (13176795 * 1 * down e) (down e * 2 ^ 21) (omega (arith, down_pos e)) (omega (arith, few)) (omega arith) (λ same. absurd (positive s same below)))
    (λ _. finite s m e (omega (arith, few)))
  where
    positive : (s : Bool) → beq s false ≡ true → lt (fin s m e) zeroᶠ ≡ true → ⊥
    positive true same below = true≢false (sym same)
    positive false same below = omega (arith, ltb-true (m * up e * 1) (0 * 1 * down e) below)

turn_bounded : (z : ArcSize) (w : ArcSweep) (b : Bool) (a : Float) → Angle a → Bounded (turn_by z w (cond b (neg one) one) a)
unfolding neg of_bits
turn_bounded Small Positive b a h = cond_both b (neg one) one (λ s. Bounded (turned_by (s ⊗ a))) (λ _. turned _ (signed true a h)) (λ _. turned _ (signed false a h))
turn_bounded Small Negative b a h = negated a h
turn_bounded Large Positive b a h = rest a h
turn_bounded Large Negative b a h = less a h

-- ---- whole numbers from 1 to 4

one_to_four : (k : ℕ) → k ≤ 4 → Counted (float_max (round binary32 false k 1) one)
unfolding round le lt eq is_nan of_bits of_int
one_to_four zero h = (refl, tt)
one_to_four (suc zero) h = (refl, tt)
one_to_four (suc (suc zero)) h = (refl, tt)
one_to_four (suc (suc (suc zero))) h = (refl, tt)
one_to_four (suc (suc (suc (suc zero)))) h = (refl, tt)
one_to_four (suc (suc (suc (suc (suc k))))) h = absurd (omega (arith, h))

minus_zero : Counted (float_max (round binary32 true 0 1) one)
unfolding round le lt eq is_nan of_bits of_int
minus_zero = (refl, tt)

one_itself : Counted (float_max (ceil binary32 one) one)
unfolding round le lt eq is_nan of_bits of_int round_with
one_itself = (refl, tt)

nan_one : Counted (float_max nan one)
unfolding round le lt eq is_nan of_bits of_int
nan_one = (refl, tt)

fifth : (n d : ℕ) → 0 < d → n ≤ 4 * d → ratio_ceil n d ≤ 4
fifth n d D h = let under : (n + d - 1) / d < 5 = (div-lt_iff_lt-mul D).1 (omega (arith, D, h)) in omega (arith, under)

raised : (x : Float) → T (le zeroᶠ x) → T (le x four) → Counted (float_max (ceil binary32 x) one)
unfolding le lt eq of_bits round_with
raised nan h k = absurd h
raised (inf true) h k = absurd h
raised (inf false) h k = absurd k
raised (fin true m e) h k = subst (λ (j : ℕ). Counted (float_max (round binary32 true (ratio_floor j (down e)) 1) one)) {x = 0} {y = m * up e} (sym (no_size m e h)) (subst (λ (j : ℕ). Counted (float_max (round binary32 true j 1) one)) {x = 0} {y = 0 / down e} (sym (zero-div (down e))) minus_zero)
raised (fin false m e) h k =
    let few : m * up e * 1 ≤ 1 * 4 * down e = at_most (m * up e * 1) (1 * 4 * down e) true k in
    one_to_four (ratio_ceil (m * up e) (down e)) (fifth (m * up e) (down e) (down_pos e) (omega (arith, few)))

ratio : (m : ℕ) (e : ℤ) → m * up e * 2 ^ 21 ≤ 13176795 * down e → (x : Bool) → Counted (float_max (ceil binary32 (cond x one (round binary32 false (m * up e * 2 ^ 23) (13176795 * 1 * down e)))) one)
ratio m e h true = one_itself
ratio m e h false =
    let long : 0 < 13176795 * 1 * down e = omega (arith, down_pos e) in
    raised (round binary32 false (m * up e * 2 ^ 23) (13176795 * 1 * down e))
    (subst (λ (x : Float). T (le x (round binary32 false (m * up e * 2 ^ 23) (13176795 * 1 * down e)))) zero_round (round_mono binary32 0 1 (m * up e * 2 ^ 23) (13176795 * 1 * down e) (omega arith) long (omega arith)))
    (subst (λ (x : Float). T (le (round binary32 false (m * up e * 2 ^ 23) (13176795 * 1 * down e)) x)) four_round (round_mono binary32 (m * up e * 2 ^ 23) (13176795 * 1 * down e) (13176795 * 2 ^ 23) (13176795 * 2 ^ 21) long (omega arith) (omega (arith, h))))

counted : (t : Float) → Bounded t → Counted (curves_needed t)
unfolding is_nan le lt eq of_bits div sub add neg float_with_sign round_with
counted nan h = nan_one
counted (inf s) h = absurd h
counted (fin s m e) h = ratio m e (omega (arith, at_most (m * up e * 2 ^ 21) (13176795 * 1 * down e) true h)) _

-- whatever the angle, as long as it is one
pub quarters : (F : Functions) → ((x : Float) → Angle (F.arc_cosine x)) → (a : ArcTo) (c : Centred) → Counted (curves_needed (turn_of F a c))
quarters F lawful a c = counted _ (turn_bounded a.size a.sweep _ _ (lawful _))

pub needed : (F : Functions) → ((x : Float) → Angle (F.arc_cosine x)) → (a : ArcTo) (t : Turned) (c : Centred) → AsNeeded false (turn_of F a c) (round_curves F a t c)
needed F lawful a t c = let s = sweep_of F a c in let k = quarters F lawful a c in (ap (λ n. of_int binary32 (pos n)) (curves_long s.count F (ellipse c t s) s.start s.each) ∙ k.0, k.1)
