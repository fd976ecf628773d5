-- Roots rise where none is NaN.
use Rattle.std.proofs.Common.{◌≡◌, Bool, true, false, not, ◌&&◌, ◌||◌, T, [], ◌∷◌, subst, inl, inr, arith}
use Rattle.std.specs.List.{All, AllPairs}
use Rattle.std.specs.Float.{nan, NotNan, ◌<ᶠ◌, ◌≤ᶠ◌}
use lib.Ieee.{Float, lt, le, eq, is_nan}
use Rattle.std.proofs.lemmas.Bool.{cond_both}
use Rattle.std.proofs.lemmas.Float.{T_from_true, T_from_false, le_left, le_right, le_of_eq, le_of_lt, le_refl, le_trans, lt-or-eq, lt_of_lt_of_le}
use Rattle.std.proofs.lemmas.List.Elements.{All-nil, All-cons}
use Rattle.std.proofs.lemmas.List.Kept.{AllPairs-cons}
use Rattle.numbers.specs.Arithmetic.{zero, one}
use Rattle.numbers.proofs.Orders.{at_most}
use Rattle.maths.specs.Functions.{Functions}
use Rattle.curves.specs.Lines.{FromZeroToOne}
use Rattle.lists.specs.Fixed.{Places}
use Rattle.curves.specs.declared.roots.Reduced.{Reduced}
use Rattle.curves.specs.Ranges.{Within, RootsRise}
use Rattle.curves.specs.Roots.{single, swapped, distinct3, trisected, only_root, has_three_roots, roots_of}
use Rattle.curves.proofs.Within.{saturated_within, swapped_within}

-- ---- two that are swapped where the later is less

-- neither was NaN where neither is
were_numbers : (x y : Float) → NotNan (swapped x y).0 → NotNan (swapped x y).1 → NotNan x × NotNan y
were_numbers x y = cond_both (lt y x) (y, x) (x, y) (λ (s : Float × Float). NotNan s.0 → NotNan s.1 → NotNan x × NotNan y) (λ _ p q. (q, p)) (λ _ p q. (p, q))

-- both lie below the second
record Under (x y : Float) (s : Float × Float) : Type 0 where
  ordered : s.0 ≤ᶠ s.1
  first : x ≤ᶠ s.1
  second : y ≤ᶠ s.1

under : (x y : Float) → NotNan x → NotNan y → Under x y (swapped x y)
under x y p q = cond_both (lt y x) (y, x) (x, y) (Under x y)
    (λ e. let less = le_of_lt y x (T_from_true _ e) in record { ordered = less; first = le_refl x p; second = less })
    (λ e. let most = T_from_true _ (at_most y x q p e) in record { ordered = most; first = most; second = le_refl y q })

-- what both are at most, the greater is
up_to : (x y z : Float) → x ≤ᶠ z → y ≤ᶠ z → (swapped x y).1 ≤ᶠ z
up_to x y z p q = cond_both (lt y x) (y, x) (x, y) (λ (s : Float × Float). s.1 ≤ᶠ z) (λ _. p) (λ _. q)

-- ---- three in order, and of those that are equal one

abbrev Numbers : Float → Float → Float → Type 0
Numbers x y z = NotNan x × NotNan y × NotNan z

not_both : (x : Float) → NotNan x → is_nan x ≡ true → ⊥
not_both x p e = absurd (subst (λ b. T (not b)) e p)

were_three : (x y z : Float) → All NotNan (distinct3 x y z).items → Numbers x y z
were_three x y z = cond_both (eq x y) _ _ (λ (r : Places Float). All NotNan r.items → Numbers x y z)
    (λ e. let same = le_of_eq x y (T_from_true _ e) in
    cond_both (is_nan z) _ _ (λ (r : Places Float). All NotNan r.items → Numbers x y z)
    (λ f all. absurd (not_both z (all 1 nan (omega arith)) f))
    (λ f all. (le_left x y same, le_right x y same, T_from_false _ f)))
    (λ e. cond_both (eq y z) _ _ (λ (r : Places Float). All NotNan r.items → Numbers x y z)
    (λ f all. (all 0 nan (omega arith), all 1 nan (omega arith), le_right y z (le_of_eq y z (T_from_true _ f))))
    (λ f all. (all 0 nan (omega arith), all 1 nan (omega arith), all 2 nan (omega arith))))

less : (x y : Float) → x ≤ᶠ y → eq x y ≡ false → x <ᶠ y
less x y p e = elim (lt-or-eq x y p) [ inl l ↦ l | inr same ↦ absurd (subst T e same) ]

one_rises : (x : Float) → AllPairs ◌<ᶠ◌ (x ∷ [])
one_rises x = AllPairs-cons ◌<ᶠ◌ x [] (All-nil _) (λ i j d p q. absurd (omega arith))

two_rise : (x y : Float) → x <ᶠ y → AllPairs ◌<ᶠ◌ (x ∷ y ∷ [])
two_rise x y p = AllPairs-cons ◌<ᶠ◌ x (y ∷ []) (All-cons (◌<ᶠ◌ x) y [] p (All-nil (◌<ᶠ◌ x))) (one_rises y)

three_rise : (x y z : Float) → x <ᶠ y → y <ᶠ z → AllPairs ◌<ᶠ◌ (x ∷ y ∷ z ∷ [])
three_rise x y z p q =
    let far : x <ᶠ z = lt_of_lt_of_le x y z p (le_of_lt y z q) in
    AllPairs-cons ◌<ᶠ◌ x (y ∷ z ∷ []) (All-cons (◌<ᶠ◌ x) y (z ∷ []) p (All-cons (◌<ᶠ◌ x) z [] far (All-nil (◌<ᶠ◌ x)))) (two_rise y z q)

distinct_rise : (x y z : Float) → x ≤ᶠ y → y ≤ᶠ z → AllPairs ◌<ᶠ◌ (distinct3 x y z).items
distinct_rise x y z p q = cond_both (eq x y) _ _ (λ (r : Places Float). AllPairs ◌<ᶠ◌ r.items)
    (λ e. cond_both (is_nan z) _ _ (λ (r : Places Float). AllPairs ◌<ᶠ◌ r.items) (λ f. absurd (not_both z (le_right y z q) f)) (λ f. one_rises x))
    (λ e. cond_both (eq y z) _ _ (λ (r : Places Float). AllPairs ◌<ᶠ◌ r.items) (λ f. two_rise x y (less x y p e)) (λ f. three_rise x y z (less x y p e) (less y z q f)))

-- ---- from 0 to 1

number_within : (x : Float) → Within x → NotNan x → FromZeroToOne x
number_within x = parts (is_nan x) (le zero x) (le x one)
  where
    parts : (n p q : Bool) → T (n || (p && q)) → T (not n) → T p × T q
    parts true p q t k = absurd k
    parts false true true t k = (tt, tt)
    parts false true false t k = absurd t
    parts false false q t k = absurd t

one_within : (x : Float) → FromZeroToOne x → All FromZeroToOne (x ∷ [])
one_within x p = All-cons FromZeroToOne x [] p (All-nil FromZeroToOne)

two_within : (x y : Float) → FromZeroToOne x → FromZeroToOne y → All FromZeroToOne (x ∷ y ∷ [])
two_within x y p q = All-cons FromZeroToOne x (y ∷ []) p (one_within y q)

all_within : (x y z : Float) → FromZeroToOne x → FromZeroToOne y → FromZeroToOne z → All FromZeroToOne (distinct3 x y z).items
all_within x y z p q r = cond_both (eq x y) _ _ (λ (s : Places Float). All FromZeroToOne s.items)
    (λ e. cond_both (is_nan z) _ _ (λ (s : Places Float). All FromZeroToOne s.items) (λ f. two_within x z p r) (λ f. one_within x p))
    (λ e. cond_both (eq y z) _ _ (λ (s : Places Float). All FromZeroToOne s.items) (λ f. two_within x y p q) (λ f. All-cons FromZeroToOne x (y ∷ z ∷ []) p (two_within y z q r)))

-- ---- the roots

three_sorted : (x y z : Float) → Within x → Within y → Within z
    → let first = swapped x y in let second = swapped first.1 z in let third = swapped first.0 second.0 in RootsRise (distinct3 third.0 third.1 second.1)
three_sorted x y z p q r =
    let first = swapped x y in
    let second = swapped first.1 z in
    let third = swapped first.0 second.0 in
    let at_first = swapped_within x y p q in
    let at_second = swapped_within first.1 z at_first.1 r in
    let at_third = swapped_within first.0 second.0 at_first.0 at_second.0 in
    λ numbers.
    let ends = were_three third.0 third.1 second.1 numbers in
    let middle = were_numbers first.0 second.0 ends.0 ends.1 in
    let later = were_numbers first.1 z middle.1 ends.2 in
    let inputs = were_numbers x y middle.0 later.0 in
    let a = under x y inputs.0 inputs.1 in
    let b = under first.1 z later.0 later.1 in
    let c = under first.0 second.0 middle.0 middle.1 in
    let top = up_to first.0 second.0 second.1 (le_trans first.0 first.1 second.1 a.ordered b.first) b.ordered in (
      distinct_rise third.0 third.1 second.1 c.ordered top,
      all_within third.0 third.1 second.1 (number_within third.0 at_third.0 ends.0) (number_within third.1 at_third.1 ends.1) (number_within second.1 at_second.1 ends.2),
    )

single_rises : (x : Float) → Within x → RootsRise (single x)
single_rises x p = λ numbers. (one_rises x, one_within x (number_within x p (numbers 0 nan (omega arith))))

pub roots_rise : (F : Functions) (c : Reduced) → RootsRise (roots_of F c)
roots_rise F c = cond_both (has_three_roots c) (trisected F c) (only_root F c) RootsRise
    (λ e. three_sorted _ _ _ (saturated_within _) (saturated_within _) (saturated_within _))
    (λ e. single_rises _ (saturated_within _))
