-- Roots lie from 0 to 1, or are NaN.
use Rattle.std.proofs.Common.{◌≡◌, Bool, true, false, cond, not, ◌&&◌, ◌||◌, T, arith}
use lib.Ieee.{Float, of_bits, lt, le, eq, is_nan}
use Rattle.std.proofs.lemmas.Bool.{cond_both}
use Rattle.numbers.specs.Arithmetic.{zero, one}
use Rattle.numbers.proofs.Orders.{at_most}
use Rattle.maths.specs.Functions.{Functions}
use Rattle.curves.specs.declared.roots.Reduced.{Reduced}
use Rattle.curves.specs.Ranges.{Within, RootsWithin}
use Rattle.curves.specs.Roots.{saturated, single, pair, swapped, distinct3, trisected, only_root, has_three_roots, roots_of}

by_nan : (n : Bool) (p q : Bool) → (T (not n) → p ≡ true) → (T (not n) → q ≡ true) → T (n || (p && q))
by_nan true p q h k = tt
by_nan false p q h k = rw (h tt, k tt) tt

pub saturated_within : (x : Float) → Within (saturated x)
unfolding of_bits le lt eq is_nan
saturated_within x = cond_both (lt x zero) zero (cond (lt one x) one x) Within (λ e. tt)
    (λ e. cond_both (lt one x) one x Within (λ f. tt) (λ f. by_nan (is_nan x) (le zero x) (le x one) (λ p. at_most x zero p tt e) (λ p. at_most one x tt p f)))

pub swapped_within : (x y : Float) → Within x → Within y → Within (swapped x y).0 × Within (swapped x y).1
swapped_within x y p q = cond_both (lt y x) (y, x) (x, y) (λ (s : Float × Float). Within s.0 × Within s.1) (λ e. (q, p)) (λ e. (p, q))

single_within : (x : Float) → Within x → RootsWithin (single x)
unfolding of_bits le lt eq is_nan
single_within x p = record { some = omega arith; few = omega arith; first = p; second = tt; third = tt }

pair_within : (x y : Float) → Within x → Within y → RootsWithin (pair x y)
unfolding of_bits le lt eq is_nan
pair_within x y p q = record { some = omega arith; few = omega arith; first = p; second = q; third = tt }

distinct_within : (x y z : Float) → Within x → Within y → Within z → RootsWithin (distinct3 x y z)
distinct_within x y z p q r = cond_both (eq x y) _ _ RootsWithin
    (λ e. cond_both (is_nan z) _ _ RootsWithin (λ f. pair_within x z p r) (λ f. single_within x p))
    (λ e. cond_both (eq y z) _ _ RootsWithin (λ f. pair_within x y p q) (λ f. record { some = omega arith; few = omega arith; first = p; second = q; third = r }))

sorted_within : (x y z : Float) → Within x → Within y → Within z
    → let first = swapped x y in let second = swapped first.1 z in let third = swapped first.0 second.0 in RootsWithin (distinct3 third.0 third.1 second.1)
sorted_within x y z p q r =
    let one = swapped_within x y p q in
    let two = swapped_within (swapped x y).1 z one.1 r in
    let three = swapped_within (swapped x y).0 (swapped (swapped x y).1 z).0 one.0 two.0 in
    distinct_within _ _ _ three.0 three.1 two.1

pub roots_within : (F : Functions) (c : Reduced) → RootsWithin (roots_of F c)
roots_within F c = cond_both (has_three_roots c) (trisected F c) (only_root F c) RootsWithin
    (λ e. sorted_within _ _ _ (saturated_within _) (saturated_within _) (saturated_within _))
    (λ e. single_within _ (saturated_within _))
