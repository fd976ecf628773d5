-- A curve has at most three roots, four pieces between them, and sixteen after the halving.
use Rattle.std.proofs.Common.{◌≤◌, List, [], ◌∷◌, length, arith}
use lib.Ieee.{Float}
use Rattle.std.proofs.lemmas.Bool.{cond_both}
use Rattle.std.proofs.lemmas.List.Sums.{length-filter, count_by-le-length}
use Rattle.numbers.specs.Arithmetic.{zero}
use Rattle.maths.specs.Functions.{Functions}
use Rattle.curves.specs.declared.curve.Curve.{Curve}
use Rattle.curves.specs.Curves.{two_legs_near, merge_epsilon}
use Rattle.curves.specs.Roots.{reduced}
use Rattle.curves.specs.Bends.{bend, bends}
use Rattle.cursor.specs.Cuts.{inside, cuts, between, between_cuts, cut_up}
use Rattle.curves.proofs.Within.{roots_within}
use Rattle.cursor.proofs.Halving.{all_halved_long}
use Rattle.cursor.proofs.Slicing.{slices_long}

between_few : (k : Curve) (ts : List Float) → length ts ≤ 3 → length (between k ts) ≤ 4
between_few k [] h = omega arith
between_few k (t ∷ ts) h = omega (arith, slices_long k zero (t ∷ ts))

pub between_cuts_few : (F : Functions) (k : Curve) → length (between_cuts F k) ≤ 4
between_cuts_few F k =
    let roots = bends F k in
    between_few k (cuts roots) (omega (arith, length-filter inside roots.items, count_by-le-length inside roots.items, (roots_within F (reduced (bend k))).few))

pub cut_up_few : (F : Functions) (k : Curve) → length (cut_up F k) ≤ 16
cut_up_few F k = cond_both (two_legs_near k merge_epsilon) _ _ (λ (ks : List Curve). length ks ≤ 16) (λ _. omega arith) (λ _. omega (arith, all_halved_long (between_cuts F k), between_cuts_few F k))
