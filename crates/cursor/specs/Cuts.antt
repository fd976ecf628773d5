-- Where a curve is cut, and the pieces.
use Rattle.std.specs.Prelude.{ℕ, suc, zero as zeroⁿ, Bool, cond, ◌&&◌, List, [], ◌∷◌, ◌++◌, filter, flat_map, All, AllPairs, T, Float}
use Rattle.std.specs.Float.{NotNan, ◌<ᶠ◌}
use Rattle.std.specs.Float.Ieee.{lt}
use Rattle.numbers.specs.Arithmetic.{zero, one}
use Rattle.maths.specs.Functions.{Functions}
use Rattle.maths.specs.Questions.{Question}
use Rattle.curves.specs.declared.curve.Curve.{Curve}
use Rattle.curves.specs.Curves.{slice_of, half, needs_split, two_legs_near, merge_epsilon}
use Rattle.curves.specs.Roots.{Roots}
use Rattle.curves.specs.Bends.{bends, bend_questions}

-- strictly between 0 and 1
abbrev pub inside : Float → Bool
inside t = lt zero t && lt t one

abbrev pub all_inside : List Float → List Float
all_inside ts = filter inside ts

abbrev pub cuts : Roots → List Float
cuts r = all_inside r.items

-- Where no root is NaN, each cut is below all later ones; all lie between 0 and 1.
abbrev pub CutsRise : Roots → Type 0
CutsRise r = All NotNan r.items → AllPairs ◌<ᶠ◌ (cuts r) × All (λ t. T (inside t)) (cuts r)

-- from the last cut to the next one, and so on to the end
abbrev pub slices : Curve → Float → List Float → List Curve
slices k last [] = slice_of k last one ∷ []
slices k last (t ∷ ts) = slice_of k last t ∷ slices k t ts

-- with no cut the curve itself
abbrev pub between : Curve → List Float → List Curve
between k [] = k ∷ []
between k (t ∷ ts) = slices k zero (t ∷ ts)

abbrev pub between_cuts : Functions → Curve → List Curve
between_cuts F k = between k (cuts (bends F k))

-- the curve, or its halves where it needs a split, halved likewise
abbrev pub halved : ℕ → Curve → List Curve
halved zeroⁿ k = k ∷ []
halved (suc n) k = cond (needs_split k) (halved n (slice_of k zero half) ++ halved n (slice_of k half one)) (k ∷ [])

abbrev pub all_halved : List Curve → List Curve
all_halved ks = flat_map (halved 2) ks

-- a curve with two short legs stays whole
abbrev pub cut_up : Functions → Curve → List Curve
cut_up F k = cond (two_legs_near k merge_epsilon) (k ∷ []) (all_halved (between_cuts F k))

abbrev pub cut_questions : Functions → Curve → List Question
cut_questions F k = cond (two_legs_near k merge_epsilon) [] (bend_questions F k)
