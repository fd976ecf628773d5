-- The times at which a curve bends most or least.
use Rattle.std.specs.Prelude.{List, [], ◌∷◌, slice_index_or, Float}
use Rattle.std.specs.Float.{nan}
use Rattle.numbers.specs.Arithmetic.{◌⊕◌, ◌⊖◌, ◌⊗◌}
use Rattle.maths.specs.Functions.{Functions}
use Rattle.maths.specs.Questions.{Question}
use Rattle.curves.specs.declared.curve.Curve.{Curve}
use Rattle.curves.specs.Curves.{two, three}
use Rattle.curves.specs.Roots.{Roots, roots, questions}

-- of one coordinate: the first derivative times the second, highest power first
abbrev pub coefficients : Float → Float → Float → Float → List Float
coefficients p q r s =
    let a = q ⊖ p in
    let b = r ⊖ two ⊗ q ⊕ p in
    let c = s ⊕ three ⊗ (q ⊖ r) ⊖ p in
    (c ⊗ c) ∷ (three ⊗ b ⊗ c) ∷ (two ⊗ b ⊗ b ⊕ c ⊗ a) ∷ (a ⊗ b) ∷ []

abbrev pub summed : List Float → List Float → List Float
summed v w = (slice_index_or v 0 nan ⊕ slice_index_or w 0 nan) ∷ (slice_index_or v 1 nan ⊕ slice_index_or w 1 nan) ∷ (slice_index_or v 2 nan ⊕ slice_index_or w 2 nan) ∷ (slice_index_or v 3 nan ⊕ slice_index_or w 3 nan) ∷ []

abbrev pub bend : Curve → List Float
bend k = summed (coefficients k.a.x k.b.x k.c.x k.d.x) (coefficients k.a.y k.b.y k.c.y k.d.y)

abbrev pub bends : Functions → Curve → Roots
bends F k = roots F (bend k)

abbrev pub bend_questions : Functions → Curve → List Question
bend_questions F k = questions F (bend k)
