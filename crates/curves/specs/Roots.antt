-- The real roots of a cubic, each kept within 0 and 1.
use Rattle.std.specs.Prelude.{Bool, false, cond, List, [], ◌∷◌, get_or, from_bits, is_nan, slice_index_or, Float}
use Rattle.std.specs.Float.Ieee.{neg, lt, eq, ne}
use Rattle.std.specs.Float.{float_with_sign, nan, binary32}
use Rattle.numbers.specs.Arithmetic.{◌⊕◌, ◌⊖◌, ◌⊗◌, ◌⊘◌, root, zero, one}
use Rattle.numbers.specs.Steps.{kept_within}
use Rattle.maths.specs.Functions.{Functions}
use Rattle.maths.specs.Questions.{Question}
use Rattle.maths.specs.declared.host.Function.TheVariants.{Cosine, ArcCosine, Power}
use Rattle.curves.specs.Curves.{two, three}
use Rattle.lists.specs.Fixed.{Places}
use Rattle.curves.specs.declared.roots.Reduced.{Reduced}

-- one to three roots, in order, and the places after them
abbrev pub Roots : Type 0
Roots = Places Float

abbrev pub saturated : Float → Float
saturated x = kept_within x zero one

abbrev pub nine : Float
nine = from_bits binary32 0x4110_0000

-- of the polynomial with these coefficients, highest first
abbrev pub reduced : List Float → Reduced
reduced w =
    let i = one ⊘ get_or w 0 nan in
    let a = get_or w 1 nan ⊗ i in
    let b = get_or w 2 nan ⊗ i in
    let c = get_or w 3 nan ⊗ i in
    record {
      a = a;
      q = (a ⊗ a ⊖ b ⊗ three) ⊘ nine;
      r = (two ⊗ a ⊗ a ⊗ a ⊖ nine ⊗ a ⊗ b ⊕ from_bits binary32 0x41D8_0000 ⊗ c) ⊘ from_bits binary32 0x4258_0000;
    }

abbrev pub cube : Float → Float
cube q = q ⊗ q ⊗ q

-- below 0 there are three roots
abbrev pub discriminant : Reduced → Float
discriminant c = c.r ⊗ c.r ⊖ cube c.q

-- the root at a third of an angle
abbrev pub turned : Functions → Reduced → Float → Float
turned F c angle = saturated (neg two ⊗ root c.q ⊗ F.cosine (angle ⊘ three) ⊖ c.a ⊘ three)

abbrev pub swapped : Float → Float → Float × Float
swapped x y = cond (lt y x) (y, x) (x, y)

-- by swaps of places 1 and 0, 2 and 1, 1 and 0, where the later is less
abbrev pub sorted : List Float → List Float
sorted ts =
    let first = swapped (slice_index_or ts 0 nan) (slice_index_or ts 1 nan) in
    let second = swapped first.1 (slice_index_or ts 2 nan) in
    let third = swapped first.0 second.0 in
    third.0 ∷ third.1 ∷ second.1 ∷ []

abbrev pub single : Float → Roots
single x = record { items = x ∷ []; spare = zero ∷ zero ∷ [] }

abbrev pub pair : Float → Float → Roots
pair x y = record { items = x ∷ y ∷ []; spare = zero ∷ [] }

-- where the first two are equal the third goes with the second
abbrev pub distinct3 : Float → Float → Float → Roots
distinct3 x y z = cond (eq x y) (cond (is_nan z) (pair x z) (single x)) (cond (eq y z) (pair x y) (record { items = x ∷ y ∷ z ∷ []; spare = [] }))

abbrev pub distinct : List Float → Roots
distinct ts = distinct3 (slice_index_or ts 0 nan) (slice_index_or ts 1 nan) (slice_index_or ts 2 nan)

abbrev pub cosine_asked : Reduced → Float
cosine_asked c = saturated (c.r ⊘ root (cube c.q))

abbrev pub turn : Float
turn = from_bits binary32 0x40C9_0FDB

abbrev pub trisected : Functions → Reduced → Roots
trisected F c = let θ = F.arc_cosine (cosine_asked c) in distinct (sorted (turned F c θ ∷ turned F c (θ ⊕ turn) ∷ turned F c (θ ⊖ turn) ∷ []))

abbrev pub three_questions : Functions → Reduced → List Question
three_questions F c = let θ = F.arc_cosine (cosine_asked c) in
    (ArcCosine, cosine_asked c) ∷ (Cosine, θ ⊘ three) ∷ (Cosine, (θ ⊕ turn) ⊘ three) ∷ (Cosine, (θ ⊖ turn) ⊘ three) ∷ []

abbrev pub power_asked : Reduced → Float
power_asked c = float_with_sign false c.r ⊕ root (discriminant c)

abbrev pub signed : Reduced → Float → Float
signed c x = cond (lt zero c.r) (neg x) x

abbrev pub corrected : Reduced → Float → Float
corrected c x = cond (ne x zero) (x ⊕ c.q ⊘ x) x

abbrev pub from_power : Reduced → Float → Float
from_power c size = saturated (corrected c (signed c size) ⊖ c.a ⊘ three)

abbrev pub only_root : Functions → Reduced → Roots
only_root F c = single (from_power c (F.power (power_asked c)))

abbrev pub one_question : Reduced → List Question
one_question c = (Power, power_asked c) ∷ []

abbrev pub has_three_roots : Reduced → Bool
has_three_roots c = lt (discriminant c) zero

abbrev pub roots_of : Functions → Reduced → Roots
roots_of F c = cond (has_three_roots c) (trisected F c) (only_root F c)

abbrev pub questions_of : Functions → Reduced → List Question
questions_of F c = cond (has_three_roots c) (three_questions F c) (one_question c)

abbrev pub roots : Functions → List Float → Roots
roots F w = roots_of F (reduced w)

abbrev pub questions : Functions → List Float → List Question
questions F w = questions_of F (reduced w)
