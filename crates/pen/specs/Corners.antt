-- What shapes a corner: the first of these that holds.
use Rattle.std.specs.Prelude.{◌≡◌, Bool, true, false, if◌then◌else◌, not, List, [], ◌∷◌, find, Some, Float}
use Rattle.std.specs.Float.{◌<ᶠ◌, ◌≤ᶠ◌, NotNan}
use Rattle.std.specs.Float.Ieee.{lt}
use Rattle.numbers.specs.Arithmetic.{◌⊕◌, ◌⊗◌, ◌⊘◌, root, zero, one}
use Rattle.path.specs.declared.geometry.Vector.{Vector}
use Rattle.path.specs.declared.style.Join.{Join}
use Rattle.path.specs.declared.style.Join.TheVariants.{Bevel as BevelJoin, Miter as MiterJoin, Round as RoundJoin}
use Rattle.path.specs.Vectors.{sum, multiple, dot_product, normalized, near}
use Rattle.curves.specs.Curves.{half}
use Rattle.pen.specs.declared.nib.Nib.{Nib}
use Rattle.pen.specs.declared.corner.Turn.{Turn}
use Rattle.pen.specs.declared.corner.Corner.{Corner}
use Rattle.pen.specs.declared.corner.Corner.TheVariants.{Meet, Inner, Bevel, Round, NegativeDot, PastLimit, Miter}

abbrev pub clockwise : Vector → Vector → Bool
clockwise a b = lt (a.y ⊗ b.x) (a.x ⊗ b.y)

-- of the two normals
abbrev pub turn_dot : Turn → Float
turn_dot t = dot_product t.from_normal t.to_normal

-- of half the angle between the two sides
abbrev pub half_turn_sine : Turn → Float
half_turn_sine t = root ((one ⊕ turn_dot t) ⊗ half)

abbrev pub miter_corner : Nib → Turn → Corner
miter_corner nib t =
    if lt (turn_dot t) zero then NegativeDot
    else if lt (half_turn_sine t) nib.inv_miter_limit then PastLimit
    else Miter

abbrev pub by_join : Join → Corner → Corner
by_join BevelJoin _ = Bevel
by_join RoundJoin _ = Round
by_join MiterJoin mitered = mitered

abbrev pub corner_of : Nib → Turn → Corner
corner_of nib t =
    if near t.from t.to then Meet
    else if clockwise t.from_normal t.to_normal then by_join nib.join (miter_corner nib t)
    else Inner

-- how far a miter's point is from the pivot
abbrev pub miter_length : Nib → Turn → Float
miter_length nib t = nib.radius ⊘ half_turn_sine t

-- along the middle of the normals, so far that both sides keep the radius
abbrev pub miter_point : Nib → Turn → Vector
miter_point nib t = sum t.pivot (multiple (normalized (sum t.from_normal t.to_normal)) (miter_length nib t))

-- ---- what every corner is

abbrev pub is_bevel : Join → Bool
is_bevel BevelJoin = true
is_bevel RoundJoin = false
is_bevel MiterJoin = false

abbrev pub is_round : Join → Bool
is_round BevelJoin = false
is_round RoundJoin = true
is_round MiterJoin = false

-- the condition that each cause has of its own; a miter has none
abbrev pub holds : Nib → Turn → Corner → Bool
holds nib t Meet = near t.from t.to
holds nib t Inner = not (clockwise t.from_normal t.to_normal)
holds nib t Bevel = is_bevel nib.join
holds nib t Round = is_round nib.join
holds nib t NegativeDot = lt (turn_dot t) zero
holds nib t PastLimit = lt (half_turn_sine t) nib.inv_miter_limit
holds nib t Miter = true

abbrev pub causes : List Corner
causes = Meet ∷ Inner ∷ Bevel ∷ Round ∷ NegativeDot ∷ PastLimit ∷ Miter ∷ []

-- A cause is told where its condition holds and none before it does.
abbrev pub IsFirstCause : Nib → Turn → Corner → Type 0
IsFirstCause nib t c = find (holds nib t) causes ≡ Some c

-- A miter is at most as long as its limit says: half the width over the limit's inverse, as f32 divides them. A nib of no width or of no limit sets no bound, nor does NaN.
abbrev pub WithinLimit : Nib → Turn → Type 0
WithinLimit nib t = zero <ᶠ nib.radius → zero <ᶠ nib.inv_miter_limit → NotNan (miter_length nib t) → miter_length nib t ≤ᶠ (nib.radius ⊘ nib.inv_miter_limit)
