-- What the notes on SVG 1.1's elliptical arc commands say of every arc.
use Rattle.std.specs.Prelude.{◌≡◌, ℕ, ◌⊎◌, Bool, true, false, ◌&&◌, ◌||◌, not, T, List, [], length, from_bits, is_nan, Float}
use Rattle.std.specs.Float.{binary32, float_is_finite}
use Rattle.std.specs.Float.Ieee.{lt, le}
use Rattle.numbers.specs.Arithmetic.{root, zero, one}
use Rattle.arcs.specs.declared.arc_to.ArcSize.{ArcSize}
use Rattle.arcs.specs.declared.arc_to.ArcSize.TheVariants.{Small, Large}
use Rattle.arcs.specs.declared.arc_to.ArcSweep.{ArcSweep}
use Rattle.arcs.specs.declared.arc_to.ArcSweep.TheVariants.{Negative, Positive}
use Rattle.maths.specs.Functions.{Functions}
use Rattle.path.specs.declared.geometry.Vector.{Vector}
use Rattle.path.specs.declared.command.Command.{Command}
use Rattle.path.specs.Vectors.{multiple, near_by}
use Rattle.arcs.specs.declared.arc_to.ArcTo.{ArcTo}
use Rattle.arcs.specs.declared.radii.Radii.{Radii}
use Rattle.arcs.specs.Centres.{size_of, half_chord, radii_of, scaled_radii, divided_radii, scale_of, lambda}
use Rattle.arcs.specs.Sweeps.{angle_between, turn_of}
use Rattle.arcs.specs.Curves.{no_chord, turned_of, centred_of, AsNeeded}
use Rattle.arcs.specs.Ends.{point_finite, all_finite, end_of, nearness, lands_by_centre}

-- ---- ends that are one point

-- F.6.2: nothing is drawn; so the test of half the chord has it wherever the host's sine and cosine are finite
abbrev pub NothingAtAPoint : Functions → ArcTo → List Command → Type 0
NothingAtAPoint F a row = a.from ≡ a.to → T (point_finite a.from && (float_is_finite (F.sine a.angle) && float_is_finite (F.cosine a.angle))) → row ≡ []

-- ---- the end

-- to the bit, or within 1/256 of half the chord
abbrev pub EndsAt : ArcTo → Vector → Type 0
EndsAt a p = (p ≡ a.to) ⊎ T (near_by p a.to (nearness a))

-- an arc that has any curves ends at its end
abbrev pub ReachesEnd : ArcTo → List Command → Type 0
ReachesEnd a row = (row ≡ []) ⊎ EndsAt a (end_of a.from row)

-- between finite ends every point is finite, those of control points too
abbrev pub FiniteIfEnds : ArcTo → List Command → Type 0
FiniteIfEnds a row = T (point_finite a.from && point_finite a.to) → T (all_finite row)

abbrev pub OneTwoOrFour : ℕ → Type 0
OneTwoOrFour n = (n ≡ 1) ⊎ ((n ≡ 2) ⊎ (n ≡ 4))

-- none where the ends are one point; by the centre as many as the turn needs; about the chord one, two or four
abbrev pub Counted : Bool → Bool → Float → List Command → Type 0
Counted true by_centre t row = row ≡ []
Counted false true t row = AsNeeded false t row
Counted false false t row = OneTwoOrFour (length row)

abbrev pub CountedAs : Functions → Bool → ArcTo → List Command → Type 0
CountedAs F alone a row =
    Counted (no_chord (half_chord a (turned_of F a.angle))) (not alone || lands_by_centre F alone a) (turn_of F a (centred_of F alone a)) row

-- ---- the turn, as F.6.5.6 has it

-- half a turn, which is half of what a whole one is
abbrev pub half_turn : Float
half_turn = from_bits binary32 0x4049_0FDB

-- angles grow, or fall
abbrev pub goes : ArcSweep → Float → Bool
goes Positive t = le zero t
goes Negative t = le t zero

-- at most half a turn, or at least
abbrev pub is_of : ArcSize → Float → Bool
is_of Small t = le (size_of t) half_turn
is_of Large t = le half_turn (size_of t)

-- Of small arcs with growing angles, as strokes have them, the sign of the angle is asked too, as in the notes. It is below 0 only by
-- rounding, or by an answer of the host; a whole turn is added then.
abbrev pub wraps : ArcSize → ArcSweep → Float → Bool
wraps Small Positive x = lt x zero
wraps Small Negative x = false
wraps Large Positive x = false
wraps Large Negative x = false

-- The turn t has the sign of the sweep flag, and the size of the large flag. It is NaN where the host's angle is. x is the angle with its sign.
abbrev pub ByFlags : ArcSize → ArcSweep → Float → Float → Type 0
ByFlags size sweep x t = T (is_nan t || goes sweep t) × T (is_nan t || (is_of size t || wraps size sweep x))

abbrev pub TurnsByFlags : Functions → Bool → ArcTo → Type 0
TurnsByFlags F alone a = let c = centred_of F alone a in ByFlags a.size a.sweep (angle_between F c.start c.end) (turn_of F a c)

-- ---- the radii

-- without their signs
abbrev pub unsigned : ArcTo → ArcTo
unsigned a = record { from = a.from; rx = size_of a.rx; ry = size_of a.ry; angle = a.angle; size = a.size; sweep = a.sweep; to = a.to }

-- F.6.6: radii r are multiplied by the root of lambda exactly where it is above 1; all lengths are multiplied by k before and divided after
abbrev pub FitsBy : Bool → Float → Radii → Float → Radii → Type 0
FitsBy true l r k fit = fit ≡ divided_radii (scaled_radii r (root l)) k
FitsBy false l r k fit = fit ≡ divided_radii r k

abbrev pub RadiiFit : Functions → Bool → ArcTo → Type 0
RadiiFit F alone a =
    let p = half_chord a (turned_of F a.angle) in
    let k = scale_of alone p (radii_of a) in
    let r = scaled_radii (radii_of a) k in
    let l = lambda (multiple p k) r in
    FitsBy (lt one l) l r k (centred_of F alone a).radii
