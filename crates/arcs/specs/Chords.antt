-- An arc worked out about its chord, without its centre: by square roots alone, and from its ends on.
use Rattle.std.specs.Prelude.{Bool, true, cond, not, List, [], ◌∷◌, Float}
use Rattle.std.specs.Float.Ieee.{neg, lt, le}
use Rattle.std.specs.Float.{float_max}
use Rattle.numbers.specs.Arithmetic.{◌⊕◌, ◌⊖◌, ◌⊗◌, ◌⊘◌, root, zero, one}
use Rattle.path.specs.declared.geometry.Vector.{Vector}
use Rattle.path.specs.declared.command.Command.{Command}
use Rattle.path.specs.declared.command.Command.TheVariants.{CurveTo}
use Rattle.path.specs.Vectors.{vector, sum, multiple, length_of}
use Rattle.curves.specs.Curves.{two, three}
use Rattle.arcs.specs.declared.arc_to.ArcTo.{ArcTo}
use Rattle.arcs.specs.declared.arc_to.ArcSize.{ArcSize}
use Rattle.arcs.specs.declared.arc_to.ArcSize.TheVariants.{Small, Large}
use Rattle.arcs.specs.declared.arc_to.ArcSweep.{ArcSweep}
use Rattle.arcs.specs.declared.arc_to.ArcSweep.TheVariants.{Negative, Positive}
use Rattle.arcs.specs.declared.centre.Turned.{Turned}
use Rattle.arcs.specs.declared.chord.HalfChord.{HalfChord}
use Rattle.arcs.specs.declared.chord.HalfTurn.{HalfTurn}
use Rattle.arcs.specs.declared.frame.Frame.{Frame}
use Rattle.arcs.specs.declared.frame.Stop.{Stop}
use Rattle.arcs.specs.Centres.{size_of, factor, radii_of, scaled_radii, to_circle, to_ellipse, turn}
use Rattle.arcs.specs.Sweeps.{four}

-- ---- the half chord

-- half of the way from the end to the start, and the middle: of the halves of both ends, so that no sum is too large
abbrev pub half_way : ArcTo → Vector
half_way a = vector (a.from.x ⊘ two ⊖ a.to.x ⊘ two) (a.from.y ⊘ two ⊖ a.to.y ⊘ two)

abbrev pub middle : ArcTo → Vector
middle a = vector (a.from.x ⊘ two ⊕ a.to.x ⊘ two) (a.from.y ⊘ two ⊕ a.to.y ⊘ two)

abbrev pub larger_part : Vector → Float
larger_part v = float_max (size_of v.x) (size_of v.y)

abbrev pub divided : Vector → Float → Vector
divided v k = vector (v.x ⊘ k) (v.y ⊘ k)

-- a vector by its length and its direction; its larger part is taken out before anything is squared
abbrev pub long : Vector → Float
long v = let m = larger_part v in m ⊗ length_of (divided v m)

abbrev pub direction : Vector → Vector
direction v = let w = divided v (larger_part v) in divided w (length_of w)

-- from the axes of the plane to those of the ellipse, as in F.6.5.1
abbrev pub turn_back : Turned → Vector → Vector
turn_back t v = vector (t.cosine ⊗ v.x ⊕ t.sine ⊗ v.y) (t.cosine ⊗ v.y ⊖ t.sine ⊗ v.x)

-- the half chord on the circle of radius 1 that the ellipse becomes; half way and radii are each brought near 1
abbrev pub half_chord_of : ArcTo → Turned → HalfChord
half_chord_of a t =
    let k = factor (larger_part (half_way a)) in
    let j = factor (float_max (size_of a.rx) (size_of a.ry)) in
    let r = scaled_radii (radii_of a) j in
    let u = to_circle r (turn_back t (multiple (half_way a) k)) in
    record { long = long u; along = direction u; radii = r; radii_by = j; way_by = k }

-- the length of u, which is the root of the lambda of F.6.6.2
abbrev pub length_of_u : HalfChord → Float
length_of_u u = u.long ⊗ u.radii_by ⊘ u.way_by

-- F.6.6.3: where it is 1 or above, the radii grow until half a turn fits
abbrev pub grows : HalfChord → Bool
grows u = not (lt (length_of_u u) one)

-- half of the turn from end to end by the shorter way: its sine is the length of u
abbrev pub half_turn : HalfChord → HalfTurn
half_turn u = let s = cond (grows u) one (length_of_u u) in record { sine = s; cosine = root ((one ⊖ s) ⊗ (one ⊕ s)) }

-- ---- places about it

-- at right angles to the chord: to the side that angles grow to, or the other
abbrev pub aside : ArcSweep → Vector → Vector
aside Positive e = vector (neg e.y) e.x
aside Negative e = vector e.y (neg e.x)

-- whether the arc is at most half a turn
abbrev pub is_short : ArcSize → HalfChord → Bool
is_short Small u = true
is_short Large u = grows u

-- at most half a turn is told in half chords, more in radii
abbrev pub frame_of : ArcTo → Turned → HalfChord → Frame
frame_of a t u = let short = is_short a.size u in record {
  turned = t;
  along = u.along;
  aside = aside a.sweep u.along;
  unit = cond short (scaled_radii u.radii u.long) u.radii;
  by = cond short u.way_by u.radii_by;
}

-- away from a point, so far along the chord and so far aside
abbrev pub moved : Frame → Vector → Vector → Vector
moved f p v = sum p (divided (turn f.turned (to_ellipse f.unit (sum (multiple f.along v.x) (multiple f.aside v.y)))) f.by)

-- a place where curves meet, and the way that the arc goes there
abbrev pub stop : Vector → Float → Float → Stop
stop p x y = record { point = p; way = vector x y }

abbrev pub curve_to : Frame → Float → Stop → Stop → Command
curve_to f b p q = CurveTo (moved f p.point (multiple p.way b)) (moved f q.point (multiple q.way (neg b))) q.point

-- ---- the curves

-- the cosine of half an angle, by its cosine
abbrev pub half_cosine : Float → Float
half_cosine c = root ((one ⊕ c) ⊘ two)

-- at most half a turn: one curve for a quarter or less, and else two, which meet at the top
abbrev pub short_curves : ArcTo → Frame → HalfTurn → List Command
short_curves a f h =
    let c = h.cosine in
    let s = h.sine in
    let start = stop a.from (neg c) s in
    let end = stop a.to (neg c) (neg s) in
    let top = stop (moved f (middle a) (vector zero (s ⊘ (one ⊕ c)))) (neg one) zero in
    let g = half_cosine c in
    let b = two ⊘ three ⊘ (g ⊗ (one ⊕ g)) in
    cond (le s c)
    (curve_to f (four ⊘ three ⊘ (one ⊕ c)) start end ∷ [])
    (curve_to f b start top ∷ curve_to f b top end ∷ [])

-- more than half a turn: four curves, which meet at the top and half way to it on both sides
abbrev pub long_curves : ArcTo → Frame → HalfTurn → List Command
long_curves a f h =
    let c = h.cosine in
    let s = h.sine in
    let x = half_cosine c in
    let y = s ⊘ (two ⊗ x) in
    let g = half_cosine y in
    let b = two ⊘ three ⊗ x ⊘ (g ⊗ (one ⊕ g)) in
    let start = stop a.from c s in
    let first = stop (moved f (middle a) (vector x (y ⊕ c))) (neg y) x in
    let top = stop (moved f (middle a) (vector zero (one ⊕ c))) (neg one) zero in
    let last = stop (moved f (middle a) (vector (neg x) (y ⊕ c))) (neg y) (neg x) in
    let end = stop a.to c (neg s) in
    curve_to f b start first ∷ curve_to f b first top ∷ curve_to f b top last ∷ curve_to f b last end ∷ []

abbrev pub chord_curves : ArcTo → Turned → List Command
chord_curves a t =
    let u = half_chord_of a t in
    cond (is_short a.size u) (short_curves a (frame_of a t u) (half_turn u)) (long_curves a (frame_of a t u) (half_turn u))
