-- The centre of an arc, from its ends.
use Rattle.std.specs.Prelude.{ℕ, ◌-◌, ◌*◌, ◌/◌, ◌%◌, Bool, true, false, cond, ◌==◌, from_bits, to_bits, Float}
use Rattle.std.specs.Float.Ieee.{neg, lt}
use Rattle.std.specs.Float.{float_with_sign, float_max, binary32}
use Rattle.numbers.specs.Arithmetic.{◌⊕◌, ◌⊖◌, ◌⊗◌, ◌⊘◌, root, zero, one}
use Rattle.path.specs.declared.geometry.Vector.{Vector}
use Rattle.path.specs.Vectors.{vector, sum, difference, multiple}
use Rattle.curves.specs.Curves.{two}
use Rattle.arcs.specs.declared.arc_to.ArcTo.{ArcTo}
use Rattle.arcs.specs.declared.arc_to.ArcSize.{ArcSize}
use Rattle.arcs.specs.declared.arc_to.ArcSize.TheVariants.{Small, Large}
use Rattle.arcs.specs.declared.arc_to.ArcSweep.{ArcSweep}
use Rattle.arcs.specs.declared.arc_to.ArcSweep.TheVariants.{Negative, Positive}
use Rattle.arcs.specs.declared.radii.Radii.{Radii}
use Rattle.arcs.specs.declared.centre.Turned.{Turned}
use Rattle.arcs.specs.declared.centre.Centred.{Centred}

-- F.6.5.1: half of the way from the end to the start, along the axes
abbrev pub half_chord : ArcTo → Turned → Vector
half_chord a t =
    let dx = a.from.x ⊖ a.to.x in
    let dy = a.from.y ⊖ a.to.y in
    vector (t.cosine ⊗ dx ⊘ two ⊕ t.sine ⊗ dy ⊘ two) (neg t.sine ⊗ dx ⊘ two ⊕ t.cosine ⊗ dy ⊘ two)

abbrev pub size_of : Float → Float
size_of x = float_with_sign false x

abbrev pub exponent : Float → ℕ
exponent x = to_bits binary32 x / 8388608 % 256

-- the power of two that brings a length to 1 or above it and below 2; to below 4 at the largest
abbrev pub factor : Float → Float
factor x = cond (exponent x == 255) one (cond (exponent x == 254) (from_bits binary32 8388608) (from_bits binary32 ((254 - exponent x) * 8388608)))

abbrev pub radii : Float → Float → Radii
radii x y = record { x = x; y = y }

-- those of an arc, without their signs
abbrev pub radii_of : ArcTo → Radii
radii_of a = radii (size_of a.rx) (size_of a.ry)

abbrev pub scaled_radii : Radii → Float → Radii
scaled_radii r k = radii (r.x ⊗ k) (r.y ⊗ k)

abbrev pub divided_radii : Radii → Float → Radii
divided_radii r k = radii (r.x ⊘ k) (r.y ⊘ k)

-- from a place on the ellipse, along its axes, to one on the circle of radius 1, and back
abbrev pub to_circle : Radii → Vector → Vector
to_circle r v = vector (v.x ⊘ r.x) (v.y ⊘ r.y)

abbrev pub to_ellipse : Radii → Vector → Vector
to_ellipse r v = vector (v.x ⊗ r.x) (v.y ⊗ r.y)

abbrev pub largest : Vector → Radii → Float
largest p r = float_max (float_max (size_of p.x) (size_of p.y)) (float_max r.x r.y)

-- a stroke's own arcs are not scaled
abbrev pub scale_of : Bool → Vector → Radii → Float
scale_of scaled p r = cond scaled (factor (largest p r)) one

-- F.6.6.2: above 1 the radii are too small
abbrev pub lambda : Vector → Radii → Float
lambda p r = p.x ⊗ p.x ⊘ (r.x ⊗ r.x) ⊕ p.y ⊗ p.y ⊘ (r.y ⊗ r.y)

-- F.6.6.3
abbrev pub grown : Radii → Float → Radii
grown r l = cond (lt one l) (scaled_radii r (root l)) r

-- F.6.5.2 takes the negative root where the two flags are the same
abbrev pub same_flags : ArcSize → ArcSweep → Bool
same_flags Large Positive = true
same_flags Large Negative = false
same_flags Small Positive = false
same_flags Small Negative = true

abbrev pub not_below_zero : Float → Float
not_below_zero x = cond (lt x zero) zero x

-- the root of F.6.5.2
abbrev pub distance_root : Vector → Radii → Float
distance_root p r =
    let rx2 = r.x ⊗ r.x in
    let ry2 = r.y ⊗ r.y in
    let x2 = p.x ⊗ p.x in
    let y2 = p.y ⊗ p.y in
    root (not_below_zero (rx2 ⊗ ry2 ⊖ rx2 ⊗ y2 ⊖ ry2 ⊗ x2) ⊘ (rx2 ⊗ y2 ⊕ ry2 ⊗ x2))

abbrev pub signed_root : ArcTo → Vector → Radii → Float
signed_root a p r = distance_root p r ⊗ cond (same_flags a.size a.sweep) (neg one) one

-- F.6.5.2
abbrev pub centre_along : ArcTo → Vector → Radii → Vector
centre_along a p r = let d = signed_root a p r in vector (d ⊗ r.x ⊘ r.y ⊗ p.y) (d ⊗ neg r.y ⊘ r.x ⊗ p.x)

-- from the axes of the ellipse to those of the plane
abbrev pub turn : Turned → Vector → Vector
turn t v = vector (t.cosine ⊗ v.x ⊖ t.sine ⊗ v.y) (t.sine ⊗ v.x ⊕ t.cosine ⊗ v.y)

-- F.6.5.3
abbrev pub placed_centre : ArcTo → Turned → Vector → Vector
placed_centre a t c = sum (turn t c) (vector ((a.from.x ⊕ a.to.x) ⊘ two) ((a.from.y ⊕ a.to.y) ⊘ two))

-- from half a chord and radii that are multiplied by k
abbrev pub centred_by : ArcTo → Turned → Vector → Radii → Float → Centred
centred_by a t p r k =
    let fit = grown r (lambda p r) in
    let c = centre_along a p fit in
    record {
      centre = placed_centre a t (vector (c.x ⊘ k) (c.y ⊘ k));
      radii = divided_radii fit k;
      start = to_circle fit (difference p c);
      end = to_circle fit (difference (vector (neg p.x) (neg p.y)) c);
    }

abbrev pub centred : ArcTo → Turned → Vector → Bool → Centred
centred a t p scaled =
    let k = scale_of scaled p (radii_of a) in
    centred_by a t (multiple p k) (scaled_radii (radii_of a) k) k
