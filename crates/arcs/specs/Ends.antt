-- The ends of an arc: whether its curves reach them, and what an arc by itself is made of.
use Rattle.std.specs.Prelude.{◌-◌, Bool, true, false, cond, not, ◌&&◌, ◌||◌, List, [], ◌∷◌, length, slice_get, from_bits, Option, Some, None, Float}
use Rattle.std.specs.Float.{binary32, float_is_finite}
use Rattle.std.specs.Float.Ieee.{le}
use Rattle.std.specs.List.{list_all}
use Rattle.numbers.specs.Arithmetic.{◌⊗◌}
use Rattle.maths.specs.Functions.{Functions}
use Rattle.path.specs.declared.geometry.Vector.{Vector}
use Rattle.path.specs.declared.command.Command.{Command}
use Rattle.path.specs.declared.command.Command.TheVariants.{MoveTo, LineTo, CurveTo, QuadTo, Close}
use Rattle.path.specs.Vectors.{near_by}
use Rattle.arcs.specs.declared.arc_to.ArcTo.{ArcTo}
use Rattle.arcs.specs.declared.centre.Turned.{Turned}
use Rattle.arcs.specs.declared.centre.Centred.{Centred}
use Rattle.arcs.specs.declared.radii.Radii.{Radii}
use Rattle.arcs.specs.Centres.{radii_of, largest, half_chord}
use Rattle.arcs.specs.Sweeps.{sweep_of}
use Rattle.arcs.specs.Curves.{placed, round_at, no_chord, turned_of, ellipse, centred_of, round_curves, arc_curves}
use Rattle.arcs.specs.Chords.{half_way, larger_part, chord_curves}

abbrev pub point_finite : Vector → Bool
point_finite p = float_is_finite p.x && float_is_finite p.y

abbrev pub command_finite : Command → Bool
command_finite (MoveTo p) = point_finite p
command_finite (LineTo p) = point_finite p
command_finite (CurveTo b c p) = point_finite b && (point_finite c && point_finite p)
command_finite (QuadTo b p) = point_finite b && point_finite p
command_finite Close = true

abbrev pub all_finite : List Command → Bool
all_finite row = list_all command_finite row

abbrev pub end_of_curve : Vector → Option Command → Vector
end_of_curve p None = p
end_of_curve p (Some (MoveTo q)) = p
end_of_curve p (Some (LineTo q)) = p
end_of_curve p (Some (CurveTo b c q)) = q
end_of_curve p (Some (QuadTo b q)) = p
end_of_curve p (Some Close) = p

-- where curves from a point end
abbrev pub end_of : Vector → List Command → Vector
end_of from row = end_of_curve from (slice_get row (length row - 1))

-- 1/256 of the larger part of half the chord
abbrev pub nearness : ArcTo → Float
nearness a = larger_part (half_way a) ⊗ from_bits binary32 0x3B80_0000

-- no radius is below 2^-40 of the largest of both and of the parts of half the chord
abbrev pub no_sliver : Vector → Radii → Bool
no_sliver p r = let least = largest p r ⊗ from_bits binary32 0x2B80_0000 in le least r.x && le least r.y

-- curves that begin and end near the ends of the arc, and are finite
abbrev pub lands : ArcTo → Vector → Vector → List Command → Bool
lands a p start row = no_sliver p (radii_of a) && (near_by start a.from (nearness a) && (near_by (end_of a.from row) a.to (nearness a) && all_finite row))

-- where the curves about a centre begin
abbrev pub start_round : Functions → ArcTo → Turned → Centred → Vector
start_round F a t c = let s = sweep_of F a c in placed (ellipse c t s) (round_at F s.start)

-- the curves about the chord; one that is straight where they are not finite
abbrev pub finite_or_straight : ArcTo → List Command → List Command
finite_or_straight a row = cond (all_finite row) row (CurveTo a.from a.to a.to ∷ [])

-- the curves by the centre where they land, or the arc is a stroke's; else those about the chord
abbrev pub landing : ArcTo → Turned → Vector → Bool → Vector → List Command → List Command
landing a t p alone start row = cond (not alone || lands a p start row) row (finite_or_straight a (chord_curves a t))

-- the curves by the centre, and whether they land
abbrev pub curves_by_centre : Functions → Bool → ArcTo → List Command
curves_by_centre F alone a = round_curves F a (turned_of F a.angle) (centred_of F alone a)

abbrev pub lands_by_centre : Functions → Bool → ArcTo → Bool
lands_by_centre F alone a =
    let t = turned_of F a.angle in
    lands a (half_chord a t) (start_round F a t (centred_of F alone a)) (curves_by_centre F alone a)

-- an arc by itself; between ends that are one point it has no curves
unfoldable pub lone_curves : Functions → ArcTo → List Command
lone_curves F a =
    let t = turned_of F a.angle in
    cond (no_chord (half_chord a t)) []
    (cond (lands_by_centre F true a) (curves_by_centre F true a) (finite_or_straight a (chord_curves a t)))

-- the arcs of strokes are the Rust's, wherever they end
abbrev pub curves_of : Functions → Bool → ArcTo → List Command
curves_of F false a = arc_curves F false a
curves_of F true a = lone_curves F a
