-- The signs of the radii change nothing.
use Rattle.std.proofs.Common.{◌≡◌, Bool, true, false, cond, ◌&&◌, List, [], refl}
use lib.Ieee.{Float, nan, inf, fin}
use Rattle.std.specs.Float.{float_with_sign}
use Rattle.maths.specs.Functions.{Functions}
use Rattle.arcs.specs.declared.arc_to.ArcTo.{ArcTo}
use Rattle.std.specs.Float.{float_max}
use Rattle.numbers.specs.Arithmetic.{one}
use Rattle.path.specs.declared.command.Command.{Command}
use Rattle.path.specs.Vectors.{multiple, near_by}
use Rattle.arcs.specs.declared.radii.Radii.{Radii}
use Rattle.arcs.specs.declared.chord.HalfChord.{HalfChord}
use Rattle.arcs.specs.Centres.{size_of, half_chord, factor, radii, scaled_radii, to_circle, scale_of, centred_by}
use Rattle.arcs.specs.Chords.{half_way, larger_part, long, direction, turn_back, half_turn, is_short, frame_of, short_curves, long_curves}
use Rattle.arcs.specs.Curves.{no_chord, turned_of, round_curves, arc_curves}
use Rattle.arcs.specs.Ends.{all_finite, end_of, nearness, no_sliver, start_round, finite_or_straight, lone_curves, curves_of}
use Rattle.arcs.specs.Laws.{unsigned}

size_again : (x : Float) → size_of (size_of x) ≡ size_of x
unfolding float_with_sign
size_again nan = refl
size_again (inf s) = refl
size_again (fin s m e) = refl

-- the curves by the radii alone, which are without signs
by_radii : Functions → ArcTo → Radii → List Command
by_radii F a r =
    let t = turned_of F a.angle in
    let p = half_chord a t in
    let k = scale_of true p r in
    let c = centred_by a t (multiple p k) (scaled_radii r k) k in
    let w = factor (larger_part (half_way a)) in
    let j = factor (float_max r.x r.y) in
    let q = to_circle (scaled_radii r j) (turn_back t (multiple (half_way a) w)) in
    let u : HalfChord = record { long = long q; along = direction q; radii = scaled_radii r j; radii_by = j; way_by = w } in
    let row = round_curves F a t c in
    cond (no_chord p) []
    (cond (no_sliver p r && (near_by (start_round F a t c) a.from (nearness a) && (near_by (end_of a.from row) a.to (nearness a) && all_finite row))) row
    (finite_or_straight a (cond (is_short a.size u) (short_curves a (frame_of a t u) (half_turn u)) (long_curves a (frame_of a t u) (half_turn u)))))

of_stroke : Functions → ArcTo → Radii → List Command
of_stroke F a r =
    let t = turned_of F a.angle in
    let p = half_chord a t in
    cond (no_chord p) [] (round_curves F a t (centred_by a t (multiple p one) (scaled_radii r one) one))

pub same_unsigned : (F : Functions) (alone : Bool) (a : ArcTo) → curves_of F alone (unsigned a) ≡ curves_of F alone a
unfolding arc_curves lone_curves of_stroke by_radii
same_unsigned F true a = λ i. by_radii F a (radii (size_again a.rx i) (size_again a.ry i))
same_unsigned F false a = λ i. of_stroke F a (radii (size_again a.rx i) (size_again a.ry i))
