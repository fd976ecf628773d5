-- Segments: lines, curves and ends.
use Rattle.std.specs.Prelude.{cond, Some, None, Option, from_bits, Float}
use Rattle.std.specs.Float.{binary32}
use Rattle.numbers.specs.Arithmetic.{◌⊕◌, ◌⊖◌, zero}
use Rattle.path.specs.declared.geometry.Vector.{Vector}
use Rattle.path.specs.Vectors.{vector, near_by, normal_of}
use Rattle.curves.specs.declared.line.Line.{Line as StraightLine}
use Rattle.curves.specs.declared.line.SegmentTime.{SegmentTime}
use Rattle.curves.specs.declared.curve.Curve.{Curve as CubicCurve}
use Rattle.curves.specs.Lines.{line, along, line_length, line_slice, line_reverse, line_time, time_at}
use Rattle.curves.specs.Curves.{curve_length, slice_of, reversed, evaluated, two_legs_near, merge_epsilon, curve_time}
use Rattle.segments.specs.declared.mark.SegmentId.{SegmentId}
use Rattle.segments.specs.declared.segment.Segment.{Segment}
use Rattle.segments.specs.declared.segment.Segment.TheVariants.{Line, Curve, End}

abbrev pub segment_length : Segment → Float
segment_length (Line i l) = line_length l
segment_length (Curve i k) = curve_length k
segment_length (End b) = zero

abbrev pub segment_slice : Segment → Float → Float → Segment
segment_slice (Line i l) s e = Line i (line_slice l s e)
segment_slice (Curve i k) s e = Curve i (slice_of k s e)
segment_slice (End b) s e = End b

abbrev pub segment_reverse : Segment → Segment
segment_reverse (Line i l) = Line i (line_reverse l)
segment_reverse (Curve i k) = Curve i (reversed k)
segment_reverse (End b) = End b

abbrev pub segment_time : Segment → Float → Float → SegmentTime
segment_time (Line i l) distance e = line_time l distance
segment_time (Curve i k) distance e = curve_time k distance e
segment_time (End b) distance e = time_at zero zero

abbrev pub line_point_normal : StraightLine → Float → Vector × Vector
line_point_normal l t = (along l t, normal_of l.a l.b)

-- 0.05
abbrev pub beside : Float
beside = from_bits binary32 0x3D4C_CCCD

-- the normal of a chord around the time
abbrev pub curve_point_normal : CubicCurve → Float → Vector × Vector
curve_point_normal k t = (evaluated k t, normal_of (evaluated k (t ⊖ beside)) (evaluated k (t ⊕ beside)))

abbrev pub point_normal : Segment → Float → Vector × Vector
point_normal (Line i l) t = line_point_normal l t
point_normal (Curve i k) t = curve_point_normal k t
point_normal (End b) t = (vector zero zero, vector zero zero)

-- A piece of a curve: with two short legs it is the line from its first point to its last, and with these two near besides it is nothing.
abbrev pub to_segment : SegmentId → CubicCurve → Option Segment
to_segment i k = cond (two_legs_near k merge_epsilon)
    (cond (near_by k.a k.d merge_epsilon) None (Some (Line i (line k.a k.d))))
    (Some (Curve i k))
