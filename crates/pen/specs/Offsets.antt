-- A segment moved sideways by the radius.
use Rattle.std.specs.Prelude.{◌≡◌, Bool, if◌then◌else◌, from_bits, Float}
use Rattle.std.specs.Float.{binary32}
use Rattle.numbers.specs.Arithmetic.{◌⊕◌, ◌⊗◌, ◌⊘◌, root, zero, one}
use Rattle.path.specs.declared.geometry.Vector.{Vector}
use Rattle.path.specs.Vectors.{vector, sum, multiple, dot_product, normalized, near_by, normal_of}
use Rattle.curves.specs.declared.line.Line.{Line as StraightLine}
use Rattle.curves.specs.declared.curve.Curve.{Curve as CubicCurve}
use Rattle.curves.specs.Lines.{line}
use Rattle.curves.specs.Curves.{curve, half}
use Rattle.segments.specs.declared.mark.SegmentId.{SegmentId}
use Rattle.segments.specs.declared.segment.Segment.{Segment}
use Rattle.segments.specs.declared.segment.Segment.TheVariants.{Line, Curve, End}
use Rattle.segments.specs.Marks.{marked}
use Rattle.pen.specs.declared.offset.OffsetSegment.{OffsetSegment}

-- within 0.5 in both coordinates: too short to have a direction
abbrev pub short : Vector → Vector → Bool
short p q = near_by p q (from_bits binary32 0x3F00_0000)

abbrev pub offset : Segment → SegmentId → Vector → Vector → Vector → Vector → Vector → OffsetSegment
offset s i start end n m pivot = record { segment = s; id = i; start = start; end = end; start_normal = n; end_normal = m; end_pivot = pivot }

abbrev pub offset_line : SegmentId → StraightLine → Float → OffsetSegment
offset_line i l r =
    let n = normal_of l.a l.b in
    let start = sum l.a (multiple n r) in
    let end = sum l.b (multiple n r) in
    offset (Line i (line start end)) i start end n n l.b

-- of the first of two legs that is not short, else of the whole chord
abbrev pub leg_normal : StraightLine → StraightLine → StraightLine → Vector
leg_normal leg next whole =
    if short leg.a leg.b then (if short next.a next.b then normal_of whole.a whole.b else normal_of next.a next.b)
    else normal_of leg.a leg.b

-- of the first leg, else of a to c, else of a to d
abbrev pub first_normal : CubicCurve → Vector
first_normal k = leg_normal (line k.a k.b) (line k.a k.c) (line k.a k.d)

-- of the middle leg, else of b to d, else of a to d
abbrev pub middle_normal : CubicCurve → Vector
middle_normal k = leg_normal (line k.b k.c) (line k.b k.d) (line k.a k.d)

-- of the last leg, else of b to d, else of a to d
abbrev pub last_normal : CubicCurve → Vector
last_normal k = leg_normal (line k.c k.d) (line k.b k.d) (line k.a k.d)

-- between two legs: along the middle of their normals, so far that both sides keep the radius
abbrev pub bent : Vector → Vector → Float → Vector
bent n m r = multiple (normalized (sum n m)) (r ⊘ root ((one ⊕ dot_product n m) ⊗ half))

abbrev pub offset_curve : SegmentId → CubicCurve → Float → OffsetSegment
offset_curve i k r =
    let first = first_normal k in
    let middle = middle_normal k in
    let last = last_normal k in
    let start = sum k.a (multiple first r) in
    let end = sum k.d (multiple last r) in
    offset (Curve i (curve start (sum k.b (bent first middle r)) (sum k.c (bent last middle r)) end)) i start end first last k.d

-- an end has no sides
abbrev pub offset_end : Segment → OffsetSegment
offset_end s = let o = vector zero zero in offset s (marked 0) o o o o o

abbrev pub offset_of : Segment → Float → OffsetSegment
offset_of (Line i l) r = offset_line i l r
offset_of (Curve i k) r = offset_curve i k r
offset_of (End closed) r = offset_end (End closed)

-- A moved line or curve goes from a point to another.
abbrev pub GoesBetween : Vector → Vector → Segment → Type 0
GoesBetween start end (Line i l) = (l.a ≡ start) × (l.b ≡ end)
GoesBetween start end (Curve i k) = (k.a ≡ start) × (k.d ≡ end)
GoesBetween start end (End closed) = Unit {0}
