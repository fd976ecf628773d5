-- Where dashes lie on a run.
use Rattle.std.specs.Prelude.{ℕ, ◌+◌, pos, ◌-ℤ◌, Bool, true, false, cond, not, ◌&&◌, List, [], ◌∷◌, drop, Float}
use Rattle.std.specs.Float.Ieee.{le, eq}
use Rattle.std.specs.Ordering.{int_eq}
use Rattle.numbers.specs.Arithmetic.{◌⊕◌, ◌⊖◌, zero, one}
use Rattle.curves.specs.declared.line.SegmentTime.{SegmentTime}
use Rattle.curves.specs.Lines.{time_at}
use Rattle.segments.specs.declared.segment.Segment.{Segment}
use Rattle.segments.specs.Pieces.{segment_time}
use Rattle.dashes.specs.declared.dasher.Range.{Range}
use Rattle.dashes.specs.declared.dasher.reach.Reach.{Reach}
use Rattle.dashes.specs.declared.dasher.walk.Span.{Span}

-- ---- how far a dash comes

abbrev pub reached : Bool → ℕ → SegmentTime → Reach
reached arrived i t = record { arrived = arrived; at = i; along = t.distance; time = t.time }

-- from a place of the run on, whose segments from there are given, until the goal is passed
unfoldable pub further : Bool → Reach → ℕ → Float → List Segment → Reach
further true r i goal xs = r
further false r i goal [] = r
further false r i goal (x ∷ xs) =
    let t = segment_time x goal one in
    let left = goal ⊖ t.distance in
    further (le left zero) (reached (le left zero) i t) (i + 1) left xs

-- a dash of a length, from a segment on, at a distance along it
abbrev pub reach : List Segment → ℕ → Float → Float → Reach
reach xs start along len = further false (reached false start (time_at zero zero)) start (len ⊕ along) (drop start xs)

-- ---- ranges

-- a range of a run of n segments; one that wraps begins before the run's first segment
abbrev pub range_of : ℕ → Span → Range
range_of n s = record { start = cond s.wraps (pos s.start -ℤ pos n) (pos s.start); end = pos s.end; t0 = s.t0; t1 = s.t1 }

-- a point of a segment
abbrev pub is_dot : Range → Bool
is_dot r = int_eq r.start r.end && eq r.t0 r.t1

-- from the end of a segment to another time on it; a NaN is another time
abbrev pub departs : Range → Bool
departs r = int_eq r.start r.end && (le one r.t0 && not (eq r.t1 r.t0))
