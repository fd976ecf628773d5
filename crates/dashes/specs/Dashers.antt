-- The walk of a pattern along a run, one dash or gap after another.
use Rattle.std.specs.Prelude.{◌≡◌, ℕ, ◌+◌, ◌%◌, ◌<◌, Bool, true, false, cond, not, ◌&&◌, List, length, nat_lt, nat_le, Float}
use Rattle.std.specs.Float.Ieee.{lt, eq}
use Rattle.numbers.specs.Arithmetic.{◌⊕◌, ◌⊖◌, zero, one}
use Rattle.segments.specs.declared.segment.Segment.{Segment}
use Rattle.dashes.specs.declared.dasher.DashOp.{DashOp}
use Rattle.dashes.specs.declared.dasher.DashOp.TheVariants.{Done, Continue, Emit, Stroke}
use Rattle.dashes.specs.declared.dasher.reach.Reach.{Reach}
use Rattle.dashes.specs.declared.dasher.walk.Course.{Course}
use Rattle.dashes.specs.declared.dasher.walk.Course.TheVariants.{Plain, Joined, Replayed, Whole, Over}
use Rattle.dashes.specs.declared.dasher.walk.Next.{Next}
use Rattle.dashes.specs.declared.dasher.walk.Span.{Span}
use Rattle.dashes.specs.declared.dasher.walk.Walk.{Walk}
use Rattle.dashes.specs.Patterns.{Dashes, Taken, taken_at, length_at}
use Rattle.dashes.specs.Spans.{reach, reached, range_of}
use Rattle.curves.specs.Lines.{time_at}

-- ---- before the run

-- the start of a run, with the pattern's first dash taken
abbrev pub begun : Dashes → Bool → Walk
begun p closed = let d = taken_at p true 0 in
    record { closed = closed; done = false; on = true; cur = 0; t0 = zero; along = zero; index = d.next; is_first = true; first_on = true; sum = d.len }

-- whether the lengths so far end before the offset
abbrev pub seeks : Dashes → Walk → Bool
seeks p w = lt zero p.offset && lt w.sum p.offset

-- the next length is passed over; the first dash is the one after it
abbrev pub sought : Dashes → Walk → Walk
sought p w = let d = taken_at p (not w.on) w.index in
    record w { on = not w.on; index = d.next; first_on = not w.on; sum = w.sum ⊕ d.len }

-- ---- one call

-- what the offset leaves of the first dash
abbrev pub first_dash : Dashes → Walk → Float
first_dash p w = cond (lt zero p.offset) (w.sum ⊖ p.offset) w.sum

-- the dash or gap that this call walks
abbrev pub taken_by : Dashes → Walk → Taken
taken_by p w = cond w.is_first (record { len = first_dash p w; next = w.index }) (taken_at p w.on w.index)

-- from the end of a segment to the start of the next one, but not from the last
abbrev pub advanced : ℕ → Walk → Walk
advanced n w = cond (eq w.t0 one && nat_lt (w.cur + 1) n) (record w { cur = w.cur + 1; t0 = zero; along = zero }) w

-- a length of 0 stays where it is
abbrev pub reach_of : List Segment → Walk → Float → Reach
reach_of xs w len = cond (eq len zero) (record { arrived = true; at = w.cur; along = w.along; time = w.t0 }) (reach xs w.cur w.along len)

-- the first dash from the run's start
abbrev pub first_reach : Dashes → List Segment → Walk → Reach
first_reach p xs w = reach xs 0 zero (first_dash p w)

-- At the end of a closed run a dash goes on as the first one, if that is on; where a gap ends the run, the first dash is still to be walked. The first dash of a closed run waits for the last one.
abbrev pub course : Bool → Bool → Bool → Bool → Bool → Course
course true closed on first first_on = Plain
course false false true first first_on = Plain
course false false false first first_on = Over
course false true true true first_on = Whole
course false true true false true = Joined
course false true true false false = Plain
course false true false first true = Replayed
course false true false first false = Over

abbrev pub course_of : Walk → Reach → Course
course_of w r = course r.arrived w.closed w.on w.is_first w.first_on

abbrev pub span_to : ℕ → Float → Reach → Bool → Bool → Span
span_to start t0 r wraps on = record { start = start; t0 = t0; end = r.at; t1 = r.time; along = r.along; wraps = wraps; on = on }

abbrev pub span_of : Dashes → List Segment → Walk → Reach → Course → Span
span_of p xs w r Joined = span_to w.cur w.t0 (first_reach p xs w) true true
span_of p xs w r Replayed = span_to 0 zero (first_reach p xs w) false true
span_of p xs w r Plain = span_to w.cur w.t0 r false w.on
span_of p xs w r Whole = span_to w.cur w.t0 r false w.on
span_of p xs w r Over = span_to w.cur w.t0 r false w.on

-- a dash is drawn, but not the first one of a closed run
abbrev pub drawn : ℕ → Walk → Span → DashOp
drawn n w s = cond (s.on && not (w.is_first && w.closed)) (Emit (range_of n s)) Continue

abbrev pub op_of : ℕ → Walk → Span → Course → DashOp
op_of n w s Whole = Stroke
op_of n w s Over = Done
op_of n w s Plain = drawn n w s
op_of n w s Joined = drawn n w s
op_of n w s Replayed = drawn n w s

-- the walk goes on where the span ends
abbrev pub after_span : Walk → Span → Bool → ℕ → Walk
after_span w s done index = record w { done = done; on = not s.on; cur = s.end; t0 = s.t1; along = s.along; index = index; is_first = false }

abbrev pub stopped : Walk → ℕ → Walk
stopped w index = record w { done = true; index = index }

abbrev pub after_of : Walk → Span → Bool → ℕ → Course → Walk
after_of w s done index Whole = stopped w index
after_of w s done index Over = stopped w index
after_of w s done index Plain = after_span w s done index
after_of w s done index Joined = after_span w s done index
after_of w s done index Replayed = after_span w s done index

-- what a call gives that walks a length, whose reach is r, from w
abbrev pub walked : Dashes → List Segment → Walk → ℕ → Reach → Next
walked p xs w index r =
    let c = course_of w r in
    let s = span_of p xs w r c in
    record { span = s; op = op_of (length xs) w s c; after = after_of w s (not r.arrived) index c }

-- a walk that is over, or whose place is not on the run, stays; no memory holds a run of 2 ^ 63 segments
abbrev pub goes_on : ℕ → Walk → Bool
goes_on n w = not w.done && (nat_lt w.cur n && nat_le n 0x7FFF_FFFF_FFFF_FFFF)

abbrev pub stays : Walk → Next
stays w = record { span = span_to w.cur w.t0 (reached true w.cur (time_at w.along w.t0)) false w.on; op = Done; after = w }

abbrev pub one_taken : Dashes → List Segment → Walk → Taken → Next
one_taken p xs w d = let v = advanced (length xs) w in walked p xs v d.next (reach_of xs v d.len)

abbrev pub next_of : Dashes → List Segment → Walk → Next
next_of p xs w = cond (goes_on (length xs) w) (one_taken p xs w (taken_by p w)) (stays w)

-- ---- dashes and gaps in their places

-- whether the length that is taken next is a dash; the first one is taken before it is walked
abbrev pub dash_comes : Walk → Bool
dash_comes w = cond w.is_first (not w.on) w.on

-- Until a walk is over its next length is one of the pattern's; where the number of lengths is even, a dash stands at an even place and a gap at an odd one.
abbrev pub InPlace : Dashes → Walk → Type 0
InPlace p w = w.done ≡ false → (w.index < length p.lengths) × (length p.lengths % 2 ≡ 0 → w.index % 2 ≡ cond (dash_comes w) 0 1)

-- Until a walk is over it comes to no gap of 0: the dash before it was joined over that.
abbrev pub IsJoined : Dashes → Walk → Type 0
IsJoined p w = w.done ≡ false → dash_comes w ≡ false → eq (length_at p.lengths w.index) zero ≡ false
