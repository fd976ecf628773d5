-- The outline of a run, by its parts.
use Rattle.std.specs.Prelude.{ℕ, ◌-◌, Bool, true, false, not, ◌&&◌, if◌then◌else◌, List, [], ◌∷◌, map, reverse, take, drop, length, Some, None, Option, ◌==◌}
use Rattle.std.specs.Float.Ieee.{neg, eq}
use Rattle.numbers.specs.Arithmetic.{zero, one}
use Rattle.path.specs.declared.geometry.Vector.{Vector}
use Rattle.path.specs.Vectors.{vector, sum, difference, multiple}
use Rattle.path.specs.declared.command.Command.{Command}
use Rattle.path.specs.declared.command.Command.TheVariants.{MoveTo, LineTo, CurveTo, Close}
use Rattle.path.specs.declared.style.Cap.{Cap}
use Rattle.path.specs.declared.style.Cap.TheVariants.{Butt, Square, Round}
use Rattle.segments.specs.declared.segment.Segment.{Segment}
use Rattle.segments.specs.declared.segment.Segment.TheVariants.{Line, Curve, End}
use Rattle.segments.specs.Pieces.{segment_length, segment_reverse}
use Rattle.pen.specs.declared.nib.Nib.{Nib}
use Rattle.pen.specs.declared.offset.OffsetSegment.{OffsetSegment}
use Rattle.pen.specs.Offsets.{offset_of}
use Rattle.pen.specs.declared.corner.Turn.{Turn}
use Rattle.pen.specs.Joins.{join_commands, join_questions, shaped, shaped_questions, split_corner}
use Rattle.pen.specs.Caps.{cap_commands, cap_questions}
use Rattle.stroke.specs.Events.{Plan, commands, asked_then_sent, ◌⨾◌, by_nib}

-- ---- joins, caps and sides

-- from the end of one side to the start of the next
abbrev pub turn_between : OffsetSegment → OffsetSegment → Turn
turn_between o p = record {
  from = o.end;
  to = p.start;
  pivot = o.end_pivot;
  from_normal = o.end_normal;
  to_normal = p.start_normal;
}

abbrev pub join_events : Turn → Plan
join_events t = asked_then_sent (λ F nib. join_questions F nib t) (λ F nib. join_commands F nib t)

abbrev pub split_events : Turn → Plan
split_events t =
    asked_then_sent (λ F nib. shaped_questions F (split_corner t) nib t) (λ F nib. shaped F (split_corner t) nib t)

abbrev pub cap_events : Cap → Turn → Plan
cap_events shape t =
    asked_then_sent (λ F nib. cap_questions F shape nib.radius t) (λ F nib. cap_commands F shape nib.radius t)

abbrev pub end_cap_events : Turn → Plan
end_cap_events t = by_nib (λ nib. cap_events nib.end_cap t)

abbrev pub start_cap_events : Turn → Plan
start_cap_events t = by_nib (λ nib. cap_events nib.start_cap t)

-- a line to its end, or a curve with its last three points
abbrev pub emitted : Segment → List Command
emitted (Line i l) = LineTo l.b ∷ []
emitted (Curve i k) = CurveTo k.b k.c k.d ∷ []
emitted (End closed) = []

-- Two sides have one mark where they are pieces of one command, and where so many commands lie between them that marks come again.
abbrev pub same_mark : OffsetSegment → OffsetSegment → Bool
same_mark o p = p.id.mark == o.id.mark

-- The join between two sides: where they may split, sides of one mark get the split join.
abbrev pub between : Bool → OffsetSegment → OffsetSegment → Plan
between split o p =
    if split && same_mark o p then split_events (turn_between o p) else join_events (turn_between o p)

-- the join and the side after it
unfoldable pub one_onward : Bool → OffsetSegment → OffsetSegment → Plan
one_onward split o p = between split o p ⨾ commands (emitted p.segment)

-- one side after another, each joined to the one before it
unfoldable pub onward : Bool → OffsetSegment → List OffsetSegment → Plan
onward split o [] = commands []
onward split o (p ∷ ps) = one_onward split o p ⨾ onward split p ps

-- ---- rings

-- the sides of a run from its first segment on, and its other sides from the last one back
abbrev pub side : Nib → Segment → OffsetSegment
side nib x = offset_of x nib.radius

abbrev pub other_side : Nib → Segment → OffsetSegment
other_side nib x = offset_of (segment_reverse x) nib.radius

abbrev pub sides : Nib → List Segment → List OffsetSegment
sides nib xs = map (side nib) xs

abbrev pub other_sides : Nib → List Segment → List OffsetSegment
other_sides nib xs = map (other_side nib) (reverse xs)

-- the last of them, or the one before where there are none
abbrev pub last_side : OffsetSegment → List OffsetSegment → OffsetSegment
last_side o [] = o
last_side o (p ∷ ps) = last_side p ps

-- to the start of a ring with caps, and its first side
abbrev pub begin_events : OffsetSegment → Plan
begin_events o = commands (MoveTo o.start ∷ []) ⨾ commands (emitted o.segment)

-- across its end, from the last side to the first other side
abbrev pub cross_events : OffsetSegment → OffsetSegment → Plan
cross_events o p = end_cap_events (turn_between o p) ⨾ commands (emitted p.segment)

-- across its start, from the last other side to the first side, and the close
abbrev pub finish_events : OffsetSegment → OffsetSegment → Plan
finish_events o p = start_cap_events (turn_between o p) ⨾ commands (Close ∷ [])

-- in a closed ring over to the end of the last other side, where the way back begins and ends, and the first other side
abbrev pub turn_events : OffsetSegment → OffsetSegment → Plan
turn_events o p = commands (LineTo o.end ∷ []) ⨾ one_onward false o p

-- With caps, and the sides o ∷ os there and p ∷ ps back: there, across the end, back, and across the start. Where it splits, sides of one mark get the split join on the way there too.
abbrev pub capped_ring : Bool → OffsetSegment → List OffsetSegment → OffsetSegment → List OffsetSegment → Plan
capped_ring split o os p ps =
    begin_events o ⨾ onward split o os ⨾ cross_events (last_side o os) p ⨾ onward true p ps ⨾ finish_events (last_side p ps) o

-- Closed: from the end of the last side all the way round, then over to the end of the last other side and all the way back.
abbrev pub closed_ring : OffsetSegment → List OffsetSegment → OffsetSegment → List OffsetSegment → Plan
closed_ring o os p ps =
    let end = last_side o os in
    commands (MoveTo end.end ∷ []) ⨾ onward false end (o ∷ os) ⨾ turn_events (last_side p ps) p ⨾ onward true p ps ⨾ commands (Close ∷ [])

-- nothing where there are no sides
abbrev pub around : (OffsetSegment → List OffsetSegment → OffsetSegment → List OffsetSegment → Plan) → List OffsetSegment → List OffsetSegment → Plan
around ring [] ps = commands []
around ring (o ∷ os) [] = commands []
around ring (o ∷ os) (p ∷ ps) = ring o os p ps

abbrev pub capped_outline : Bool → List Segment → Plan
capped_outline split xs = by_nib (λ nib. around (capped_ring split) (sides nib xs) (other_sides nib xs))

abbrev pub closed_outline : List Segment → Plan
closed_outline xs = by_nib (λ nib. around closed_ring (sides nib xs) (other_sides nib xs))

-- ---- dots

-- two caps around a point, which has the normal n: from p across to q, and from q across to p
abbrev pub across : Vector → Vector → Vector → Turn
across p q n = record { from = p; to = q; pivot = p; from_normal = n; to_normal = n }

abbrev pub spot : Vector → Vector → Vector → Plan
spot p q n =
    commands (MoveTo p ∷ []) ⨾ end_cap_events (across p q n) ⨾ start_cap_events (across q p (multiple n (neg one)))

abbrev pub is_butt : Cap → Bool
is_butt Butt = true
is_butt Square = false
is_butt Round = false

-- one of the caps at least is not butt
abbrev pub has_cap : Nib → Bool
has_cap nib = not (is_butt nib.start_cap && is_butt nib.end_cap)

-- A lone dot: a run of one segment of length 0, with a cap that is not butt. It has no close.
abbrev pub is_lone_dot : Nib → List Segment → Bool
is_lone_dot nib [] = false
is_lone_dot nib (x ∷ []) = eq (segment_length x) zero && has_cap nib
is_lone_dot nib (x ∷ y ∷ ys) = false

-- where a segment begins
abbrev pub first_point : Segment → Vector
first_point (Line i l) = l.a
first_point (Curve i k) = k.a
first_point (End closed) = vector zero zero

-- around a point, on a vertical line
abbrev pub dot_on : Vector → Nib → Plan
dot_on x nib =
    let up = vector zero one in
    spot (sum x (multiple up nib.radius)) (difference x (multiple up nib.radius)) up

-- around the first point
abbrev pub lone_dot : List Segment → Plan
lone_dot [] = commands []
lone_dot (x ∷ xs) = by_nib (dot_on (first_point x))

-- ---- the outline of a run: nothing where it has no segments

abbrev pub ring_outline : Bool → List Segment → Plan
ring_outline closed xs = if closed then closed_outline xs else capped_outline false xs

abbrev pub outline : Bool → List Segment → Plan
outline closed xs = by_nib (λ nib. if is_lone_dot nib xs then lone_dot xs else ring_outline closed xs)

-- ---- the ring's walks, by a row of segments

-- the sides after the first, and the other sides after the first of them
abbrev pub sides_on : Nib → List Segment → List OffsetSegment
sides_on nib xs = sides nib (drop 1 xs)

abbrev pub other_sides_on : Nib → List Segment → List OffsetSegment
other_sides_on nib xs = other_sides nib (take (length xs - 1) xs)

-- from a side on, the sides from a place of the row on
abbrev pub there : Bool → OffsetSegment → ℕ → List Segment → Plan
there split o start xs = by_nib (λ nib. onward split o (sides nib (drop start xs)))

-- and the other sides
abbrev pub back : OffsetSegment → List Segment → Plan
back o xs = by_nib (λ nib. onward true o (other_sides_on nib xs))

-- the last segment of a row that begins with x
abbrev pub last_of : Segment → List Segment → Segment
last_of x [] = x
last_of x (y ∷ ys) = last_of y ys

abbrev pub first_and_last : List Segment → Option (Segment × Segment)
first_and_last [] = None
first_and_last (x ∷ xs) = Some (x, last_of x xs)
