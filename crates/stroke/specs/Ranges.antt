-- The outline of a dash: a range of a run's segments, from a time in the first to a time in the last.
use Rattle.std.specs.Prelude.{ℕ, suc, true, ◌+◌, ◌-◌, ℤ, pos, negsuc, if◌then◌else◌, List, [], ◌∷◌, ◌++◌, length, take, drop, from_bits, Float}
use Rattle.std.specs.Float.{binary32}
use Rattle.std.specs.Float.Ieee.{le}
use Rattle.numbers.specs.Arithmetic.{◌⊕◌, ◌⊖◌, ◌⊗◌, zero, one}
use Rattle.path.specs.Vectors.{difference, multiple}
use Rattle.path.specs.declared.command.Command.TheVariants.{Close}
use Rattle.curves.specs.Curves.{two}
use Rattle.segments.specs.declared.segment.Segment.{Segment}
use Rattle.segments.specs.Pieces.{segment_slice}
use Rattle.pen.specs.declared.offset.OffsetSegment.{OffsetSegment}
use Rattle.dashes.specs.declared.dasher.Range.{Range}
use Rattle.dashes.specs.Spans.{is_dot}
use Rattle.stroke.specs.Events.{Plan, commands, ◌⨾◌, by_nib}
use Rattle.stroke.specs.Outlines.{side, capped_outline, spot, has_cap}

-- of a signed number the place in the run of n segments written twice
abbrev pub twice_place : ℕ → ℤ → ℕ
twice_place n (pos i) = n + i
twice_place n (negsuc i) = n - suc i

-- the segments from one place to another of the run written twice, so that a dash can pass the seam
abbrev pub stretch : List Segment → ℕ → ℕ → List Segment
stretch xs from to = take (to + 1 - from) (drop from (xs ++ xs))

-- the segments of a range
abbrev pub ranged : List Segment → Range → List Segment
ranged xs r = stretch xs (twice_place (length xs) r.start) (twice_place (length xs) r.end)

-- each piece: the first from a time on, the last up to a time
unfoldable pub sliced : Float → Float → List Segment → List Segment
sliced t0 t1 [] = []
sliced t0 t1 (x ∷ []) = segment_slice x t0 t1 ∷ []
sliced t0 t1 (x ∷ y ∷ ys) = segment_slice x t0 one ∷ sliced zero t1 (y ∷ ys)

-- a dash that begins at the end of its first segment has nothing of it
abbrev pub pieces : Float → Float → List Segment → List Segment
pieces t0 t1 ys = if le one t0 then sliced zero t1 (drop 1 ys) else sliced t0 t1 ys

-- 0.001
abbrev pub moment : Float
moment = from_bits binary32 0x3A83_126F

-- the short slice around which a dash of length 0 is drawn
abbrev pub dot_slice : Segment → Float → Segment
dot_slice x t = if le one t then segment_slice x (t ⊖ moment) t else segment_slice x t (t ⊕ moment)

abbrev pub dot_around : OffsetSegment → Plan
dot_around o =
    by_nib (λ nib. spot o.start (difference o.start (multiple o.start_normal (two ⊗ nib.radius))) o.start_normal)
    ⨾ commands (Close ∷ [])

-- a dash of length 0: two caps and a close, or nothing with two butt caps
abbrev pub dash_dot : Float → List Segment → Plan
dash_dot t [] = commands []
dash_dot t (x ∷ ys) = by_nib (λ nib. if has_cap nib then dot_around (side nib (dot_slice x t)) else commands [])

-- The outline of a dash.
abbrev pub dash_of : List Segment → Range → Plan
dash_of xs r =
    if is_dot r then dash_dot r.t0 (ranged xs r) else capped_outline true (pieces r.t0 r.t1 (ranged xs r))
