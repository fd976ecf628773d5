-- Lines.
use Rattle.std.specs.Prelude.{if◌then◌else◌, Float}
use Rattle.std.specs.Float.{◌≤ᶠ◌}
use Rattle.std.specs.Float.Ieee.{lt}
use Rattle.numbers.specs.Arithmetic.{◌⊘◌, zero, one}
use Rattle.path.specs.declared.geometry.Vector.{Vector}
use Rattle.path.specs.Vectors.{sum, difference, multiple, length_of}
use Rattle.curves.specs.declared.line.Line.{Line}
use Rattle.curves.specs.declared.line.SegmentTime.{SegmentTime}

abbrev pub line : Vector → Vector → Line
line a b = record { a = a; b = b }

abbrev pub line_length : Line → Float
line_length l = length_of (difference l.b l.a)

-- the point at a time
abbrev pub along : Line → Float → Vector
along l t = sum l.a (multiple (difference l.b l.a) t)

abbrev pub line_slice : Line → Float → Float → Line
line_slice l start end = line (along l start) (along l end)

abbrev pub time_at : Float → Float → SegmentTime
time_at distance time = record { distance = distance; time = time }

-- a distance past the end counts as the end
abbrev pub line_time : Line → Float → SegmentTime
line_time l distance =
    if lt (line_length l) distance then time_at (line_length l) one
    else time_at distance (distance ⊘ line_length l)

-- a time of a line's points
abbrev pub FromZeroToOne : Float → Type 0
FromZeroToOne t = (zero ≤ᶠ t) × (t ≤ᶠ one)

abbrev pub line_reverse : Line → Line
line_reverse l = line l.b l.a
