-- What each of the worked strokes is given.
use Rattle.std.specs.Prelude.{ℤ, pos, negsuc, List, [], ◌∷◌, Float}
use Rattle.std.specs.Float.{binary32}
use Rattle.std.specs.Float.Ieee.{of_int}
use Rattle.numbers.specs.Arithmetic.{zero, one}
use Rattle.path.specs.declared.command.Command.{Command}
use Rattle.path.specs.declared.command.Command.TheVariants.{MoveTo, LineTo, Close}
use Rattle.path.specs.declared.geometry.Vector.{Vector}
use Rattle.path.specs.declared.style.Cap.{Cap}
use Rattle.path.specs.declared.style.Cap.TheVariants.{Butt, Square}
use Rattle.path.specs.declared.style.Join.TheVariants.{Bevel}
use Rattle.path.specs.declared.style.Stroke.{Stroke}
use Rattle.path.specs.Styles.{plain}
use Rattle.path.specs.Vectors.{vector}
use Rattle.curves.specs.Curves.{two, half}
use Rattle.worked.specs.declared.Worked.{Worked}
use Rattle.worked.specs.declared.Worked.TheVariants.{Line, DashedLine, DashedSquare, SquareDot, ButtDot, Corner, GapFirst, DashFirst, EmptyGap, ShortGap, ShortAlone, OneAlone}

-- a whole number
abbrev pub whole : ℤ → Float
whole n = of_int binary32 n

abbrev pub point : ℤ → ℤ → Vector
point x y = vector (whole x) (whole y)

abbrev pub from : ℤ → ℤ → Command
from x y = MoveTo (point x y)

abbrev pub to : ℤ → ℤ → Command
to x y = LineTo (point x y)

-- a line along the x axis
abbrev pub line : ℤ → List Command
line x = from (pos 0) (pos 0) ∷ to x (pos 0) ∷ []

abbrev pub corner : List Command
corner = from (pos 0) (pos 0) ∷ to (pos 8) (pos 0) ∷ to (pos 8) (pos 8) ∷ []

abbrev pub square : List Command
square = from (pos 0) (pos 0) ∷ to (pos 8) (pos 0) ∷ to (pos 8) (pos 8) ∷ to (pos 0) (pos 8) ∷ Close ∷ []

abbrev pub commands_of : Worked → List Command
commands_of Line = line (pos 8)
commands_of DashedLine = line (pos 16)
commands_of DashedSquare = square
commands_of SquareDot = Close ∷ []
commands_of ButtDot = Close ∷ []
commands_of Corner = corner
commands_of GapFirst = line (pos 16)
commands_of DashFirst = line (pos 16)
commands_of EmptyGap = line (pos 16)
commands_of ShortGap = line (pos 8)
commands_of ShortAlone = line (pos 8)
commands_of OneAlone = line (pos 8)

-- width 2 and bevel joins
abbrev pub style_with : Cap → Float → Stroke
style_with cap offset = record plain { width = two; join = Bevel; start_cap = cap; end_cap = cap; offset = offset }

abbrev pub cap_of : Worked → Cap
cap_of SquareDot = Square
cap_of _ = Butt

abbrev pub offset_of : Worked → Float
offset_of GapFirst = whole (negsuc 7)
offset_of DashFirst = whole (pos 8)
offset_of _ = zero

abbrev pub style_of : Worked → Stroke
style_of w = style_with (cap_of w) (offset_of w)

abbrev pub fours : List Float
fours = whole (pos 4) ∷ whole (pos 4) ∷ []

abbrev pub dashes_of : Worked → List Float
dashes_of DashedLine = fours
dashes_of DashedSquare = whole (pos 12) ∷ whole (pos 4) ∷ []
dashes_of GapFirst = fours
dashes_of DashFirst = fours
dashes_of EmptyGap = whole (pos 3) ∷ whole (pos 0) ∷ whole (pos 4) ∷ whole (pos 2) ∷ []
dashes_of ShortGap = two ∷ half ∷ []
dashes_of ShortAlone = half ∷ []
dashes_of OneAlone = one ∷ []
dashes_of _ = []

abbrev pub all : List Worked
all = Line ∷ DashedLine ∷ DashedSquare ∷ SquareDot ∷ ButtDot ∷ Corner ∷ GapFirst ∷ DashFirst ∷ EmptyGap ∷ ShortGap ∷ ShortAlone ∷ OneAlone ∷ []
