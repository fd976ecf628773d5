-- The box around the points of commands, as far as they are numbers.
use Rattle.std.specs.Prelude.{Bool, if◌then◌else◌, not, ◌&&◌, List, [], ◌∷◌, Some, None, Option, is_nan, Float}
use Rattle.std.specs.Float.Ieee.{lt}
use Rattle.path.specs.declared.geometry.Vector.{Vector}
use Rattle.path.specs.declared.command.Command.{Command}
use Rattle.path.specs.declared.command.Command.TheVariants.{MoveTo, LineTo, CurveTo, QuadTo, Close}
use Rattle.sinks.specs.Corners.{Corners}

-- the less of two numbers, and the greater; the first where neither is, so the first of two zeros stays
abbrev pub lower : Float → Float → Float
lower x y = if lt y x then y else x

abbrev pub upper : Float → Float → Float
upper x y = if lt x y then y else x

abbrev pub low_corner : Vector → Vector → Vector
low_corner a p = record { x = lower a.x p.x; y = lower a.y p.y }

abbrev pub high_corner : Vector → Vector → Vector
high_corner b p = record { x = upper b.x p.x; y = upper b.y p.y }

abbrev pub point_box : Vector → Corners
point_box p = record { low = p; high = p }

-- around one point more
abbrev pub around : Corners → Vector → Corners
around c p = record { low = low_corner c.low p; high = high_corner c.high p }

abbrev pub first_or_around : Option Corners → Vector → Corners
first_or_around None p = point_box p
first_or_around (Some c) p = around c p

-- a point with no NaN
abbrev pub number : Vector → Bool
number p = not (is_nan p.x) && not (is_nan p.y)

-- a point with a NaN is passed over
abbrev pub spread : Option Corners → Vector → Option Corners
spread o p = if number p then Some (first_or_around o p) else o

abbrev pub spreads : Option Corners → List Vector → Option Corners
spreads o [] = o
spreads o (p ∷ ps) = spreads (spread o p) ps

abbrev pub points : Command → List Vector
points (MoveTo p) = p ∷ []
points (LineTo p) = p ∷ []
points (CurveTo a b p) = a ∷ b ∷ p ∷ []
points (QuadTo a p) = a ∷ p ∷ []
points Close = []
