-- A command with every point moved by a vector, and a sink that hands such commands on.
use Rattle.std.specs.Float.{binary32}
use Rattle.std.specs.Float.Ieee as Ieee
use Rattle.path.specs.declared.geometry.Vector.{Vector}
use Rattle.path.specs.declared.command.Command.{Command}
use Rattle.path.specs.declared.command.Command.TheVariants.{MoveTo, LineTo, CurveTo, QuadTo, Close}
use Rattle.sinks.specs.Meaning.{Meaning}

abbrev pub moved_point : Vector → Vector → Vector
moved_point by p = record { x = Ieee.add binary32 p.x by.x; y = Ieee.add binary32 p.y by.y }

abbrev pub moved : Vector → Command → Command
moved by (MoveTo p) = MoveTo (moved_point by p)
moved by (LineTo p) = LineTo (moved_point by p)
moved by (CurveTo a b p) = CurveTo (moved_point by a) (moved_point by b) (moved_point by p)
moved by (QuadTo a p) = QuadTo (moved_point by a) (moved_point by p)
moved by Close = Close

-- list, units and price are those below, the map is the one below after the move
abbrev pub shifted : Vector → Meaning → Meaning
shifted by m = record { list = m.list; units = m.units; price = m.price; map = λ c. m.map (moved by c) }
