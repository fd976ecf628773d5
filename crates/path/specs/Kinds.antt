-- The kind of a command: what it does, without its points.
use Rattle.path.specs.declared.command.Command.{Command}
use Rattle.path.specs.declared.command.Command.TheVariants.{MoveTo, LineTo, CurveTo, QuadTo, Close}

pub data Kind : Type 0 where
  move line curve quad close : Kind

abbrev pub kind : Command → Kind
kind (MoveTo p) = move
kind (LineTo p) = line
kind (CurveTo a b p) = curve
kind (QuadTo a p) = quad
kind Close = close
