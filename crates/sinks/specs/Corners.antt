-- A box by its corners.
use Rattle.std.specs.Prelude.{T}
use Rattle.std.specs.Float.Ieee.{le}
use Rattle.path.specs.declared.geometry.Vector.{Vector}

pub record Corners : Type 0 where
  pub low : Vector
  pub high : Vector

-- low not above high; with a NaN no comparison holds
abbrev pub InOrder : Corners → Type 0
InOrder c = T (le c.low.x c.high.x) × T (le c.low.y c.high.y)
