-- One step of f32 arithmetic, rounded once. Definitions are written with these.
use Rattle.std.specs.Prelude.{from_bits, Float}
use Rattle.std.specs.Float.{binary32}
use Rattle.std.specs.Float.Ieee as Ieee
use Rattle.std.specs.Float as Floats

infixl 6 ◌⊕◌ ◌⊖◌
infixl 7 ◌⊗◌ ◌⊘◌
abbrev pub ◌⊕◌ : Float → Float → Float
◌⊕◌ x y = Ieee.add binary32 x y

abbrev pub ◌⊖◌ : Float → Float → Float
◌⊖◌ x y = Ieee.sub binary32 x y

abbrev pub ◌⊗◌ : Float → Float → Float
◌⊗◌ x y = Ieee.mul binary32 x y

abbrev pub ◌⊘◌ : Float → Float → Float
◌⊘◌ x y = Ieee.div binary32 x y

abbrev pub root : Float → Float
root x = Floats.sqrt binary32 x

abbrev pub zero : Float
zero = from_bits binary32 0

abbrev pub one : Float
one = from_bits binary32 0x3F80_0000
