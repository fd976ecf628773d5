-- The nib that a style has.
use Rattle.std.specs.Prelude.{if◌then◌else◌, from_bits, Float}
use Rattle.std.specs.Float.Ieee.{le}
use Rattle.std.specs.Float.{float_max, binary32}
use Rattle.numbers.specs.Arithmetic.{◌⊗◌, ◌⊘◌, one}
use Rattle.path.specs.declared.style.Stroke.{Stroke}
use Rattle.curves.specs.Curves.{half}
use Rattle.pen.specs.declared.nib.Nib.{Nib}

-- 0.01, and half of it
abbrev pub least_width : Float
least_width = from_bits binary32 0x3C23_D70A

abbrev pub least_radius : Float
least_radius = from_bits binary32 0x3BA3_D70A

-- the width, or 0.01 where it is less or NaN
abbrev pub width_drawn : Float → Float
width_drawn w = float_max w least_width

abbrev pub radius_of : Float → Float
radius_of w = width_drawn w ⊗ half

-- 1 over a limit of at least 1, else 1
abbrev pub inverse_limit : Float → Float
inverse_limit l = if le one l then one ⊘ l else one

abbrev pub nib_of : Stroke → Nib
nib_of s = record {
  radius = radius_of s.width;
  join = s.join;
  inv_miter_limit = inverse_limit s.miter_limit;
  start_cap = s.start_cap;
  end_cap = s.end_cap;
}
