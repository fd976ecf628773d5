-- The steps by which a series host works out the arc cosine.
use Rattle.std.specs.Prelude.{if◌then◌else◌, from_bits, Float}
use Rattle.std.specs.Float.Ieee.{lt, neg}
use Rattle.std.specs.Float.{sqrt, nan, binary32, binary64}
use Rattle.maths.specs.Functions.{in_range}
use Rattle.maths.specs.Wide.{◌⊕◌, ◌⊖◌, ◌⊗◌, wide, cubic, quadratic, sextic}

-- the arc sine over the sine, by the sine's square
abbrev pub arc_series : Float → Float
arc_series z = sextic
    (cubic (wide 0x3ff0_0000_0011_7f17) (wide 0x3fc5_5554_848e_38eb) (wide 0x3fb3_3398_8d61_752c) (wide 0x3fa6_c91b_bfc1_64b2) z)
    (quadratic (wide 0x3fa0_554d_b2d0_b040) (wide 0x3f8c_f525_bfd5_46f9) (wide 0x3fa3_65be_bfee_9d66) z) z

-- the arc sine of at most a half
abbrev pub near_arc : Float → Float
near_arc x = x ⊗ arc_series (x ⊗ x)

-- the angle at the end of the circle's axis, by the distance 1 - |x| from it
abbrev pub end_arc : Float → Float
end_arc gap = sqrt binary64 (gap ⊕ gap) ⊗ arc_series (gap ⊗ wide 0x3fe0_0000_0000_0000)

abbrev pub wide_arc : Float → Float
wide_arc x =
    if lt (wide 0x3fe0_0000_0000_0000) x then end_arc (wide 0x3ff0_0000_0000_0000 ⊖ x)
    else if lt x (neg (wide 0x3fe0_0000_0000_0000)) then wide 0x4009_21fb_5444_2d18 ⊖ end_arc (wide 0x3ff0_0000_0000_0000 ⊕ x)
    else wide 0x3ff9_21fb_5444_2d18 ⊖ near_arc x

-- y within its range, or the end of the range that it passes
abbrev pub kept : Float → Float
kept y =
    if in_range y then y
    else if lt y (from_bits binary32 0) then from_bits binary32 0
    else if lt (from_bits binary32 0x4049_0fdb) y then from_bits binary32 0x4049_0fdb
    else nan
