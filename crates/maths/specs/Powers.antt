-- The steps by which a series host works out the power 0.3333333.
use Rattle.std.specs.Prelude.{◌+◌, ◌/◌, if◌then◌else◌, ◌&&◌, pos, to_bits, from_bits, Float}
use Rattle.std.specs.Float.Ieee.{neg, lt, of_int}
use Rattle.std.specs.Float.{binary32, binary64}
use Rattle.maths.specs.Wide.{◌⊖◌, ◌⊗◌, ◌⊘◌, wide, cubic, quadratic, sextic}

-- about the cube root: a third of the bits has a third of the exponent
abbrev pub near_root : Float → Float
near_root x = wide (to_bits binary64 x / 3 + 0x2a9f_7123_0000_0000)

-- the power -1/3 of a number within a tenth of 1
abbrev pub root_series : Float → Float
root_series z = sextic
    (cubic (wide 0x4000_e47d_6288_d0e1) (neg (wide 0x4009_7273_d402_9f95)) (wide 0x4012_3d8b_554b_5a5a) (neg (wide 0x4011_1246_d12f_88f5)) z)
    (quadratic (wide 0x4003_bcc0_38ff_c1fa) (neg (wide 0x3fe9_b0d2_d299_9d6b)) (wide 0x3fbc_dc3c_9d12_e5f7) z) z

-- the cube root by a number y near it
abbrev pub root : Float → Float → Float
root x y = y ⊗ root_series (y ⊗ y ⊗ (y ⊘ x))

-- the power by which 0.3333333 lies below a third, by a rough logarithm
abbrev pub lean : Float → Float
lean x = wide 0x3ff0_000e_c5a6_ed1a ⊖ of_int binary64 (pos (to_bits binary64 x / 0x1_0000_0000)) ⊗ wide 0x3d0d_9303_fea2_f7ea

abbrev pub positive_power : Float → Float
positive_power x = root x (near_root x) ⊗ lean x

-- a NaN and a number below 0 give NaN, an infinity gives infinity
abbrev pub improper_power : Float → Float
improper_power x =
    if lt (wide 0xfff0_0000_0000_0000) x && lt x (wide 0) then wide 0x7ff8_0000_0000_0000
    else x ⊗ x

abbrev pub wide_power : Float → Float
wide_power x =
    if lt (from_bits binary32 0) x && lt x (from_bits binary32 0x7f80_0000) then positive_power x
    else improper_power x
