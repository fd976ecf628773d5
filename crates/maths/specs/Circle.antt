-- The steps by which a series host works out sine, cosine and tangent. Angles count in half turns.
use Rattle.std.specs.Prelude.{ℕ, Bool, if◌then◌else◌, from_bits, Float}
use Rattle.std.specs.Float.Ieee.{mul, rem, neg, lt}
use Rattle.std.specs.Float.{binary32, binary64}
use Rattle.maths.specs.Wide.{◌⊕◌, ◌⊖◌, ◌⊗◌, ◌⊘◌, wide, cubic, quadratic, sextic}

-- the nearest even number
abbrev pub whole_turns : Float → Float
whole_turns t = t ⊕ wide 0x4348_0000_0000_0000 ⊖ wide 0x4348_0000_0000_0000

abbrev pub half_turns : Float → Float → Float
half_turns x back = x ⊗ wide 0x3fd4_5f30_6dc9_c883 ⊖ back

abbrev pub near_turned : Float → Float → Float
near_turned x back = half_turns x back ⊖ whole_turns (half_turns x back)

-- x by a part of 1/π, without whole turns
abbrev pub piece : Float → ℕ → Float
piece x part = rem binary64 (x ⊗ wide part) (wide 0x4010_0000_0000_0000)

-- with the pieces of x after the first added
abbrev pub with_pieces : Float → Float → Float
with_pieces x first = first
    ⊕ piece x 0x3e4b_9391_0000_0000 ⊕ piece x 0x3ca5_29fc_0000_0000 ⊕ piece x 0x3b33_abe8_8000_0000 ⊕ piece x 0x39de_a69b_a000_0000
    ⊕ piece x 0x3858_1b6c_4000_0000 ⊕ piece x 0x36d2_b327_8000_0000 ⊕ piece x 0x3540_e410_4000_0000

abbrev pub first_piece : Float → Float → Float
first_piece x back = piece x 0x3fd4_5f30_6000_0000 ⊖ back

abbrev pub far_turned : Float → Float → Float
far_turned x back = with_pieces x (first_piece x back ⊖ whole_turns (with_pieces x (first_piece x back)))

-- within 128, both ways
abbrev pub near : Float → Bool
near x = lt (mul binary32 x x) (from_bits binary32 0x4680_0000)

-- x radians less so many half turns, from the nearest whole turn
abbrev pub turned : Float → Float → Float
turned x back = if near x then near_turned x back else far_turned x back

-- the sine over r (1 - r²), by z = r²
abbrev pub sine_series : Float → Float
sine_series z = sextic
    (cubic (wide 0x4009_21fb_5440_21c2) (neg (wide 0x4000_357e_769b_b232)) (wide 0x3fe0_c4f7_685c_0c99) (neg (wide 0x3fb3_4199_3fb5_e36f)) z)
    (quadratic (wide 0x3f7c_5b09_d088_2c12) (neg (wide 0x3f3c_f022_0a24_f5fb)) (wide 0x3ef3_711c_cb5c_d2d6) z) z

-- the sine of at most one half turn, both ways: its zeros are factors
abbrev pub sine_of : Float → Float
sine_of r = r ⊗ (wide 0x3ff0_0000_0000_0000 ⊖ r ⊗ r) ⊗ sine_series (r ⊗ r)

abbrev pub wide_sine : Float → Float
wide_sine x = sine_of (turned x (wide 0))

-- a quarter turn on
abbrev pub wide_cosine : Float → Float
wide_cosine x = sine_of (turned x (neg (wide 0x3fe0_0000_0000_0000)))

abbrev pub wide_tangent : Float → Float
wide_tangent x = wide_sine x ⊘ wide_cosine x
