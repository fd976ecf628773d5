-- How far apart two f32 are.
use Rattle.std.specs.Prelude.{ℕ, ◌+◌, ◌-◌, Bool, false, cond, ◌||◌, ◌==◌, from_bits, nat_le, to_bits, Float}
use Rattle.std.specs.Float.Ieee.{sub, mul, le, to_unsigned}
use Rattle.std.specs.Float.{float_with_sign, ceil, binary32, binary64}

-- the place of a number among all f32 in their order: 0 and -0 have one place, and NaN has one past infinity
abbrev pub place : Float → ℕ
place x = cond (nat_le 0x8000_0000 (to_bits binary32 x)) (0x1_0000_0000 - to_bits binary32 x) (0x8000_0000 + to_bits binary32 x)

-- how many units in the last place lie between two numbers
abbrev pub steps : Float → Float → ℕ
steps x y = (place x - place y) + (place y - place x)

-- of one number, 0 and -0 apart
abbrev pub same : Float → Float → Bool
same x y = to_bits binary32 x == to_bits binary32 y

abbrev pub gap : Float → Float → Float
gap x y = float_with_sign false (sub binary64 x y)

-- the difference in units of 2 ^ -40, rounded up; none with a NaN
abbrev pub apart : Float → Float → ℕ
apart x y = to_unsigned 64 (ceil binary64 (mul binary64 (gap x y) (from_bits binary64 0x4270_0000_0000_0000)))

-- no further apart than the limit; a NaN is close to NaN alone
abbrev pub close : Float → Float → Float → Bool
close x y limit = same x y || le (gap x y) limit
