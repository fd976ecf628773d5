-- The remainder of two numbers.
use Rattle.std.specs.Prelude.{ℕ, ◌*◌, ◌^◌, Bool, false, ◌&&◌, from_bits, Float}
use Rattle.std.specs.Float.{binary32}
use Rattle.std.specs.Float.Ieee.{lt}
use Rattle.std.specs.Float.Ieee.Exact.{HasValue}
use Rattle.numbers.specs.Arithmetic.{zero}

-- above 0 and below the infinity
abbrev pub positive : Float → Bool
positive x = lt zero x && lt x (from_bits binary32 0x7F80_0000)

-- x is d * 2 ^ p / 2 ^ 149
abbrev pub HasDigits : Float → ℕ → ℕ → Type 0
HasDigits x d p = HasValue x false (d * 2 ^ p) (2 ^ 149)
