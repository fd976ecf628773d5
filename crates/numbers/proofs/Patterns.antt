-- How an `f32` is written: by its bits, and a zero by one power.
use Rattle.std.proofs.Common.{◌≡◌, ℕ, zero, suc, ◌+◌, ◌-◌, ◌*◌, ◌/◌, ◌^◌, ◌<◌, Bool, false, cond, T, ℤ, pos, negsuc, refl, ap, suc-le-suc, zero-le, mul-pos, mul-div_cancel, ◌∙◌, arith, eqb→eq, pow-suc}
use lib.Ieee.{Float, nan, inf, fin, binary32, up, down, size, fits, of_fields, of_bits, to_bits}
use lib.Ieee.Exact.{HasValue}
use lib.Ieee.Fits.{up_pos, down_pos}

pub nan_is : of_bits binary32 0x7fc0_0000 ≡ nan
unfolding of_bits of_fields
nan_is = refl

pub zero_is : of_bits binary32 0 ≡ fin false 0 (pos 0)
unfolding of_bits
zero_is = refl

pub above_nought : (m : ℕ) (e : ℤ) → 0 < suc m * up e
above_nought m e = mul-pos (suc-le-suc zero-le) (up_pos e)

-- a zero that a format holds is written in one way
pub zero_power : (s : Bool) (e : ℤ) → T (fits binary32 (fin s zero e)) → e ≡ pos 0
unfolding fits
zero_power s (pos zero) f = refl
zero_power s (pos (suc k)) f = absurd (omega (arith, eqb→eq (up (pos (suc k)) * 1) 1 f, pow-suc 2 k))
zero_power s (negsuc k) f = absurd (omega (arith, eqb→eq (1 * down (negsuc k)) 1 f, pow-suc 2 k))

-- the bits of a times the smallest number
pub bits_of_value : (x : Float) (s : Bool) (a : ℕ) → HasValue x s a (2 ^ 149) → to_bits binary32 x ≡ cond s (2 ^ 31) 0 + (size a - 24) * 2 ^ 23 + a / 2 ^ (size a - 24)
unfolding to_bits
bits_of_value nan s a v = absurd v
bits_of_value (inf t) s a v = absurd v
bits_of_value (fin t m e) s a v =
    let n : m * up e * 2 ^ 149 / down e ≡ a = ap (λ (k : ℕ). k / down e) v.1 ∙ mul-div_cancel a (down_pos e) in
    λ i. cond (v.0 i) (2 ^ 31) 0 + (size (n i) - 24) * 2 ^ 23 + n i / 2 ^ (size (n i) - 24)
