-- The bits of NaN.
use Rattle.std.proofs.Common.{◌≡◌, refl, ap, ◌∙◌}
use lib.Ieee.{Float, nan, binary32, to_bits}

canonical : to_bits binary32 nan ≡ 0x7FC0_0000
unfolding to_bits
canonical = refl

pub nan_bits : (x : Float) → x ≡ nan → to_bits binary32 x ≡ 0x7FC0_0000
nan_bits x e = ap (to_bits binary32) e ∙ canonical
