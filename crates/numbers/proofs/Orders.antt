-- Numbers in order: of two that are no NaN one is at most the other.
use Rattle.std.proofs.Common.{◌≡◌, true, false, not, T}
use lib.Ieee.{Float, lt, le, is_nan}
use lib.Ieee.Bits.{is_true}
use Rattle.std.proofs.lemmas.Float.{le_of_not-lt, T_from_false}

pub at_most : (x y : Float) → T (not (is_nan x)) → T (not (is_nan y)) → lt x y ≡ false → le y x ≡ true
at_most x y p q h = is_true _ (le_of_not-lt x y p q (T_from_false _ h))
