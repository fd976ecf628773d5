-- 0.01 is a number, so a width that is not at least 0.01 gives way to it.
use Rattle.std.proofs.Common.{◌≡◌, false, refl}
use lib.Ieee.{is_nan, of_bits}
use Rattle.pen.specs.Nibs.{least_width}

pub least_is_number : is_nan least_width ≡ false
unfolding is_nan of_bits
least_is_number = refl
