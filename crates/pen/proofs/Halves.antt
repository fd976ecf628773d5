-- Half of what is at least 0.01 is at least half of 0.01.
use Rattle.std.proofs.Common.{true, false, T}
use lib.Ieee.{Float, nan, inf, fin, binary32, of_bits, mul, le}
use lib.Ieee.Positive.{positive, above_of_le, mul_mono}
use Rattle.numbers.specs.Arithmetic.{◌⊗◌}
use Rattle.curves.specs.Curves.{half}
use Rattle.pen.specs.Nibs.{least_width, least_radius}

finite_half : (m : Float) → T (positive m) → T (le least_width m) → T (le least_radius (m ⊗ half))
unfolding of_bits le mul
finite_half m p h = mul_mono binary32 least_width m half half tt p tt tt h tt

pub half_least : (m : Float) → T (le least_width m) → T (le least_radius (m ⊗ half))
unfolding le mul of_bits
half_least nan h = absurd h
half_least (inf true) h = absurd h
half_least (inf false) h = tt
half_least (fin true m e) h = absurd (above_of_le least_width (fin true m e) tt h)
half_least (fin false m e) h = finite_half (fin false m e) (above_of_le least_width (fin false m e) tt h) h
