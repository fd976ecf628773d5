-- A NaN is the one value, and its pattern gives it back.
use Rattle.std.proofs.Common.{◌≡◌, T, refl}
use lib.Ieee.{Float, nan, inf, fin, is_nan, of_bits, to_bits, binary32}

pub same_nan : (x : Float) → T (is_nan x) → of_bits binary32 (to_bits binary32 x) ≡ x
unfolding is_nan of_bits to_bits
same_nan nan h = refl
same_nan (inf s) h = absurd h
same_nan (fin s m e) h = absurd h
