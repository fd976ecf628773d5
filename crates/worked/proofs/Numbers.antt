-- The numbers of the code by their bits.
use Rattle.std.proofs.Common.{◌≡◌, pos, negsuc, refl}
use lib.Ieee.{binary32, neg, odd, of_bits, of_fields, of_int, round, size, span, climb, units}
use Rattle.worked.specs.Inputs.{whole}

pub nought : of_bits binary32 0 ≡ whole (pos 0)
unfolding odd of_bits of_fields of_int round size span climb units
nought = refl

pub two : of_bits binary32 0x4000_0000 ≡ whole (pos 2)
unfolding odd of_bits of_fields of_int round size span climb units
two = refl

pub three : of_bits binary32 0x4040_0000 ≡ whole (pos 3)
unfolding odd of_bits of_fields of_int round size span climb units
three = refl

pub four : of_bits binary32 0x4080_0000 ≡ whole (pos 4)
unfolding odd of_bits of_fields of_int round size span climb units
four = refl

pub eight : of_bits binary32 0x4100_0000 ≡ whole (pos 8)
unfolding odd of_bits of_fields of_int round size span climb units
eight = refl

pub minus_eight : neg (of_bits binary32 0x4100_0000) ≡ whole (negsuc 7)
unfolding neg odd of_bits of_fields of_int round size span climb units
minus_eight = refl

pub twelve : of_bits binary32 0x4140_0000 ≡ whole (pos 12)
unfolding odd of_bits of_fields of_int round size span climb units
twelve = refl

pub sixteen : of_bits binary32 0x4180_0000 ≡ whole (pos 16)
unfolding odd of_bits of_fields of_int round size span climb units
sixteen = refl
