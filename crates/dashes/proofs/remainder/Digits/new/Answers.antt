use Rattle.dashes.proofs.Digits.{positive_bits, of_pattern}
use Rattle.dashes.proofs.remainder.Digits.new.Goals as goal

pub of_bits-requires : goal.of_bits-requires
of_bits-requires c = positive_bits c.args.x _ c.well_formed.0.1 c.requires c.f32_to_bits_with_nan.ensures

pub returns : goal.returns
returns c = of_pattern c.args.x c.f32_to_bits_with_nan.result c.of_bits.result.digits c.of_bits.result.power c.well_formed.0.1 c.f32_to_bits_with_nan.ensures c.of_bits.ensures
