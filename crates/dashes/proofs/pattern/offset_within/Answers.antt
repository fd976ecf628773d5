use Rattle.std.proofs.Common.{ap, ◌∙◌}
use Rattle.std.specs.Float.Ieee.{le}
use Rattle.numbers.specs.Arithmetic.{zero}
use Rattle.dashes.proofs.Remainders.{size_above, not_le}
use Rattle.dashes.proofs.pattern.offset_within.Goals as goal

pub remainder-requires : goal.remainder-requires
remainder-requires c = ap (λ x. le x zero) c.abs.ensures.value ∙ size_above c.args.offset c.if-offset-2.true

pub remainder-requires-else-offset-2 : goal.remainder-requires-else-offset-2
remainder-requires-else-offset-2 c = not_le c.args.offset zero c.if-offset-2.false c.if-offset.false
