use Rattle.std.proofs.Common.{◌*◌, ◌%◌, ◌<◌, ap, ◌∙◌, arith, mod-lt}
use Rattle.dashes.proofs.Remainders.{one_digit}
use Rattle.dashes.proofs.remainder.Digits.rest.Goals as goal

pub loop-preserved : goal.loop-preserved
loop-preserved c =
    let b = c.args.by.digits in
    let below : c.loop.rest * 2 % b < b = mod-lt (c.loop.rest * 2) c.args.by.within.0 in
    record {
      digits = ap (λ r. r * 2 % b) c.loop.invariant.digits ∙ one_digit c.args.self.digits b c.loop.counter;
      small = omega (arith, c.args.by.within.1);
    }
