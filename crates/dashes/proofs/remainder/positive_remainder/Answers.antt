use Rattle.std.proofs.Common.{◌^◌, ap, ◌∙◌, arith, pow_pos}
use lib.Ieee.{Float, binary32, mul}
use Rattle.dashes.proofs.Remainders.{rem_low, rem_digits}
use Rattle.dashes.proofs.remainder.positive_remainder.Goals as goal

pub returns-then-a-b : goal.returns-then-a-b
returns-then-a-b c =
    let a = c.new-a.result in
    let b = c.new-b.result in
    rem_low c.args.x c.args.y a.digits a.power b.digits b.power (2 ^ 149) (pow_pos 149) c.new-a.ensures c.new-b.ensures a.within.1 (b.leading (omega arith)) c.if-a-b.true

pub returns-else-a-b : goal.returns-else-a-b
returns-else-a-b c =
    let a = c.new-a.result in
    let b = c.new-b.result in
    ap (λ (x : Float). mul binary32 x c.two_to.result) c.nearest_u32_to_f32.ensures
    ∙ rem_digits c.args.x c.args.y c.two_to.result a.digits a.power b.digits b.power (2 ^ 149) (pow_pos 149) c.new-a.ensures c.new-b.ensures c.two_to.ensures b.within.0 b.within.1 c.if-a-b.false c.rest.result c.rest.ensures
