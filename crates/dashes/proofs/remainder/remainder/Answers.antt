use Rattle.std.proofs.Common.{ap, ◌∙◌}
use Rattle.dashes.specs.Patterns.{rest}
use Rattle.dashes.proofs.Remainders.{rem_infinite, rem_none, rem_size, rem_whole, positive_of}
use Rattle.dashes.proofs.remainder.remainder.Goals as goal

pub positive_remainder-requires-clause-first : goal.positive_remainder-requires-clause-first
positive_remainder-requires-clause-first c = positive_of c.args.x c.requires c.if-not-x.false

pub returns-then-not-x : goal.returns-then-not-x
returns-then-not-x c = rem_infinite c.args.x c.args.y c.if-not-x.true

pub returns-then-not-size : goal.returns-then-not-size
returns-then-not-size c = rem_none c.args.x c.args.y c.abs-size.result c.abs-size.ensures.value c.if-not-size.true

pub returns-then-size : goal.returns-then-size
returns-then-size c = c.positive_remainder.ensures ∙ ap (rest c.args.x) c.abs-size.ensures.value ∙ rem_size c.args.x c.args.y

pub returns-else-size : goal.returns-else-size
returns-else-size c = rem_whole c.args.x c.args.y c.abs-size.result c.abs-size.ensures.value c.requires c.if-not-x.false c.if-not-size.false c.if-size.false
