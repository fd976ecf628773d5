use Rattle.std.proofs.Common.{sym, ◌∙◌}
use Rattle.dashes.proofs.Enough.{joins_all}
use Rattle.dashes.proofs.Rooms.{facts}
use Rattle.dashes.proofs.pattern.Pattern.new.Goals as goal

pub invariant_of-result : goal.invariant_of-result
invariant_of-result c =
    let all = facts c.args.dashes.now (sym c.is_accepted.ensures ∙ c.if-not-is_accepted.false) in
    record { number = all.number; none_negative = all.none_negative; room = all.room; told = c.has_empty_gap.ensures }

pub returns-clause-joins : goal.returns-clause-joins
returns-clause-joins c = joins_all c.args.dashes.now (facts c.args.dashes.now (sym c.is_accepted.ensures ∙ c.if-not-is_accepted.false)).room
