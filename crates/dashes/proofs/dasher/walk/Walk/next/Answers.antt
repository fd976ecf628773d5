use Rattle.std.proofs.Common.{sym, ◌∙◌}
use Rattle.dashes.proofs.Reaching.{reach_of_lies, stands_after}
use Rattle.dashes.proofs.dasher.walk.Walk.next.Goals as goal

pub walk-requires-clause-end : goal.walk-requires-clause-end
walk-requires-clause-end g c =
    let held = g.B.Storage.acts.held c.args.storage.now in
    let stands = stands_after held c.args.self c.advance-walk.result c.len-count.result c.len-count.ensures (sym c.goes_on.ensures ∙ c.if-not-goes_on.false) c.advance-walk.ensures in
    rw c.reach.ensures (reach_of_lies held c.advance-walk.result c.take-len.result.len stands).within
