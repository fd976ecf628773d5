use Rattle.std.proofs.Common.{false, sym, ◌∙◌, arith}
use Rattle.dashes.proofs.Reaching.{goes_over, arrives_on, ends, found_none}
use Rattle.dashes.proofs.dasher.reach.find_reach.Goals as goal
use Rattle.dashes.proofs.dasher.reach.find_reach.Goals.{in-Some+else-last, in_default}

pub returns-then-last : goal.returns-then-last
returns-then-last g c =
    arrives_on c.loop-i.last (g.B.Storage.acts.held c.args.storage.now) c.loop-i.i c.loop-i.goal c.in-Some.segment c.time-to.result c.get.ensures c.in-Some.is c.time-to.ensures c.if-last.true c.loop-i.invariant

pub loop-i-preserved : goal.loop-i-preserved
loop-i-preserved g c =
    elim c.match-get.branch [
      | in-Some+else-last w ↦
          let held = g.B.Storage.acts.held c.args.storage.now in
          simp (w.last-is, w.goal-is) (sym (goes_over c.loop-i.last held c.loop-i.i c.loop-i.goal w.in-Some.segment w.time-to.result false c.get.ensures w.in-Some.is w.time-to.ensures w.if-last.false) ∙ c.loop-i.invariant)
      | in_default w ↦ absurd (omega (arith, found_none (g.B.Storage.acts.held c.args.storage.now) c.loop-i.i c.get.ensures w.in_default.is, c.len-i-end.ensures, c.loop-i-test.true))
    ]

pub returns : goal.returns
returns g c = sym (ends c.loop-i.last c.loop-i.i c.loop-i.goal (g.B.Storage.acts.held c.args.storage.now) (omega (arith, c.len-i-end.ensures))) ∙ c.loop-i.invariant
