use Rattle.std.proofs.Common.{sym, ◌∙◌, inl, inr, arith}
use Rattle.curves.proofs.Times.{timed_flat, timed_first, timed_second}
use Rattle.curves.proofs.curve.Curve.+time_impl.Goals as goal
use Rattle.curves.proofs.curve.Curve.+time_impl.Goals.{then-levels-eq0-via-then-levels-eq0, then-levels-eq0-via-else-levels-eq0+then-not-too_curvy}

pub returns-then-levels-eq0 : goal.returns-then-levels-eq0
returns-then-levels-eq0 t c = c.chord_time.ensures ∙ timed_flat c.args.levels _ _ _ _ (elim c.then-levels-eq0.branch [
  | then-levels-eq0-via-then-levels-eq0 w ↦ inl w.if-levels-eq0.true
  | then-levels-eq0-via-else-levels-eq0+then-not-too_curvy w ↦ inr (sym w.too_curvy.ensures ∙ w.if-not-too_curvy.true)
])

pub returns-then-dist0-distance : goal.returns-then-dist0-distance
returns-then-dist0-distance t c =
    timed_second c.args.levels c.args.self _ _ _ (omega arith) (sym c.too_curvy.ensures ∙ c.if-not-too_curvy.false)
    c.split.ensures c.time_impl-dist0.ensures c.if-dist0-distance.true c.time_impl-dist1.ensures

pub returns-else-dist0-distance : goal.returns-else-dist0-distance
returns-else-dist0-distance t c =
    timed_first c.args.levels c.args.self _ _ _ (omega arith) (sym c.too_curvy.ensures ∙ c.if-not-too_curvy.false)
    c.split.ensures c.time_impl-dist0.ensures c.if-dist0-distance.false
