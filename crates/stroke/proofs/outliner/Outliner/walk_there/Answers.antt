use Rattle.std.proofs.Common.{◌+◌, Ok, drop, refl, sym, ap, ◌∙◌, arith}
use Rattle.pen.specs.declared.nib.Nib.{Nib}
use Rattle.stroke.specs.Events.{Standing}
use Rattle.stroke.specs.Outlines.{one_onward, onward, side, sides, last_side}
use Rattle.stroke.specs.Outliners.{stage, sink_answer}
use Rattle.stroke.proofs.Drawn.{draw_nib, draw_by_nib}
use Rattle.stroke.proofs.Walking.{sides_left, draws_on, draws_as_far, passed_on}
use Rattle.dashes.proofs.Reaching.{found_none}
use Rattle.stroke.proofs.outliner.Outliner.walk_there.Goals as goal
use Rattle.stroke.proofs.outliner.Outliner.walk_there.Goals.{in-Some+in_ok-go_on, in_default}

pub returns-in_err-go_on-clause-drew : goal.returns-in_err-go_on-clause-drew
returns-in_err-go_on-clause-drew g c =
    let sinks = g.S.Sink.acts in
    let hosts = g.K.MathsHost.acts in
    let inv = c.loop-i.invariant in
    let row = g.R.Row.pieces c.args.row.now in
    let nib = c.args.self.now.nib in
    let next = c.side-next.result in
    let left = sides_left (side nib) row c.loop-i.i c.in-Some.segment c.get.ensures c.in-Some.is (c.side-next.ensures ∙ ap (λ (n : Nib). side n c.in-Some.segment) inv.nib) in
    ap (λ r. stage hosts c.go_on.new.self (sink_answer r)) (passed_on c.from_residual.result c.in_err-go_on.field-0.0 c.from_residual.ensures.1)
    ∙ draws_as_far sinks hosts c.args.split c.loop-i.last next (sides nib (drop (c.loop-i.i + 1) row)) (stage hosts c.loop-i.self (Ok tt)) left refl c.in_err-go_on.ensures
    ∙ inv.drawn ∙ sym (draw_by_nib sinks hosts (λ n. onward c.args.split c.args.before (sides n (drop c.args.start row))) (stage hosts c.args.self.now (Ok tt)))

pub loop-i-preserved : goal.loop-i-preserved
loop-i-preserved g c =
    elim c.match-get.branch [
      | in-Some+in_ok-go_on w ↦
          let sinks = g.S.Sink.acts in
          let hosts = g.K.MathsHost.acts in
          let inv = c.loop-i.invariant in
          let row = g.R.Row.pieces c.args.row.now in
          let nib = c.args.self.now.nib in
          let next = w.side-next.result in
          let rest = sides nib (drop (c.loop-i.i + 1) row) in
          let left = sides_left (side nib) row c.loop-i.i w.in-Some.segment c.get.ensures w.in-Some.is (w.side-next.ensures ∙ ap (λ (n : Nib). side n w.in-Some.segment) inv.nib) in
          let here = stage hosts c.loop-i.self (Ok tt) in
          let kept = ap (λ (d : Standing _ _). d.nib) w.in_ok-go_on.ensures ∙ draw_nib sinks hosts (one_onward c.args.split c.loop-i.last next) here ∙ inv.nib in
          let last = sym (ap (last_side c.loop-i.last) left) ∙ inv.last in
          let drawn = draws_on sinks hosts c.args.split c.loop-i.last next rest here left w.in_ok-go_on.ensures ∙ inv.drawn in
          simp (w.self-is, w.last-is) (record { nib = kept; last = last; drawn = drawn })
      | in_default w ↦ absurd (omega (arith, found_none (g.R.Row.pieces c.args.row.now) c.loop-i.i c.get.ensures w.in_default.is, c.len-i-end.ensures, c.loop-i-test.true))
    ]
