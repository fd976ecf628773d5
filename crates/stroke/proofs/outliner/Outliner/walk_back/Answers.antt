use Rattle.std.proofs.Common.{◌-◌, Ok, true, take, refl, sym, ap, ◌∙◌, arith}
use Rattle.pen.specs.declared.nib.Nib.{Nib}
use Rattle.stroke.specs.Events.{Standing}
use Rattle.stroke.specs.Outlines.{one_onward, onward, other_side, other_sides, other_sides_on, last_side}
use Rattle.stroke.specs.Outliners.{stage, sink_answer}
use Rattle.stroke.proofs.Drawn.{draw_nib, draw_by_nib}
use Rattle.stroke.proofs.Walking.{sides_back, draws_on, draws_as_far, passed_on}
use Rattle.dashes.proofs.Reaching.{found_none}
use Rattle.stroke.proofs.outliner.Outliner.walk_back.Goals as goal

pub returns-in_err-go_on-clause-drew : goal.returns-in_err-go_on-clause-drew
returns-in_err-go_on-clause-drew g c =
    let sinks = g.S.Sink.acts in
    let hosts = g.K.MathsHost.acts in
    let inv = c.loop-i.invariant in
    let row = g.R.Row.pieces c.args.row.now in
    let nib = c.args.self.now.nib in
    let next = c.other_side-next.result in
    let left = sides_back (other_side nib) row c.loop-i.i c.in-Some.segment c.loop-i-test.true c.get.ensures c.in-Some.is (c.other_side-next.ensures ∙ ap (λ (n : Nib). other_side n c.in-Some.segment) inv.nib) in
    ap (λ r. stage hosts c.go_on.new.self (sink_answer r)) (passed_on c.from_residual.result c.in_err-go_on.field-0.0 c.from_residual.ensures.1)
    ∙ draws_as_far sinks hosts true c.loop-i.last next (other_sides nib (take (c.loop-i.i - 1) row)) (stage hosts c.loop-i.self (Ok tt)) left refl c.in_err-go_on.ensures
    ∙ inv.drawn ∙ sym (draw_by_nib sinks hosts (λ n. onward true c.args.before (other_sides_on n row)) (stage hosts c.args.self.now (Ok tt)))

pub loop-i-preserved-in-Some : goal.loop-i-preserved-in-Some
loop-i-preserved-in-Some g c =
    let sinks = g.S.Sink.acts in
    let hosts = g.K.MathsHost.acts in
    let inv = c.loop-i.invariant in
    let row = g.R.Row.pieces c.args.row.now in
    let nib = c.args.self.now.nib in
    let next = c.other_side-next.result in
    let rest = other_sides nib (take (c.loop-i.i - 1) row) in
    let left = sides_back (other_side nib) row c.loop-i.i c.in-Some.segment c.loop-i-test.true c.get.ensures c.in-Some.is (c.other_side-next.ensures ∙ ap (λ (n : Nib). other_side n c.in-Some.segment) inv.nib) in
    let here = stage hosts c.loop-i.self (Ok tt) in
    record {
      nib = ap (λ (d : Standing _ _). d.nib) c.in_ok-go_on.ensures ∙ draw_nib sinks hosts (one_onward true c.loop-i.last next) here ∙ inv.nib;
      last = sym (ap (last_side c.loop-i.last) left) ∙ inv.last;
      drawn = draws_on sinks hosts true c.loop-i.last next rest here left c.in_ok-go_on.ensures ∙ inv.drawn;
    }

pub loop-i-preserved : goal.loop-i-preserved
loop-i-preserved g c =
    absurd (omega (arith, found_none (g.R.Row.pieces c.args.row.now) (c.loop-i.i - 1) c.get.ensures c.in_default.is, c.loop-i.auto.i, c.saturating_sub-i.ensures, c.loop-i-test.true))
