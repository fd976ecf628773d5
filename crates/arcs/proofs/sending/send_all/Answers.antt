use Rattle.std.proofs.Common.{Err, sym, ap, ◌∙◌, arith}
use Rattle.arcs.specs.LoneArcs.{sent_answer}
use Rattle.arcs.proofs.Sends.{none_left, stops, goes_on}
use Rattle.arcs.proofs.sending.send_all.Goals as goal

pub returns-then-is_err : goal.returns-then-is_err
returns-then-is_err g c =
    let all = stops g.S.Sink.acts c.args.commands.now c.loop-c.c-index _ c.loop-c.sink c.loop-c.sent c.loop-c-test.true c.send.ensures.answer (sym c.is_err.ensures.value ∙ c.if-is_err.true) c.send.ensures.after c.loop-c.invariant.left in
    record {
      answer = ap Err c.refused_after.ensures ∙ ap sent_answer all;
      sink = ap (λ d. d.sink) all;
    }

pub loop-c-preserved : goal.loop-c-preserved
loop-c-preserved g c = record {
  left = goes_on g.S.Sink.acts c.args.commands.now c.loop-c.c-index _ c.loop-c.sink c.loop-c.sent c.loop-c-test.true c.send.ensures.answer (sym c.is_err.ensures.value ∙ c.if-is_err.false) c.send.ensures.after c.loop-c.invariant.left;
  count = omega (arith, c.loop-c.invariant.count);
}

pub returns : goal.returns
returns g c =
    let all = none_left g.S.Sink.acts c.args.commands.now c.loop-c.c-index c.loop-c.sink c.loop-c.sent (omega (arith, c.loop-c-test.false)) c.loop-c.invariant.left in
    record {
      answer = ap sent_answer all;
      sink = ap (λ d. d.sink) all;
    }
