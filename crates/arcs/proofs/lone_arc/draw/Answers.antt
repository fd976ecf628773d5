use Rattle.std.proofs.Common.{◌∙◌, true, ap, subst}
use Rattle.arcs.specs.Laws.{ReachesEnd, FiniteIfEnds}
use Rattle.arcs.specs.Ends.{curves_of}
use Rattle.arcs.specs.LoneArcs.{sending, sent_answer}
use Rattle.arcs.proofs.Sends.{few_sent, joined_sent, reaches_sent, finite_sent}
use Rattle.arcs.proofs.lone_arc.draw.Goals as goal

pub returns : goal.returns
returns g c =
    let row = c.as_slice.ensures.value ∙ c.arc_curves-curves.ensures.answer in
    let sinks = g.S.Sink.acts in
    let sent = c.send_all.ensures.answer in
    let few = c.arc_curves-curves.ensures.few in
    record {
      answer = sent ∙ ap (λ cs. sent_answer (sending sinks cs c.args.sink.now 0)) row;
      sink = c.send_all.ensures.sink ∙ ap (λ cs. (sending sinks cs c.args.sink.now 0).sink) row;
      host = c.arc_curves-curves.ensures.host;
      few = few_sent sinks _ c.as_slice.result.now c.args.sink.now sent c.as_slice.ensures.value few;
      joined = joined_sent sinks g.met.S.Sink.grows c.as_slice.result.now c.args.sink.now sent row c.send_all.ensures.sink;
      reaches = reaches_sent sinks c.args.arc c.as_slice.result.now c.args.sink.now sent row (subst (ReachesEnd c.args.arc) c.arc_curves-curves.ensures.answer (c.arc_curves-curves.ensures.reaches tt));
      finite = finite_sent c.args.arc (curves_of (g.K.MathsHost.acts.functions c.args.host.now) true c.args.arc) c.send_all.result (subst (FiniteIfEnds c.args.arc) c.arc_curves-curves.ensures.answer (c.arc_curves-curves.ensures.finite tt));
    }
