use Rattle.std.proofs.Common.{option_map, refl, ap, ◌∙◌, arith}
use Rattle.dashes.specs.PatternValues.{values}
use Rattle.stroke.specs.Strokers.{stroking, whole}
use Rattle.stroke.proofs.Dashing.{passed_on}
use Rattle.stroke.proofs.Running.{runs_left, still_given, fresh_left, cleared_ended, starts, asks_next, taken_ended, taken_on, taken_off, ran_out, same_budget}
use Rattle.stroke.proofs.stroker.Stroker.stroke.Goals as goal

pub returns-in_err-take : goal.returns-in_err-take
returns-in_err-take g c =
    let hosts = g.K.MathsHost.acts in
    let pattern = option_map values c.args.pattern in
    let given = asks_next g.S.Sink.acts g.B.Storage.acts hosts g.met.K.MathsHost.same pattern _ c.loop-segment.cursor.place c.args.commands.now c.loop-segment.self c.loop-segment.invariant.leads c.next.ensures.whole c.next.ensures.head in
    let why = c.in_err-take.field-0.0 in
    ap (stroking hosts c.take.new.self) (passed_on c.from_residual.result why c.from_residual.ensures.0 c.from_residual.ensures.1)
    ∙ taken_off g.S.Sink.acts g.B.Storage.acts hosts g.met.B.Storage.empties g.met.B.Storage.grows pattern _ _ c.take.new.self c.in-Some.segment why given c.in-Some.is c.in_err-take.ensures

pub loop-segment-init : goal.loop-segment-init
loop-segment-init g c = record {
  few = omega (arith, c.requires.fresh, cleared_ended g.S.Sink.acts g.B.Storage.acts g.K.MathsHost.acts c.args.self.now c.clear.new.self c.clear.ensures, fresh_left c.args.commands.now c.new-cursor.result c.new-cursor.ensures.machine c.new-cursor.ensures.place);
  leads = starts g.S.Sink.acts g.B.Storage.acts g.K.MathsHost.acts g.met.B.Storage.empties (option_map values c.args.pattern) c.args.commands.now c.new-cursor.result c.args.self.now _ c.new-cursor.ensures.machine c.new-cursor.ensures.place c.clear.ensures;
}

pub take-requires-clause-budget : goal.take-requires-clause-budget
take-requires-clause-budget g c = omega (arith, c.requires.budget, same_budget g.S.Sink.acts g.B.Storage.acts g.K.MathsHost.acts (runs_left (option_map values c.args.pattern) (still_given c.loop-segment.cursor c.args.commands.now)) (whole (option_map values c.args.pattern) c.args.commands.now) c.args.self.now c.loop-segment.self c.loop-segment.invariant.leads)

pub draw_run-requires : goal.draw_run-requires
draw_run-requires g c = record { budget = omega (arith, c.requires.budget, same_budget g.S.Sink.acts g.B.Storage.acts g.K.MathsHost.acts (runs_left (option_map values c.args.pattern) (still_given c.loop-segment.cursor c.args.commands.now)) (whole (option_map values c.args.pattern) c.args.commands.now) c.args.self.now c.loop-segment.self c.loop-segment.invariant.leads) }

pub loop-segment-preserved : goal.loop-segment-preserved
loop-segment-preserved g c =
    let hosts = g.K.MathsHost.acts in
    let pattern = option_map values c.args.pattern in
    let given = asks_next g.S.Sink.acts g.B.Storage.acts hosts g.met.K.MathsHost.same pattern _ c.loop-segment.cursor.place c.args.commands.now c.loop-segment.self c.loop-segment.invariant.leads c.next.ensures.whole c.next.ensures.head in
    record {
      few = omega (arith, c.loop-segment.invariant.few, c.in-Some.ensures.head.falls refl, taken_ended g.S.Sink.acts g.B.Storage.acts hosts pattern c.in-Some.segment (record c.loop-segment.self { host = record c.loop-segment.self.host { now = c.next.new.host } }) c.take.new.self c.in_ok-take.ensures);
      leads = taken_on g.S.Sink.acts g.B.Storage.acts hosts g.met.B.Storage.empties g.met.B.Storage.grows pattern _ _ _ c.in-Some.segment given c.in-Some.is c.in_ok-take.ensures;
    }

pub returns : goal.returns
returns g c =
    let hosts = g.K.MathsHost.acts in
    let pattern = option_map values c.args.pattern in
    let given = asks_next g.S.Sink.acts g.B.Storage.acts hosts g.met.K.MathsHost.same pattern _ c.loop-segment.cursor.place c.args.commands.now c.loop-segment.self c.loop-segment.invariant.leads c.next.ensures.whole c.next.ensures.head in
    ran_out g.S.Sink.acts g.B.Storage.acts hosts pattern _ _ _ given c.in_default.is c.draw_run.ensures
