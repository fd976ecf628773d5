use Rattle.std.proofs.Common.{[], ◌∷◌, None, refl, ap, ◌∙◌}
use Rattle.stroke.specs.Calls.{steps}
use Rattle.stroke.specs.Strokers.{stroking, op_actions, next_op, walked_on, goes_on}
use Rattle.stroke.proofs.Performing.{ends_refused}
use Rattle.stroke.proofs.Dashing.{passed_on, drawable, same_run, step_then_op}
use Rattle.stroke.proofs.stroker.Stroker.dash_step.Goals as goal

pub returns-in_err-spend-clause-drew : goal.returns-in_err-spend-clause-drew
returns-in_err-spend-clause-drew g c =
    let hosts = g.K.MathsHost.acts in
    let d = stroking hosts c.args.self.now None in
    let xs = g.B.Storage.acts.held c.args.self.now.storage.now in
    let why = c.in_err-spend.field-0.0 in
    ap (stroking hosts c.spend.new.self) (passed_on c.from_residual.result why c.from_residual.ensures.0 c.from_residual.ensures.1)
    ∙ ends_refused g.S.Sink.acts g.B.Storage.acts hosts (steps ∷ []) (op_actions (next_op c.args.dasher.now xs) d.by.functions d.by.nib xs) why d _ c.in_err-spend.ensures refl

pub draw_op-requires : goal.draw_op-requires
draw_op-requires g c = drawable c.args.dasher.now (g.B.Storage.acts.held c.spend.new.self.storage.now) c.next-op.ensures.op c.next-op.ensures.within

pub returns-in_err-draw_op-clause-drew : goal.returns-in_err-draw_op-clause-drew
returns-in_err-draw_op-clause-drew g c =
    let hosts = g.K.MathsHost.acts in
    let d = stroking hosts c.args.self.now None in
    let why = c.in_err-draw_op.field-0.0 in
    let refusal = c.from_residual-in_err-draw_op in
    ap (stroking hosts c.draw_op.new.self) (passed_on refusal.result why refusal.ensures.0 refusal.ensures.1)
    ∙ step_then_op g.S.Sink.acts g.B.Storage.acts hosts c.args.dasher.now c.next-op.result d _ _ refl c.in_ok-spend.ensures c.next-op.ensures.op c.in_err-draw_op.ensures

pub returns-clause-drew : goal.returns-clause-drew
returns-clause-drew g c =
    step_then_op g.S.Sink.acts g.B.Storage.acts g.K.MathsHost.acts c.args.dasher.now c.next-op.result (stroking g.K.MathsHost.acts c.args.self.now None) _ _ refl c.in_ok-spend.ensures c.next-op.ensures.op c.in_ok-draw_op.ensures

pub returns-clause-walked : goal.returns-clause-walked
returns-clause-walked g c =
    let same = same_run g.S.Sink.acts g.B.Storage.acts g.K.MathsHost.acts (stroking g.K.MathsHost.acts c.args.self.now None) _ refl c.in_ok-spend.ensures in
    record {
      after = c.next-op.ensures.after ∙ ap (walked_on c.args.dasher.now) same;
      goes_on = c.goes_on.ensures ∙ ap goes_on (c.next-op.ensures.op ∙ ap (next_op c.args.dasher.now) same);
    }
