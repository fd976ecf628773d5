use Rattle.std.proofs.Common.{sym, refl, ap, ◌∙◌, arith}
use Rattle.dashes.specs.declared.dasher.Dasher.{Dasher}
use Rattle.dashes.specs.declared.dasher.DashOp.TheVariants.{Continue}
use Rattle.dashes.specs.PatternValues.{values}
use Rattle.stroke.specs.Strokers.{stroking, next_op, walked_on, goes_on}
use Rattle.stroke.proofs.Dashing.{passed_on, seek_steps, walk_steps, walk_begins, seek_done, walks_on, walk_over, step_along, step_refused, stepped}
use Rattle.stroke.proofs.stroker.Stroker.draw_dashed.Goals as goal

pub loop-self-init : goal.loop-self-init
loop-self-init g c =
    walk_begins g.S.Sink.acts g.B.Storage.acts g.K.MathsHost.acts (values c.args.pattern) c.args.closed c.init-dasher.result c.args.self.now c.requires.some c.requires.budget
    (ap (λ (d : Dasher). values d.pattern) c.init-dasher.ensures.walk) (ap (λ (d : Dasher). d.walk) c.init-dasher.ensures.walk)

pub returns-in_err-spend : goal.returns-in_err-spend
returns-in_err-spend g c =
    let hosts = g.K.MathsHost.acts in
    let why = c.in_err-spend.field-0.0 in
    ap (stroking hosts c.spend.new.self) (passed_on c.from_residual.result why c.from_residual.ensures.0 c.from_residual.ensures.1)
    ∙ step_refused g.S.Sink.acts g.B.Storage.acts hosts (λ xs. Continue) (seek_steps c.loop-self.dasher c.seeks.result c.seeks.ensures c.loop-self-test.true refl) _ c.loop-self.self c.spend.new.self why c.loop-self.invariant c.in_err-spend.ensures

pub loop-self-smaller : goal.loop-self-smaller
loop-self-smaller g c =
    let k = stepped g.S.Sink.acts g.B.Storage.acts g.K.MathsHost.acts (λ xs. Continue) c.loop-self.self c.spend.new.self c.in_ok-spend.ensures in
    omega (arith, k.room, k.taken, k.budget)

pub loop-self-preserved : goal.loop-self-preserved
loop-self-preserved g c =
    step_along g.S.Sink.acts g.B.Storage.acts g.K.MathsHost.acts (λ xs. Continue) (seek_steps c.loop-self.dasher c.seeks.result c.seeks.ensures c.loop-self-test.true c.seek.ensures.after) _ c.loop-self.self c.spend.new.self c.loop-self.invariant c.in_ok-spend.ensures

pub loop-more-init : goal.loop-more-init
loop-more-init g c = seek_done g.S.Sink.acts g.B.Storage.acts g.K.MathsHost.acts c.loop-self.dasher _ c.loop-self.self c.seeks.result c.seeks.ensures c.loop-self-test.false c.loop-self.invariant

pub returns-in_err-more : goal.returns-in_err-more
returns-in_err-more g c =
    let hosts = g.K.MathsHost.acts in
    let why = c.in_err-more.field-0.0 in
    let refusal = c.from_residual-in_err-more in
    ap (stroking hosts c.dash_step.new.self) (passed_on refusal.result why refusal.ensures.0 refusal.ensures.1)
    ∙ step_refused g.S.Sink.acts g.B.Storage.acts hosts (next_op c.loop-more.dasher) (walk_steps c.loop-more.dasher) _ c.loop-more.self c.dash_step.new.self why c.loop-more.invariant c.in_err-more.ensures.drew

pub loop-more-smaller : goal.loop-more-smaller
loop-more-smaller g c =
    let k = stepped g.S.Sink.acts g.B.Storage.acts g.K.MathsHost.acts (next_op c.loop-more.dasher) c.loop-more.self c.dash_step.new.self c.in_ok-more.ensures.drew in
    omega (arith, k.room, k.taken, k.budget)

pub returns-then-not-more : goal.returns-then-not-more
returns-then-not-more g c =
    let sinks = g.S.Sink.acts in
    let storages = g.B.Storage.acts in
    let hosts = g.K.MathsHost.acts in
    let d = c.loop-more.dasher in
    let b = c.dash_step.new.self in
    let drew = c.in_ok-more.ensures.drew in
    let stored = ap storages.held (sym (stepped sinks storages hosts (next_op d) c.loop-more.self b drew).stored) in
    walk_over sinks storages hosts d _ b _ (c.in_ok-more.ensures.walked.goes_on ∙ ap (λ xs. goes_on (next_op d xs)) stored) c.if-not-more.true
    (step_along sinks storages hosts (next_op d) (walk_steps d) _ c.loop-more.self b c.loop-more.invariant drew)

pub loop-more-preserved : goal.loop-more-preserved
loop-more-preserved g c =
    let sinks = g.S.Sink.acts in
    let storages = g.B.Storage.acts in
    let hosts = g.K.MathsHost.acts in
    let d = c.loop-more.dasher in
    let b = c.dash_step.new.self in
    let drew = c.in_ok-more.ensures.drew in
    let stored = ap storages.held (sym (stepped sinks storages hosts (next_op d) c.loop-more.self b drew).stored) in
    walks_on sinks storages hosts d c.dash_step.new.dasher _ b _ (c.in_ok-more.ensures.walked.after ∙ ap (walked_on d) stored)
    (c.in_ok-more.ensures.walked.goes_on ∙ ap (λ xs. goes_on (next_op d xs)) stored) c.if-not-more.false
    (step_along sinks storages hosts (next_op d) (walk_steps d) _ c.loop-more.self b c.loop-more.invariant drew)
