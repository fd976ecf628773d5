use Rattle.std.proofs.Common.{sym, ◌∙◌}
use Rattle.cursor.specs.Cursors.{seen}
use Rattle.cursor.proofs.Drawn.{gives_head}
use Rattle.cursor.proofs.Going.{begins, takes, ends_idle, ends_given, goes_on}
use Rattle.cursor.proofs.walk.Segments.next.Goals as goal

pub loop-given-init : goal.loop-given-init
loop-given-init g c = begins g.K.MathsHost.acts (seen c.args.self.now) c.args.self.now.place c.args.host.now

pub loop-given-smaller : goal.loop-given-smaller
loop-given-smaller g c = takes g.K.MathsHost.acts.asked c.args.commands.now (g.K.MathsHost.acts.functions c.loop-given.host) (seen c.loop-given.self) c.loop-given.self.place c.loop-given.host c.in-Some.ensures.whole c.in-Some.ensures.waits

pub loop-given-preserved : goal.loop-given-preserved
loop-given-preserved g c =
    let skipped = sym c.is_some.ensures ∙ c.if-is_some.false in
    goes_on g.K.MathsHost.acts c.loop-given.invariant c.in-Some.ensures.whole g.met.K.MathsHost.same c.in-Some.ensures.waits skipped

pub returns-then-is_some : goal.returns-then-is_some
returns-then-is_some g c =
    let given = sym c.is_some.ensures ∙ c.if-is_some.true in
    let whole = ends_given g.K.MathsHost.acts c.loop-given.invariant c.in-Some.ensures.whole c.in-Some.ensures.waits given in
    record { whole = whole; head = gives_head g.K.MathsHost.acts.asked _ (seen c.args.self.now) c.args.commands.now c.args.self.now.place c.args.host.now _ whole }

pub returns : goal.returns
returns g c =
    let whole = ends_idle g.K.MathsHost.acts c.loop-given.invariant c.in_default.ensures.whole c.in_default.ensures.waits in
    record { whole = whole; head = gives_head g.K.MathsHost.acts.asked _ (seen c.args.self.now) c.args.commands.now c.args.self.now.place c.args.host.now _ whole }
