use Rattle.curves.proofs.Rising.{roots_rise}
use Rattle.curves.proofs.Within.{roots_within}
use Rattle.curves.proofs.roots.solve.Goals as goal

pub returns-clause-within : goal.returns-clause-within
returns-clause-within g c = rw c.roots.ensures.answer (roots_within (g.K.MathsHost.acts.functions c.args.host.now) c.new.result)

pub returns-clause-rising : goal.returns-clause-rising
returns-clause-rising g c = rw c.roots.ensures.answer (roots_rise (g.K.MathsHost.acts.functions c.args.host.now) c.new.result)
