use Rattle.cursor.proofs.Cutting.{cuts_rise}
use Rattle.cursor.proofs.cuts.split_at_max_curvature.Goals as goal

pub returns-clause-rising : goal.returns-clause-rising
returns-clause-rising g c = cuts_rise (g.K.MathsHost.acts.functions c.args.host.now) c.args.curve
