use Rattle.std.proofs.Common.{length, ap, arith}
use Rattle.cursor.proofs.Few.{between_cuts_few}
use Rattle.cursor.proofs.Halving.{all_halved_long, all_halved_some}
use Rattle.cursor.proofs.cuts.split_curve.Goals as goal

pub returns-clause-few : goal.returns-clause-few
returns-clause-few g c =
    let splits = c.split_at_max_curvature.result.items in
    let few = between_cuts_few (g.K.MathsHost.acts.functions c.args.host.now) c.args.curve in
    let all = ap length c.halve_all.ensures in (
      omega (arith, all, all_halved_some splits c.split_at_max_curvature.ensures.few.0),
      omega (arith, all, all_halved_long splits, ap length c.split_at_max_curvature.ensures.answer, few),
    )
