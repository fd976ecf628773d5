use Rattle.lines.proofs.Growing.{failed}
use Rattle.lines.proofs.Paths.{front_at}
use Rattle.lines.proofs.printing.print_all.Goals as goal

pub returns-in_err-print : goal.returns-in_err-print
returns-in_err-print g c =
    let last = rw (c.line.ensures, c.x-item.is) at c.in_err-print.ensures in
    failed _ _ _ _ c.from_residual.ensures.0 (front_at g.T.AsLine.line_of c.args.row.now c.loop-x.x-index _ _ _ _ c.loop-x-test.true c.loop-x.invariant last)
