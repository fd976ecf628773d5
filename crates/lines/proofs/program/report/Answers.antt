use Rattle.std.proofs.Common.{subst, rules}
use Rattle.lines.specs.Listing.{reported}
use Rattle.lines.specs.Printing.{text_of}
use Rattle.lines.specs.Streams.{Writes}
use Rattle.lines.proofs.Reports.{says_of}
use Rattle.lines.proofs.program.report.Goals as goal

pub returns-in-Ok : goal.returns-in-Ok
returns-in-Ok g c =
    let says = says_of c.args.bytes _ _ 512 32 c.new.ensures c.new-job.ensures (search rules) (search rules) c.in-Ok.ensures.whole in
    subst (λ s. Writes (g.W.Write.contents c.args.writer.now) (g.W.Write.contents c.report.new.writer) c.report.result (text_of (reported (g.P.Program.lines c.args.program) s))) says c.report.ensures

pub returns-in-Err : goal.returns-in-Err
returns-in-Err g c =
    let says = says_of c.args.bytes _ _ 512 32 c.new.ensures c.new-job.ensures (search rules) (search rules) c.in-Err.ensures.whole in
    subst (λ s. Writes (g.W.Write.contents c.args.writer.now) (g.W.Write.contents c.print.new.writer) c.print.result (text_of (reported (g.P.Program.lines c.args.program) s))) says c.print.ensures
