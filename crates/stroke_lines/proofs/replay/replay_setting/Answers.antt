use Rattle.std.proofs.Common.{subst, rules}
use Rattle.lines.specs.Listing.{reported}
use Rattle.lines.specs.Printing.{text_of}
use Rattle.lines.specs.Streams.{Writes}
use Rattle.lines.proofs.Growing.{failed, none_yet}
use Rattle.lines.proofs.Reports.{says_of}
use Rattle.stroke_lines.specs.Replayed.{replayed_lines}
use Rattle.stroke_lines.specs.Settings.{values}
use Rattle.stroke_lines.proofs.replay.replay_setting.Goals as goal

pub returns-in_err-commands : goal.returns-in_err-commands
returns-in_err-commands g c = failed _ _ _ _ c.from_residual.ensures.0 (none_yet _ _)

pub returns-in-Ok : goal.returns-in-Ok
returns-in-Ok g c =
    let says = says_of c.args.setting.job _ _ 4096 32 c.new.ensures c.new-job.ensures (search rules) (search rules) c.in-Ok.ensures.whole in
    subst (λ s. Writes (g.W.Write.contents c.args.writer.now) (g.W.Write.contents c.replay_job.new.writer) c.replay_job.result (text_of (reported (replayed_lines (values c.args.setting)) s))) says c.replay_job.ensures

pub returns : goal.returns
returns g c =
    let says = says_of c.args.setting.job _ _ 4096 32 c.new.ensures c.new-job.ensures (search rules) (search rules) c.in-Err.ensures.whole in
    subst (λ s. Writes (g.W.Write.contents c.args.writer.now) (g.W.Write.contents c.print.new.writer) c.print.result (text_of (reported (replayed_lines (values c.args.setting)) s))) says c.print.ensures
