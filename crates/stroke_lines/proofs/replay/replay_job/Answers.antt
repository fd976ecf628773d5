use Rattle.lines.proofs.Growing.{failed, none_yet}
use Rattle.stroke_lines.proofs.replay.replay_job.Goals as goal

pub returns-in_err-places : goal.returns-in_err-places
returns-in_err-places g c = failed _ _ _ _ c.from_residual.ensures.0 (none_yet _ _)

pub returns-in_err-segments : goal.returns-in_err-segments
returns-in_err-segments g c = failed _ _ _ _ c.from_residual-in_err-segments.ensures.0 (none_yet _ _)
