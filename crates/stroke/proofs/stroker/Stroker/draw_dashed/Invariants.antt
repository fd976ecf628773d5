use Rattle.std.proofs.Common.{◌-◌, Some, None}
use Rattle.dashes.specs.PatternValues.{values}
use Rattle.stroke.specs.Strokers.{stroking, work, run_work}
use Rattle.stroke.proofs.Dashing.{Along, seek_left, walk_left}
use Rattle.stroke.proofs.stroker.Stroker.draw_dashed.Given as goal

-- while the offset is sought
abbrev pub invariant-loop-self : goal.invariant-loop-self
invariant-loop-self g l =
    let hosts = g.K.MathsHost.acts in
    let all = work g.S.Sink.acts g.B.Storage.acts hosts (run_work (Some (values l.pattern)) l.closed) (stroking hosts l.fn.self None) in
    Along g.S.Sink.acts g.B.Storage.acts hosts (seek_left l.dasher) all l.self

abbrev pub decreases-loop-self : goal.decreases-loop-self
decreases-loop-self g l = l.self.steps.budget - l.self.steps.taken

-- and then
abbrev pub invariant-loop-more : goal.invariant-loop-more
invariant-loop-more g l =
    let hosts = g.K.MathsHost.acts in
    let all = work g.S.Sink.acts g.B.Storage.acts hosts (run_work (Some (values l.pattern)) l.closed) (stroking hosts l.fn.self None) in
    Along g.S.Sink.acts g.B.Storage.acts hosts (walk_left l.dasher) all l.self

abbrev pub decreases-loop-more : goal.decreases-loop-more
decreases-loop-more g l = l.self.steps.budget - l.self.steps.taken
