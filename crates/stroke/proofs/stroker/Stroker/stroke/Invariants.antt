use Rattle.std.proofs.Common.{◌≡◌, ◌+◌, ◌*◌, ◌≤◌, None, length, option_map}
use Rattle.cursor.specs.Cursors.{seen, rest}
use Rattle.cursor.specs.Giving.{left}
use Rattle.dashes.specs.PatternValues.{values}
use Rattle.stroke.specs.Strokers.{stroking, work, whole}
use Rattle.stroke.proofs.Running.{runs_left, still_given}
use Rattle.stroke.proofs.stroker.Stroker.stroke.Given as goal

-- what is left to do, from here, ends as all of it does from the start
abbrev pub invariant-loop-segment : goal.invariant-loop-segment
invariant-loop-segment g l =
    let sinks = g.S.Sink.acts in
    let storages = g.B.Storage.acts in
    let hosts = g.K.MathsHost.acts in
    let pattern = option_map values l.pattern in
    record {
      few : l.self.ended + left (seen l.cursor) (rest l.cursor l.commands) ≤ 17 * length l.commands;
      leads : work sinks storages hosts (runs_left pattern (still_given l.cursor l.commands)) (stroking hosts l.self None) ≡ work sinks storages hosts (whole pattern l.commands) (stroking hosts l.fn.self None);
    }

abbrev pub decreases-loop-segment : goal.decreases-loop-segment
decreases-loop-segment g l = left (seen l.cursor) (rest l.cursor l.commands)
