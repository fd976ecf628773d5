use Rattle.std.proofs.Common.{◌≡◌, ◌+◌, ◌-◌, List, length}
use Rattle.path.specs.declared.command.Command.{Command}
use Rattle.job.specs.ReadBack.{Before}
use Rattle.job.proofs.tape.TapeReadableSink.len.Given as goal

-- what is counted, and what is before the reader
abbrev pub invariant-loop-reader : goal.invariant-loop-reader
invariant-loop-reader l = (cs : List Command) × Before l.reader cs × (l.n + length cs ≡ length l.self.commands)

abbrev pub decreases-loop-reader : goal.decreases-loop-reader
decreases-loop-reader l = length l.self.commands - l.n
