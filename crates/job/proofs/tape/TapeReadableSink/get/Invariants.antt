use Rattle.std.proofs.Common.{drop}
use Rattle.job.specs.ReadBack.{Before}
use Rattle.job.proofs.tape.TapeReadableSink.get.Given as goal

-- past so many commands
abbrev pub invariant-loop : goal.invariant-loop
invariant-loop l = Before l.reader (drop l.counter l.self.commands)
