-- What is left, read from here, ends as all of it does from the start.
use Rattle.std.proofs.Common.{length}
use Rattle.job.specs.Readers.{left}
use Rattle.job.specs.Whole.{whole}
use Rattle.job.proofs.Turns.{Leads}
use Rattle.job.proofs.reader.JobReader.read.Given as goal

abbrev pub invariant-loop : goal.invariant-loop
invariant-loop l = Leads l.self l.job (whole l.initial.self l.initial.job)

abbrev pub decreases-loop : goal.decreases-loop
decreases-loop l = length (left l.self)
