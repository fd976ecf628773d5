use Rattle.std.proofs.Common.{◌≡◌, length}
use Rattle.std.specs.Io.KnownBytes.{Keeps}
use Rattle.lines.proofs.reading.read_some.Given as goal

-- what was broken off took nothing
abbrev pub invariant-loop : goal.invariant-loop
invariant-loop g l = (length l.places ≡ length l.fn.places) × Keeps (g.R.Read.remaining l.fn.reader) (g.R.Read.remaining l.reader)
