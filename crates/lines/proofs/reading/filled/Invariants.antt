use Rattle.std.proofs.Common.{◌≡◌, ◌≤◌, length, take}
use Rattle.std.specs.Io.KnownBytes.{Consumes}
use Rattle.lines.proofs.reading.filled.Given as goal

-- the first places hold what was consumed, a byte a turn at least
abbrev pub invariant-loop : goal.invariant-loop
invariant-loop g l = (length l.places ≡ length l.fn.places) × (l.counter ≤ l.count) × (l.count ≤ length l.places) × Consumes (g.R.Read.remaining l.fn.reader) (g.R.Read.remaining l.reader) (take l.count l.places)
