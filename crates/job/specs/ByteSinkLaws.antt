-- A byte sink with one command more.
use Rattle.std.specs.Prelude.{◌≡◌, ◌+◌, ◌-◌, ◌≤◌, T, [], ◌∷◌, ◌++◌, length}
use Rattle.std.proofs.Common.{leb→le, arith}
use Rattle.path.specs.declared.command.Command.{Command}
use Rattle.path.specs.Kinds.{kind}
use Rattle.job.specs.Writing.{written, record_of}
use Rattle.sinks.specs.Meaning.{takes, joined}
use Rattle.job.specs.Tapes.{price}
use Rattle.job.specs.TapeLaws.{priced, costs, length_written}
use Rattle.job.specs.ByteSinks.{spelling, grown}
use Rattle.job.specs.declared.byte_sink.ByteSink.{ByteSink}

pub spelling_grows : (s : ByteSink) (c : Command) → T (takes (spelling s) c) → spelling (grown s c) ≡ joined (spelling s) c
spelling_grows s c fits =
    let bytes = s.bytes.now in
    let row = record_of c in
    let room : s.used + length row ≤ length bytes = omega (arith, leb→le (price (kind c)) (length bytes - s.used) fits, priced c, costs c) in
    let units : length (written bytes s.used row) - (s.used + length row) ≡ (length bytes - s.used) - price (kind c) =
    rw (length_written bytes s.used row room) (omega (arith, priced c)) in
    λ i. record { list = s.taken.commands ++ (c ∷ []); units = units i; price = price; map = λ d. d }
