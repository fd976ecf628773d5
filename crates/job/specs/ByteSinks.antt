-- What a byte sink means.
use Rattle.std.specs.Prelude.{ℕ, ◌+◌, ◌-◌, List, [], ◌∷◌, ◌++◌, length, drop}
use denote.Ref.{MutBor, at_last}
use Rattle.path.specs.declared.command.Command.{Command}
use Rattle.job.specs.Writing.{written, record_of}
use Rattle.sinks.specs.Meaning.{Meaning, SinkActs, as_they_came}
use Rattle.job.specs.Decoding.{records}
use Rattle.job.specs.Tapes.{price}
use Rattle.job.specs.declared.byte_sink.ByteSink.{ByteSink}

-- the commands' records, and then what the bytes held
abbrev pub overwritten : List ℕ → List Command → List ℕ
overwritten bytes cs = records cs ++ drop (length (records cs)) bytes

-- over these bytes, after it took these commands
abbrev pub over : MutBor (List ℕ) → List Command → ByteSink
over b cs = record { bytes = at_last b (overwritten b.now cs); used = length (records cs); taken = record { commands = cs } }

-- the commands as they came; a unit is a byte
abbrev pub spelling : ByteSink → Meaning
spelling s = as_they_came price (length s.bytes.now - s.used) s.taken.commands

-- with one command more: only its record is written
abbrev pub grown : ByteSink → Command → ByteSink
grown s c = record {
  bytes = at_last s.bytes (written s.bytes.now s.used (record_of c));
  used = s.used + length (record_of c);
  taken = record { commands = s.taken.commands ++ (c ∷ []) };
}

abbrev pub byte_acts : SinkActs ByteSink
byte_acts = record { meaning = spelling; took = grown }
