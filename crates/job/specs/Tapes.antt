-- What a tape holds, and what it means.
use Rattle.std.specs.Prelude.{ℕ, ◌-◌, List, [], ◌∷◌, ◌++◌, length}
use denote.Ref.{MutBor, at_last}
use Rattle.path.specs.declared.command.Command.{Command}
use Rattle.path.specs.Kinds.{Kind, move, line, curve, quad, close}
use Rattle.job.specs.Writing.{written, record_of}
use Rattle.sinks.specs.Meaning.{Meaning, SinkActs, as_they_came}
use Rattle.job.specs.Decoding.{records}

-- the commands taken, and all the bytes: first the commands' records, then what the places after them held
pub record Written : Type 0 where
  pub commands : List Command
  pub bytes : MutBor (List ℕ)

abbrev pub blank : MutBor (List ℕ) → Written
blank bytes = record { commands = []; bytes = bytes }

-- a letter, and four bytes for each number
abbrev pub price : Kind → ℕ
price move = 9
price line = 9
price curve = 25
price quad = 17
price close = 1

-- the commands as they came; a unit is a byte
abbrev pub spelling : Written → Meaning
spelling w = as_they_came price (length w.bytes.now - length (records w.commands)) w.commands

-- with one command more: only its record is written
abbrev pub grown : Written → Command → Written
grown w c = record { commands = w.commands ++ (c ∷ []); bytes = at_last w.bytes (written w.bytes.now (length (records w.commands)) (record_of c)) }

abbrev pub tape_acts : SinkActs Written
tape_acts = record { meaning = spelling; took = grown }
