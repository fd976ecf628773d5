-- Bytes written over others.
use Rattle.std.specs.Prelude.{ℕ, ◌+◌, ◌-◌, Bool, if◌then◌else◌, List, ◌++◌, length, take, drop, Some, None, Option, nat_le}
use Rattle.path.specs.declared.command.Command.{Command}
use Rattle.job.specs.declared.item.Item.TheVariants.{Path}
use Rattle.job.specs.Spelling.{spelled}

-- some bytes with a row of others over those from a place on
abbrev pub written : List ℕ → ℕ → List ℕ → List ℕ
written bytes place row = take place bytes ++ row ++ drop (place + length row) bytes

-- a command's record
abbrev pub record_of : Command → List ℕ
record_of c = spelled (Path c)

-- whether it fits whole from a place on
abbrev pub fits : List ℕ → ℕ → Command → Bool
fits bytes place c = nat_le (length (record_of c)) (length bytes - place)

-- it is written where it fits, and nothing is altered where it does not
abbrev pub size_written : List ℕ → ℕ → Command → Option ℕ
size_written bytes place c = if fits bytes place c then Some (length (record_of c)) else None

abbrev pub with_record : List ℕ → ℕ → Command → List ℕ
with_record bytes place c = if fits bytes place c then written bytes place (record_of c) else bytes
