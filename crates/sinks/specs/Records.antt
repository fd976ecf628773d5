-- What a record list means.
use Rattle.std.specs.Prelude.{ℕ, List}
use Rattle.lists.specs.Lent.{items, left}
use Rattle.lists.specs.declared.lent.Lent.{Lent}
use Rattle.path.specs.declared.command.Command.{Command}
use Rattle.sinks.specs.Meaning.{Meaning, as_they_came}

-- the commands as they came, 1 unit each, with so many places left
abbrev pub with_places : ℕ → List Command → Meaning
with_places n cs = as_they_came (λ k. 1) n cs

abbrev pub recorded : Lent Command → Meaning
recorded l = with_places (left l) (items l)
