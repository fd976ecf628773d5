-- What a sink means.
use Rattle.std.specs.Prelude.{ℕ, ◌-◌, Bool, if◌then◌else◌, List, [], ◌∷◌, ◌++◌, Ok, Err, Result, nat_le}
use Rattle.path.specs.declared.command.Command.{Command}
use Rattle.path.specs.Kinds.{Kind, kind}
use Rattle.sinks.specs.declared.sink.Refused.{Refused}

pub record Meaning : Type 0 where
  pub list : List Command
  pub units : ℕ
  pub price : Kind → ℕ
  pub map : Command → Command

-- commands as they came, with so many units left at these prices
abbrev pub as_they_came : (Kind → ℕ) → ℕ → List Command → Meaning
as_they_came price units cs = record { list = cs; units = units; price = price; map = λ c. c }

-- a command is taken where its price does not pass the units left
abbrev pub takes : Meaning → Command → Bool
takes m c = nat_le (m.price (kind c)) m.units

-- with a command taken: its image joins the list's end and its price is paid
abbrev pub joined : Meaning → Command → Meaning
joined m c = record { list = m.list ++ (m.map c ∷ []); units = m.units - m.price (kind c); price = m.price; map = m.map }

abbrev pub verdict : Meaning → Command → Result (Unit {0}) Refused
verdict m c = if takes m c then Ok tt else Err (record {})

-- What a sink does: what it means, and the whole sink with a command taken.
pub record SinkActs (S : Type 0) : Type 0 where
  pub meaning : S → Meaning
  pub took : S → Command → S

-- a sink that is nothing but its meaning
abbrev pub meaning_acts : SinkActs Meaning
meaning_acts = record { meaning = λ m. m; took = joined }

-- a sink after it was sent a command: the one with the command taken, or as it was
abbrev pub after : {S : Type 0} → SinkActs S → S → Command → S
after acts s c = if takes (acts.meaning s) c then acts.took s c else s
