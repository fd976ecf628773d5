-- The list that a lent slice and a count mean.
use Rattle.std.specs.Prelude.{ℕ, ◌+◌, ◌-◌, min, Bool, if◌then◌else◌, List, length, take, Ok, Err, Result, nat_lt, slice_set}
use denote.Ref.{MutBor, at_last}
use Rattle.lists.specs.declared.lent.Full.{Full}
use Rattle.lists.specs.declared.lent.Lent.{Lent}

-- what is held
abbrev pub items : {X : Type 0} → Lent X → List X
items l = take l.count l.places.now

abbrev pub empty : {X : Type 0} → MutBor (List X) → Lent X
empty places = record { places = places; count = 0 }

-- the first places as they are, at most all of them
abbrev pub counted : {X : Type 0} → MutBor (List X) → ℕ → Lent X
counted places count = record { places = places; count = min count (length places.now) }

-- how many places are left
abbrev pub left : {X : Type 0} → Lent X → ℕ
left l = length l.places.now - l.count

-- whether a place is left
abbrev pub room : {X : Type 0} → Lent X → Bool
room l = nat_lt l.count (length l.places.now)

-- with one element more: only the first free place is written
abbrev pub pushed : {X : Type 0} → Lent X → X → Lent X
pushed l x = record { places = at_last l.places (slice_set l.places.now l.count x); count = l.count + 1 }

abbrev pub push_answer : {X : Type 0} → Lent X → Result (Unit {0}) Full
push_answer l = if room l then Ok tt else Err (record {})

abbrev pub cleared : {X : Type 0} → Lent X → Lent X
cleared l = record { places = l.places; count = 0 }
