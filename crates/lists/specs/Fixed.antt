-- A list, and the places after it.
use Rattle.std.specs.Prelude.{ℕ, ◌-◌, Bool, if◌then◌else◌, List, [], ◌∷◌, ◌++◌, length, take, drop, replicate, Ok, Err, Result, nat_lt, refl}
use Rattle.lists.specs.declared.lent.Full.{Full}
use Rattle.std.specs.Coded.{Coded, code_by, coded×, coded_list}

-- the elements, in order, and what the places after them hold
pub record Places (X : Type 0) : Type 0 where
  pub items : List X
  pub spare : List X

-- the two lists are stored as a pair
abbrev pub places_code : {X : Type 0} → Coded X → Coded (Places X)
places_code {X} code = code_by (List X × List X) (coded× (coded_list code) (coded_list code)) (λ p. (p.items, p.spare)) (λ p. record { items = p.0; spare = p.1 }) (λ _. refl)

-- no elements in so many places
abbrev pub fresh : {X : Type 0} → ℕ → X → Places X
fresh n blank = record { items = []; spare = replicate n blank }

-- the first n of some elements, in so many places
abbrev pub filled : {X : Type 0} → ℕ → X → List X → Places X
filled n blank xs = record { items = take n xs; spare = replicate (n - length xs) blank }

-- whether a place is left
abbrev pub room : {X : Type 0} → Places X → Bool
room p = nat_lt 0 (length p.spare)

-- with one element more, in the first place after the others
abbrev pub grown : {X : Type 0} → Places X → X → Places X
grown p x = record { items = p.items ++ x ∷ []; spare = drop 1 p.spare }

abbrev pub pushed : {X : Type 0} → Places X → X → Places X
pushed p x = if room p then grown p x else p

abbrev pub push_answer : {X : Type 0} → Places X → Result (Unit {0}) Full
push_answer p = if room p then Ok tt else Err (record {})

abbrev pub cleared : {X : Type 0} → Places X → Places X
cleared p = record { items = []; spare = p.items ++ p.spare }
