-- What is spelled is what is read, of items whose numbers are of f32.
use Rattle.std.specs.Prelude.{◌≡◌, ℕ, ◌+◌, ◌≤◌, min, List, [], ◌∷◌, ◌++◌, length, Some, Ok, fold, Option, Result}
use Rattle.std.specs.List.{flat_map}
use Rattle.lists.specs.declared.lent.Lent.{Lent}
use Rattle.lists.specs.Lent.{items}
use Rattle.path.specs.declared.refusal.Reason.{Reason}
use Rattle.path.specs.declared.refusal.Refusal.{Refusal}
use Rattle.job.specs.declared.item.Item.{Item}
use Rattle.job.specs.Spelling.{Fitting, spelled}
use Rattle.job.specs.declared.reader.JobReader.{JobReader}
use Rattle.job.specs.declared.whole.Job.{Job}
use Rattle.job.specs.Readers.{left, moved}
use Rattle.job.specs.Jobs.{styled, commands_of, dashes_of, with_item}
use Rattle.job.specs.Whole.{Outcome}

-- where an item is spelled it is found, and what follows it is left after it
abbrev pub FindsSpelled : JobReader → Result (Option (Item × ℕ)) Reason → Type 0
FindsSpelled r o = (i : Item) (rest : List ℕ) → Fitting i → left r ≡ spelled i ++ rest
    → (o ≡ Ok (Some (i, length (spelled i)))) × (left (moved r (length (spelled i))) ≡ rest)

abbrev pub ReadsSpelled : JobReader → Result (Option Item) Refusal → JobReader → Type 0
ReadsSpelled r a after = (i : Item) (rest : List ℕ) → Fitting i → left r ≡ spelled i ++ rest
    → (a ≡ Ok (Some i)) × (after ≡ moved r (length (spelled i))) × (left after ≡ rest)

abbrev pub AllFitting : List Item → Type 0
AllFitting [] = Unit {0}
AllFitting (i ∷ is) = Fitting i × AllFitting is

-- a list that holds at most so many elements has places for n more
abbrev pub EnoughPlaces : {X : Type 0} → ℕ → Lent X → ℕ → Type 0
EnoughPlaces most l n = length (items l) + n ≤ min most (length l.places.now)

-- the whole of a row of items is read and stored
pub record Stored (is : List Item) (r : JobReader) (j : Job) (o : Outcome (Unit {0})) : Type 0 where
  pub accepted : o.answer ≡ Ok tt
  pub reader : o.reader ≡ moved r (length (flat_map spelled is))
  pub job : o.job ≡ fold with_item j is
  pub style : o.job.style ≡ fold styled j.style is
  pub commands : items o.job.commands ≡ items j.commands ++ flat_map commands_of is
  pub dashes : items o.job.dashes ≡ items j.dashes ++ flat_map dashes_of is

-- where just these items are spelled, and the lists have places for what they add
abbrev pub StoresSpelled : JobReader → Job → Outcome (Unit {0}) → Type 0
StoresSpelled r j o = (is : List Item) → AllFitting is → left r ≡ flat_map spelled is
    → EnoughPlaces 4096 j.commands (length (flat_map commands_of is)) → EnoughPlaces 32 j.dashes (length (flat_map dashes_of is))
    → Stored is r j o
