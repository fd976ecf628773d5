-- What it is to read a whole job.
use Rattle.std.specs.Prelude.{ℕ, zero, suc, Bool, true, false, length, Some, None, Ok, Err, Option, Result}
use Rattle.path.specs.declared.refusal.Reason.{Reason}
use Rattle.path.specs.declared.refusal.Reason.TheVariants.{ListFull}
use Rattle.path.specs.declared.refusal.Refusal.{Refusal}
use Rattle.job.specs.declared.item.Item.{Item}
use Rattle.job.specs.Reading.{first}
use Rattle.job.specs.declared.reader.JobReader.{JobReader}
use Rattle.job.specs.declared.whole.Job.{Job}
use Rattle.job.specs.Readers.{left, moved, refusal}
use Rattle.job.specs.Jobs.{takes_item, with_item}

-- an answer, with the reader and the job after it
pub record Outcome (X : Type 0) : Type 0 where
  pub answer : Result X Refusal
  pub reader : JobReader
  pub job : Job

-- an item is stored, and the reader moves past it, unless its list is full
abbrev pub store_by : Bool → JobReader → Job → Item × ℕ → Outcome Bool
store_by true r j x = record { answer = Ok true; reader = moved r x.1; job = with_item j x.0 }
store_by false r j x = record { answer = Err (refusal r ListFull); reader = r; job = j }

-- one item is read and stored, and the answer says whether there was one; refused, all stays as it was
abbrev pub step_by : Result (Option (Item × ℕ)) Reason → JobReader → Job → Outcome Bool
step_by (Ok None) r j = record { answer = Ok false; reader = r; job = j }
step_by (Ok (Some x)) r j = store_by (takes_item j x.0) r j x
step_by (Err e) r j = record { answer = Err (refusal r e); reader = r; job = j }

abbrev pub step : JobReader → Job → Outcome Bool
step r j = step_by (first (left r)) r j

-- after a step that stored an item more are read
abbrev pub then : Result Bool Refusal → JobReader → Job → (JobReader → Job → Outcome (Unit {0})) → Outcome (Unit {0})
then (Ok true) r j more = more r j
then (Ok false) r j more = record { answer = Ok tt; reader = r; job = j }
then (Err e) r j more = record { answer = Err e; reader = r; job = j }

-- n turns at most
unfoldable pub reading : ℕ → JobReader → Job → Outcome (Unit {0})
reading zero r j = record { answer = Ok tt; reader = r; job = j }
reading (suc n) r j = let s = step r j in then s.answer s.reader s.job (reading n)

-- to the end of the bytes: each turn but the last reads an item, which has one of them at least
abbrev pub whole : JobReader → Job → Outcome (Unit {0})
whole r j = reading (suc (length (left r))) r j
