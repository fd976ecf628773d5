-- Reading a tape's bytes as a job.
use Rattle.std.specs.Prelude.{◌≡◌, ℕ, ◌≤◌, min, List, [], map, length, drop, Ok, Option, Float}
use Rattle.std.specs.Borrow.{Bor}
use Rattle.std.specs.List.{slice_get}
use denote.Ref.{MutBor}
use Rattle.lists.specs.Lent.{items}
use Rattle.path.specs.declared.command.Command.{Command}
use Rattle.path.specs.Styles.{plain}
use Rattle.job.specs.declared.item.Item.TheVariants.{Path}
use Rattle.job.specs.declared.reader.JobReader.{JobReader}
use Rattle.job.specs.Readers.{start, left}
use Rattle.job.specs.Jobs.{empty_job}
use Rattle.job.specs.Laws.{AllFitting}
use Rattle.job.specs.Whole.{Outcome, whole}
use Rattle.job.specs.Decoding.{records}

-- the whole of it is accepted, with the default style, these commands and no dashes
pub record Accepted (cs : List Command) (o : Outcome (Unit {0})) : Type 0 where
  pub accepted : o.answer ≡ Ok tt
  pub style : o.job.style ≡ plain
  pub commands : items o.job.commands ≡ cs
  pub dashes : items o.job.dashes ≡ []

-- into lists with places enough
abbrev pub ReadsBack : List Command → Bor (List ℕ) → Type 0
ReadsBack cs bytes = (commands : MutBor (List Command)) (dashes : MutBor (List Float)) → length cs ≤ min 4096 (length commands.now)
    → Accepted cs (whole (start bytes) (empty_job commands dashes))

-- a reader that has these commands before it
pub record Before (r : JobReader) (cs : List Command) : Type 0 where
  pub spelled : left r ≡ records cs
  pub fitting : AllFitting (map Path cs)

-- the next of them is read
abbrev pub ReadsNext : JobReader → Option Command → JobReader → Type 0
ReadsNext r next after = (cs : List Command) → Before r cs → (next ≡ slice_get cs 0) × Before after (drop 1 cs)
