-- What a job's bytes say, read into lists of so many places.
use Rattle.std.specs.Prelude.{◌≡◌, ℕ, suc, ◌<◌, List, length, Result, replicate, nat_lt, Float}
use Rattle.std.specs.Float.{float_zero}
use denote.Ref.{MutBor}
use Rattle.lists.specs.Lent.{items}
use Rattle.path.specs.declared.command.Command.{Command}
use Rattle.path.specs.declared.command.Command.TheVariants.{Close}
use Rattle.path.specs.declared.refusal.Refusal.{Refusal}
use Rattle.path.specs.declared.style.Stroke.{Stroke}
use Rattle.job.specs.Readers.{start}
use Rattle.job.specs.Jobs.{empty_job}
use Rattle.job.specs.Whole.{Outcome, whole}

-- the answer, and the job's style and lists
pub record Said : Type 0 where
  pub answer : Result (Unit {0}) Refusal
  pub style : Stroke
  pub commands : List Command
  pub dashes : List Float

abbrev pub said : Outcome (Unit {0}) → Said
said o = record { answer = o.answer; style = o.job.style; commands = items o.job.commands; dashes = items o.job.dashes }

-- places for n elements, anywhere and with anything in them
abbrev pub places : {X : Type 0} → ℕ → X → MutBor (List X)
places n x = record { ref_ptr = (0, 0); ghost_name = 0; now = replicate n x }

unfoldable pub said_by : ℕ → ℕ → List ℕ → Said
said_by commands dashes bytes = said (whole (start (record { ref_ptr = (0, 0); now = bytes })) (empty_job (places commands Close) (places dashes float_zero)))

-- so many places take as many elements as so many others, of those that the bytes can give: each takes a byte at least
abbrev pub AsMany : List ℕ → ℕ → ℕ → Type 0
AsMany bytes m n = (i : ℕ) → i < suc (length bytes) → nat_lt i m ≡ nat_lt i n
