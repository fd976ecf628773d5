-- The commands that a row of bytes spells.
use Rattle.std.specs.Prelude.{◌≡◌, ℕ, zero, suc, List, [], ◌∷◌, map, length, drop, Some, None, Ok, Err, Option, Result}
use Rattle.std.specs.List.{flat_map}
use Rattle.path.specs.declared.command.Command.{Command}
use Rattle.path.specs.declared.refusal.Reason.{Reason}
use Rattle.job.specs.declared.item.Item.{Item}
use Rattle.job.specs.declared.item.Item.TheVariants.{Width, Join, MiterLimit, StartCap, EndCap, Offset, Dash, Path}
use Rattle.job.specs.Spelling.{spelled}
use Rattle.job.specs.Reading.{first}
use Rattle.job.specs.Laws.{AllFitting}

-- the commands' records, one after another
abbrev pub records : List Command → List ℕ
records cs = flat_map spelled (map Path cs)

-- an item of the path
abbrev pub command_of : Item → Option Command
command_of (Width x) = None
command_of (Join j) = None
command_of (MiterLimit x) = None
command_of (StartCap k) = None
command_of (EndCap k) = None
command_of (Offset x) = None
command_of (Dash x) = None
command_of (Path c) = Some c

-- at what is no command the list ends
abbrev pub first_of : Option Command → List Command → List Command
first_of None rest = []
first_of (Some c) rest = c ∷ rest

abbrev pub found_then : Result (Option (Item × ℕ)) Reason → (ℕ → List Command) → List Command
found_then (Ok None) rest = []
found_then (Ok (Some x)) rest = first_of (command_of x.0) (rest x.1)
found_then (Err e) rest = []

-- n commands at most
unfoldable pub decoded : ℕ → List ℕ → List Command
decoded zero bytes = []
decoded (suc n) bytes = found_then (first bytes) (λ size. decoded n (drop size bytes))

abbrev pub commands_in : List ℕ → List Command
commands_in bytes = decoded (length bytes) bytes

-- the bytes are records and nothing else, of numbers of f32
pub record Spells (bytes : List ℕ) : Type 0 where
  pub whole : bytes ≡ records (commands_in bytes)
  pub fitting : AllFitting (map Path (commands_in bytes))
