-- What a job holds, and what an item adds to it.
use Rattle.std.specs.Prelude.{ℕ, Bool, true, if◌then◌else◌, ◌&&◌, List, [], ◌∷◌, length, Ok, Err, Result, nat_lt, Float}
use denote.Ref.{MutBor}
use Rattle.lists.specs.declared.lent.Lent.{Lent}
use Rattle.lists.specs.Lent.{items, empty, room, pushed}
use Rattle.path.specs.declared.command.Command.{Command}
use Rattle.path.specs.declared.refusal.Reason.{Reason}
use Rattle.path.specs.declared.refusal.Reason.TheVariants.{ListFull}
use Rattle.path.specs.declared.style.Stroke.{Stroke}
use Rattle.path.specs.Styles.{plain}
use Rattle.job.specs.declared.item.Item.{Item}
use Rattle.job.specs.declared.item.Item.TheVariants.{Width, Join, MiterLimit, StartCap, EndCap, Offset, Dash, Path}
use Rattle.job.specs.declared.whole.Job.{Job}

-- before anything is read
abbrev pub empty_job : MutBor (List Command) → MutBor (List Float) → Job
empty_job commands dashes = record { style = plain; commands = empty commands; dashes = empty dashes }

-- what an item says of a style; the later one wins
abbrev pub styled : Stroke → Item → Stroke
styled s (Width x) = record { width = x; join = s.join; miter_limit = s.miter_limit; start_cap = s.start_cap; end_cap = s.end_cap; offset = s.offset }
styled s (Join k) = record { width = s.width; join = k; miter_limit = s.miter_limit; start_cap = s.start_cap; end_cap = s.end_cap; offset = s.offset }
styled s (MiterLimit x) = record { width = s.width; join = s.join; miter_limit = x; start_cap = s.start_cap; end_cap = s.end_cap; offset = s.offset }
styled s (StartCap k) = record { width = s.width; join = s.join; miter_limit = s.miter_limit; start_cap = k; end_cap = s.end_cap; offset = s.offset }
styled s (EndCap k) = record { width = s.width; join = s.join; miter_limit = s.miter_limit; start_cap = s.start_cap; end_cap = k; offset = s.offset }
styled s (Offset x) = record { width = s.width; join = s.join; miter_limit = s.miter_limit; start_cap = s.start_cap; end_cap = s.end_cap; offset = x }
styled s (Dash x) = s
styled s (Path c) = s

-- what it adds to the path, and to the row of dashes
abbrev pub commands_of : Item → List Command
commands_of (Width x) = []
commands_of (Join k) = []
commands_of (MiterLimit x) = []
commands_of (StartCap k) = []
commands_of (EndCap k) = []
commands_of (Offset x) = []
commands_of (Dash x) = []
commands_of (Path c) = c ∷ []

abbrev pub dashes_of : Item → List Float
dashes_of (Width x) = []
dashes_of (Join k) = []
dashes_of (MiterLimit x) = []
dashes_of (StartCap k) = []
dashes_of (EndCap k) = []
dashes_of (Offset x) = []
dashes_of (Dash x) = x ∷ []
dashes_of (Path c) = []

-- whether a list that holds at most so many elements has a place for one more
abbrev pub has_place : {X : Type 0} → ℕ → Lent X → Bool
has_place most l = nat_lt (length (items l)) most && room l

-- and for each of a row
abbrev pub takes : {X : Type 0} → ℕ → Lent X → List X → Bool
takes most l [] = true
takes most l (x ∷ xs) = has_place most l && takes most (pushed l x) xs

-- a list with a row of elements more
abbrev pub pushed_all : {X : Type 0} → Lent X → List X → Lent X
pushed_all l [] = l
pushed_all l (x ∷ xs) = pushed_all (pushed l x) xs

-- a job holds at most 4,096 commands and 32 dashes
abbrev pub takes_item : Job → Item → Bool
takes_item j i = takes 4096 j.commands (commands_of i) && takes 32 j.dashes (dashes_of i)

-- a job with an item more
abbrev pub with_item : Job → Item → Job
with_item j i = record { style = styled j.style i; commands = pushed_all j.commands (commands_of i); dashes = pushed_all j.dashes (dashes_of i) }

-- an item is refused where its list takes no more, and nothing is altered then
abbrev pub list_answer : Bool → Result (Unit {0}) Reason
list_answer taken = if taken then Ok tt else Err ListFull

abbrev pub stored_answer : Job → Item → Result (Unit {0}) Reason
stored_answer j i = list_answer (takes_item j i)

abbrev pub stored_job : Job → Item → Job
stored_job j i = if takes_item j i then with_item j i else j
