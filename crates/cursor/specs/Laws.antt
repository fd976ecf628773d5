-- What is true of every cursor and of every drawing.
use Rattle.std.specs.Prelude.{◌≡◌, ◌*◌, ◌<◌, ◌≤◌, Bool, true, List, [], ◌∷◌, ◌++◌, map, length, is_some, None, Option}
use Rattle.std.specs.Option.{option_to_list}
use Rattle.maths.specs.Functions.{Functions}
use Rattle.path.specs.declared.command.Command.{Command}
use Rattle.segments.specs.Lists.{Each}
use Rattle.segments.specs.declared.segment.Segment.{Segment}
use Rattle.segments.specs.declared.segment.Segment.TheVariants.{Line, Curve, End}
use Rattle.cursor.specs.Machines.{Machine}
use Rattle.cursor.specs.Giving.{left, next_of}
use Rattle.cursor.specs.Drawings.{asks, gives, still, drawn_whole, given_by, Run, runs}

-- A call from the machine m with the commands cs left gave x and left m' and cs'.
pub record GivesHead (F : Functions) (m : Machine) (cs : List Command) (x : Option Segment) (m' : Machine) (cs' : List Command) : Type 0 where
  -- its questions and what it gave stand first, the rest is still to be given
  pub head : still F m cs ≡ map asks (next_of F m cs).asked ++ (map gives (option_to_list x) ++ still F m' cs')
  -- it gives nothing only where nothing is left
  pub last : x ≡ None → still F m' cs' ≡ []
  -- with each thing given less can come
  pub falls : is_some x ≡ true → left m' cs' < left m cs

-- 255 marks no segment
abbrev pub Marked : Segment → Type 0
Marked (Line i l) = i.mark < 255
Marked (Curve i k) = i.mark < 255
Marked (End closed) = Unit {0}

abbrev pub NoEnd : Segment → Type 0
NoEnd (Line i l) = Unit {0}
NoEnd (Curve i k) = Unit {0}
NoEnd (End closed) = ⊥

-- runs put together again, each end told by the run that it ended; the last run has none
abbrev pub together : List Run → List Segment
together [] = []
together (r ∷ []) = r.segments
together (r ∷ s ∷ rs) = r.segments ++ (End r.closed ∷ together (s ∷ rs))

-- What a new cursor gives for a list of commands.
pub record LawfulDrawing (F : Functions) (split : Bool) (cs : List Command) : Type 0 where
  -- at most 17 things for each command
  pub few : length (given_by (drawn_whole F split cs)) ≤ 17 * length cs
  pub marked : Each Marked (given_by (drawn_whole F split cs))
  -- the runs are it again, and no end stands inside one
  pub divided : together (runs (given_by (drawn_whole F split cs))) ≡ given_by (drawn_whole F split cs)
  pub without_ends : Each (λ (r : Run). Each NoEnd r.segments) (runs (given_by (drawn_whole F split cs)))
