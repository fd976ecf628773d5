-- What a cursor gives next: it takes steps until one gives something, or until nothing is to come.
use Rattle.std.specs.Prelude.{ℕ, zero, suc, ◌+◌, ◌*◌, cond, List, ◌++◌, length, drop, Some, None, Option}
use Rattle.maths.specs.Functions.{Functions}
use Rattle.path.specs.declared.command.Command.{Command}
use Rattle.segments.specs.declared.segment.Segment.{Segment}
use Rattle.cursor.specs.Machines.{Machine, Step, turn, quietly, step}

-- More than the steps that can still be taken: each takes one of the pieces to come, the end to come, or a command, which adds at most 16 pieces.
abbrev pub left : Machine → List Command → ℕ
left m cs = 17 * length cs + (length m.pending + cond m.closing 1 0)

-- one step, and what follows it
abbrev pub followed : Step → Step → Step
followed x y = record { made = y.made; taken = x.taken + y.taken; asked = x.asked ++ y.asked }

-- the first alone where it gave something
abbrev pub until_given : Option Segment → Step → Step → Step
until_given (Some s) x y = x
until_given None x y = followed x y

-- at most so many steps
unfoldable pub steps : ℕ → Functions → Machine → List Command → Step
steps zero F m cs = quietly (turn None m)
steps (suc n) F m cs = let x = step F m cs in until_given x.made.gave x (steps n F x.made.after (drop x.taken cs))

abbrev pub next_of : Functions → Machine → List Command → Step
next_of F m cs = steps (left m cs) F m cs
