-- The lines of a stroke: the commands that a list holds, and the answer.
use Rattle.std.specs.Prelude.{List, [], ◌∷◌, ◌++◌, map, Ok, Err, Result}
use Rattle.path.specs.declared.command.Command.{Command}
use Rattle.path.specs.declared.refusal.Refusal.{Refusal}
use Rattle.lines.specs.declared.line.PrintedLine.{PrintedLine}
use Rattle.lines.specs.declared.line.PrintedLine.TheVariants.{Drawn, Refused}
use Rattle.lines.specs.Listing.{command_line}
use Rattle.stroke.specs.declared.tally.Tally.{Tally}

abbrev pub answer_line : Result Tally Refusal → PrintedLine
answer_line (Ok t) = Drawn t.sent t.steps
answer_line (Err r) = Refused r

abbrev pub drawn_lines : List Command → Result Tally Refusal → List PrintedLine
drawn_lines cs answer = map command_line cs ++ (answer_line answer ∷ [])
