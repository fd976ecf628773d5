-- The lines that list a job.
use Rattle.std.specs.Prelude.{ℕ, List, [], ◌∷◌, ◌++◌, map, length, take, Ok, Err, Result, Float}
use Rattle.path.specs.declared.command.Command.{Command}
use Rattle.path.specs.declared.refusal.Refusal.{Refusal}
use Rattle.path.specs.declared.style.Stroke.{Stroke}
use Rattle.job.specs.declared.item.Item.TheVariants.{Width, Join, MiterLimit, StartCap, EndCap, Offset, Dash, Path}
use Rattle.lists.specs.Lent.{items}
use Rattle.job.specs.declared.whole.Job.{Job}
use Rattle.job.specs.Sayings.{Said, said_by}
use Rattle.lines.specs.declared.line.PrintedLine.{PrintedLine}
use Rattle.lines.specs.declared.line.PrintedLine.TheVariants.{Item, Held, Refused}
use Rattle.lines.specs.Printing.{text_of}

abbrev pub style_lines : Stroke → List PrintedLine
style_lines s = Item (Width s.width) ∷ Item (Join s.join) ∷ Item (MiterLimit s.miter_limit)
    ∷ Item (StartCap s.start_cap) ∷ Item (EndCap s.end_cap) ∷ Item (Offset s.offset) ∷ []

abbrev pub dash_line : Float → PrintedLine
dash_line x = Item (Dash x)

abbrev pub command_line : Command → PrintedLine
command_line c = Item (Path c)

abbrev pub total : Said → PrintedLine
total j = Held (length j.commands) (length j.dashes)

-- the style, the dashes, the path, and how many there are
abbrev pub job_lines : Said → List PrintedLine
job_lines j =
    style_lines j.style ++ (map dash_line j.dashes ++ (map command_line j.commands ++ (total j ∷ [])))

abbrev pub refusal_lines : Refusal → List PrintedLine
refusal_lines r = Refused r ∷ []

abbrev pub lines_by : Result (Unit {0}) Refusal → List PrintedLine → List PrintedLine
lines_by (Ok x) lines = lines
lines_by (Err r) lines = refusal_lines r

-- a job that was accepted
abbrev pub accepted : Job → Said
accepted j = record { answer = Ok tt; style = j.style; commands = items j.commands; dashes = items j.dashes }

-- of a job that was read, by what is printed of one that was accepted
abbrev pub reported : (Said → List PrintedLine) → Said → List PrintedLine
reported lines j = lines_by j.answer (lines j)

-- what is printed where these bytes are read
abbrev pub listing_of : List ℕ → List ℕ
listing_of bytes = text_of (reported job_lines (said_by 512 32 (take 8192 bytes)))
