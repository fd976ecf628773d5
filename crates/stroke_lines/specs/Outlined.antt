-- What the program `outline` prints of a job.
use Rattle.std.specs.Prelude.{ℕ, List, [], take}
use Rattle.maths.specs.Functions.{restricted, Functions, no_host}
use Rattle.maths.specs.Series.{series}
use Rattle.sinks.specs.Meaning.{Meaning, meaning_acts}
use Rattle.sinks.specs.Records.{with_places}
use Rattle.storage.specs.Meaning.{held_acts, Held, empty_held}
use Rattle.job.specs.Sayings.{Said, said_by}
use Rattle.lines.specs.declared.line.PrintedLine.{PrintedLine}
use Rattle.lines.specs.Listing.{reported}
use Rattle.lines.specs.Printing.{text_of}
use Rattle.dashes.specs.StepCounts.{most_steps}
use Rattle.stroke.specs.Outcomes.{Outcome as Stroked, request, stroked}
use Rattle.stroke_lines.specs.Drawn.{drawn_lines}

-- an empty list of so many places
abbrev pub empty_list : ℕ → Meaning
empty_list places = with_places places []

-- a job stroked by five functions into so many places
abbrev pub stroked_job : Functions → ℕ → ℕ → ℕ → Said → Stroked Meaning Held (Unit {0})
stroked_job F segments places budget j =
    stroked meaning_acts held_acts (no_host F) (request j.commands j.style j.dashes budget) (empty_list places) (empty_held segments) tt

abbrev pub lines_of : Stroked Meaning Held (Unit {0}) → List PrintedLine
lines_of x = drawn_lines x.sink.list x.answer

-- by the series host, with 128 segments, 1,024 places and the greatest budget
abbrev pub stroked_lines : Said → List PrintedLine
stroked_lines j = lines_of (stroked_job (restricted series) 128 1024 most_steps j)

-- what is printed where these bytes are read
unfoldable pub outline_of : List ℕ → List ℕ
outline_of bytes = text_of (reported stroked_lines (said_by 512 32 (take 8192 bytes)))
