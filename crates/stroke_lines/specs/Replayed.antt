-- What the program `replay` prints of a setting.
use Rattle.std.specs.Prelude.{ℕ, List, [], ◌∷◌, ◌++◌, Ok, Err, Result}
use Rattle.maths.specs.Tables.{tabled}
use Rattle.maths.specs.ByteRows.{rows_in}
use Rattle.job.specs.Sayings.{Said, said_by}
use Rattle.lines.specs.declared.line.PrintedLine.{PrintedLine}
use Rattle.lines.specs.Listing.{reported}
use Rattle.lines.specs.Printing.{text_of}
use Rattle.stroke_lines.specs.declared.setting.Unfit.{Unfit}
use Rattle.stroke_lines.specs.Messages.{message}
use Rattle.stroke_lines.specs.Outlined.{stroked_job, lines_of}
use Rattle.stroke_lines.specs.Settings.{Setting, setting_of}

-- by the rows, with the setting's segments, places and budget
abbrev pub replayed_lines : Setting → Said → List PrintedLine
replayed_lines s j = lines_of (stroked_job (tabled (rows_in s.rows)) s.segments s.places s.budget j)

abbrev pub replayed_by : Result Setting Unfit → List ℕ
replayed_by (Ok s) = text_of (reported (replayed_lines s) (said_by 4096 32 s.job))
replayed_by (Err why) = message why ++ (10 ∷ [])

-- what is printed of these bytes
unfoldable pub replay_of : List ℕ → List ℕ
replay_of bytes = replayed_by (setting_of bytes)
