-- What is printed where bytes tell no replay.
use Rattle.std.specs.Prelude.{ℕ, List, codes}
use Rattle.stroke_lines.specs.declared.setting.Unfit.{Unfit}
use Rattle.stroke_lines.specs.declared.setting.Unfit.TheVariants.{ShortHeader, TooManySegments, TooManyPlaces, TooManyRows, ShortRows, LongJob}

abbrev pub message : Unfit → List ℕ
message ShortHeader = codes "! the four numbers are cut short"
message TooManySegments = codes "! more than 70000 segments"
message TooManyPlaces = codes "! more than 1048576 places"
message TooManyRows = codes "! more than 65536 rows"
message ShortRows = codes "! the rows are cut short"
message LongJob = codes "! the job is longer than 131072 bytes"
