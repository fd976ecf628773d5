-- What a replay is told, in bytes: four numbers, the rows of a table, and a job.
use Rattle.std.specs.Prelude.{ℕ, ◌*◌, cond, List, take, drop, length, Ok, Err, Result, nat_lt}
use Rattle.maths.specs.ByteRows.{word_at}
use Rattle.stroke_lines.specs.declared.setting.Unfit.{Unfit}
use Rattle.stroke_lines.specs.declared.setting.Unfit.TheVariants.{ShortHeader, TooManySegments, TooManyPlaces, TooManyRows, ShortRows, LongJob}
use Rattle.stroke_lines.specs.declared.setting.Setting.{Setting as SettingHere}

-- the segments that the storage can hold, the places of the list, the step budget, and the bytes of the rows and of the job
pub record Setting : Type 0 where
  pub segments : ℕ
  pub places : ℕ
  pub budget : ℕ
  pub rows : List ℕ
  pub job : List ℕ

abbrev pub values : SettingHere → Setting
values s = record { segments = s.segments; places = s.places; budget = s.budget; rows = s.rows.now; job = s.job.now }

abbrev pub values_of : Result SettingHere Unfit → Result Setting Unfit
values_of (Ok s) = Ok (values s)
values_of (Err why) = Err why

abbrev pub or_unfit : {X : Type 0} → Unfit → ℕ → ℕ → Result X Unfit → Result X Unfit
or_unfit why most n next = cond (nat_lt most n) (Err why) next

-- after the four numbers
unfoldable pub setting_after : ℕ → ℕ → ℕ → ℕ → List ℕ → Result Setting Unfit
setting_after segments places budget rows b =
    or_unfit TooManySegments 70000 segments
    (or_unfit TooManyPlaces 1048576 places
    (or_unfit TooManyRows 65536 rows
    (or_unfit ShortRows (length b) (9 * rows)
    (or_unfit LongJob 131072 (length (drop (9 * rows) b))
    (Ok (record { segments = segments; places = places; budget = budget; rows = take (9 * rows) b; job = drop (9 * rows) b }))))))

abbrev pub setting_of : List ℕ → Result Setting Unfit
setting_of b = cond (nat_lt (length b) 16) (Err ShortHeader) (setting_after (word_at b 0) (word_at b 4) (word_at b 8) (word_at b 12) (drop 16 b))
