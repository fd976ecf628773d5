-- The functions that a table of rows gives.
use Rattle.std.specs.Prelude.{Bool, if◌then◌else◌, ◌&&◌, Option, Some, None, List, [], ◌∷◌, ◌==◌, from_bits, to_bits, Float}
use Rattle.std.specs.Float.{nan, binary32}
use Rattle.maths.specs.declared.host.Function.{Function}
use Rattle.maths.specs.declared.host.Function.TheVariants.{Sine, Cosine, ArcCosine, Tangent, Power}
use Rattle.maths.specs.declared.table.Row.{Row}
use Rattle.maths.specs.declared.table.Rows.{Rows}
use Rattle.maths.specs.declared.table.Rows.TheVariants.{Listed, Spelled}
use Rattle.maths.specs.ByteRows.{rows_in}
use Rattle.maths.specs.Functions.{Functions, gathered, restricted, numbered, in_range}

-- A row is of the function and argument asked: bits that stand for the same number, 0 and -0 apart, every NaN pattern for the one NaN.
abbrev pub matches : Row → Function → Float → Bool
matches r f x = r.function == numbered f && to_bits binary32 (from_bits binary32 r.argument) == to_bits binary32 x

-- an arc cosine out of its range is NaN
abbrev pub lawful : Function → Float → Float
lawful Sine y = y
lawful Cosine y = y
lawful ArcCosine y = if in_range y then y else nan
lawful Tangent y = y
lawful Power y = y

abbrev pub answer_of : Row → Function → Float
answer_of r f = lawful f (from_bits binary32 r.answer)

-- what a row that was found answers, and NaN where none was
abbrev pub answered : Function → Option Row → Float
answered f None = nan
answered f (Some r) = answer_of r f

-- the first row that matches answers, and NaN where none does
abbrev pub looked_up : List Row → Function → Float → Float
looked_up [] f x = nan
looked_up (r ∷ rs) f x = if matches r f x then answer_of r f else looked_up rs f x

abbrev pub by_rows : List Row → Functions
by_rows rs = gathered (looked_up rs)

-- the rows of a table, wherever they lie
abbrev pub rows_of : Rows → List Row
rows_of (Listed rows) = rows.now
rows_of (Spelled bytes) = rows_in bytes.now

-- asked at f32 alone
abbrev pub tabled : List Row → Functions
tabled rs = restricted (by_rows rs)
