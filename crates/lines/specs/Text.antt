-- What is printed of a job's items, line by line.
use Rattle.std.specs.Prelude.{ℕ, ◌/◌, ◌%◌, true, List, [], ◌∷◌, ◌++◌, map, codes, decimal, to_bits, Float}
use Rattle.std.specs.Float.{binary32}
use Rattle.std.specs.Fmt.{digit_glyph}
use Rattle.path.specs.declared.command.Command.{Command}
use Rattle.path.specs.Refusals.{number_of}
use Rattle.path.specs.Styles.{join_number, cap_number}
use Rattle.job.specs.declared.item.Item.{Item}
use Rattle.job.specs.declared.item.Item.TheVariants as item
use Rattle.job.specs.Spelling.{letter, letter_of, coordinates}
use Rattle.lines.specs.declared.line.PrintedLine.{PrintedLine}
use Rattle.lines.specs.declared.line.PrintedLine.TheVariants as line

-- the last hexadecimal digit
abbrev pub digit : ℕ → ℕ
digit n = digit_glyph true (n % 16)

-- eight hexadecimal digits, with capital letters
abbrev pub hex : ℕ → List ℕ
hex n = digit (n / 0x1000_0000) ∷ digit (n / 0x100_0000) ∷ digit (n / 0x10_0000) ∷ digit (n / 0x1_0000)
    ∷ digit (n / 0x1000) ∷ digit (n / 0x100) ∷ digit (n / 0x10) ∷ digit n ∷ []

abbrev pub bits : Float → List ℕ
bits x = hex (to_bits binary32 x)

-- words, each after a blank
abbrev pub spaced : List (List ℕ) → List ℕ
spaced [] = []
spaced (w ∷ ws) = 32 ∷ (w ++ spaced ws)

abbrev pub command_text : Command → List ℕ
command_text c = letter_of c ∷ spaced (map bits (coordinates c))

-- an item's letter and what follows it: numbers by their bits, a join or cap by its number
abbrev pub fields : Item → List (List ℕ)
fields (item.Width x) = bits x ∷ []
fields (item.Join j) = decimal (join_number j) ∷ []
fields (item.MiterLimit x) = bits x ∷ []
fields (item.StartCap k) = decimal (cap_number k) ∷ []
fields (item.EndCap k) = decimal (cap_number k) ∷ []
fields (item.Offset x) = bits x ∷ []
fields (item.Dash x) = bits x ∷ []
fields (item.Path c) = map bits (coordinates c)

abbrev pub item_text : Item → List ℕ
item_text i = letter i ∷ spaced (fields i)

abbrev pub line_text : PrintedLine → List ℕ
line_text (line.Item i) = item_text i
line_text (line.Held commands dashes) = codes "=" ++ spaced (decimal commands ∷ decimal dashes ∷ [])
line_text (line.Drawn sent steps) = codes "=" ++ spaced (decimal sent ∷ decimal steps ∷ [])
line_text (line.Refused r) = codes "!" ++ spaced (decimal (number_of r.reason) ∷ decimal r.place ∷ decimal r.sent ∷ [])
