-- How an item of a job is spelled: its letter, then its operands. Numbers are written by their bits, high byte first.
use Rattle.std.specs.Prelude.{ℕ, ◌/◌, ◌%◌, T, List, [], ◌∷◌, ◌++◌, Float}
use Rattle.std.specs.Float.{binary32}
use Rattle.std.specs.Float.Ieee.{fits, to_bits}
use Rattle.path.specs.declared.command.Command.{Command}
use Rattle.path.specs.declared.command.Command.TheVariants.{MoveTo, LineTo, CurveTo, QuadTo, Close}
use Rattle.path.specs.Styles.{join_number, cap_number}
use Rattle.job.specs.declared.item.Item.{Item}
use Rattle.job.specs.declared.item.Item.TheVariants as item

abbrev pub letter_of : Command → ℕ
letter_of (MoveTo p) = 77  -- M
letter_of (LineTo p) = 76  -- L
letter_of (CurveTo a b p) = 67  -- C
letter_of (QuadTo a p) = 81  -- Q
letter_of Close = 90  -- Z

abbrev pub letter : Item → ℕ
letter (item.Width x) = 87  -- W
letter (item.Join j) = 74  -- J
letter (item.MiterLimit x) = 73  -- I
letter (item.StartCap k) = 83  -- S
letter (item.EndCap k) = 69  -- E
letter (item.Offset x) = 79  -- O
letter (item.Dash x) = 68  -- D
letter (item.Path c) = letter_of c

-- four bytes, high byte first
abbrev pub word : ℕ → List ℕ
word n = (n / 16777216 % 256) ∷ (n / 65536 % 256) ∷ (n / 256 % 256) ∷ (n % 256) ∷ []

abbrev pub float : Float → List ℕ
float x = word (to_bits binary32 x)

abbrev pub floats : List Float → List ℕ
floats [] = []
floats (x ∷ xs) = float x ++ floats xs

-- the coordinates of a command's points, in order
abbrev pub coordinates : Command → List Float
coordinates (MoveTo p) = p.x ∷ p.y ∷ []
coordinates (LineTo p) = p.x ∷ p.y ∷ []
coordinates (CurveTo a b p) = a.x ∷ a.y ∷ b.x ∷ b.y ∷ p.x ∷ p.y ∷ []
coordinates (QuadTo a p) = a.x ∷ a.y ∷ p.x ∷ p.y ∷ []
coordinates Close = []

abbrev pub operands : Item → List ℕ
operands (item.Width x) = float x
operands (item.Join j) = join_number j ∷ []
operands (item.MiterLimit x) = float x
operands (item.StartCap k) = cap_number k ∷ []
operands (item.EndCap k) = cap_number k ∷ []
operands (item.Offset x) = float x
operands (item.Dash x) = float x
operands (item.Path c) = floats (coordinates c)

abbrev pub spelled : Item → List ℕ
spelled i = letter i ∷ operands i

-- the numbers of an item are of f32
abbrev pub AllFit : List Float → Type 0
AllFit [] = Unit {0}
AllFit (x ∷ xs) = T (fits binary32 x) × AllFit xs

abbrev pub Fitting : Item → Type 0
Fitting (item.Width x) = T (fits binary32 x)
Fitting (item.Join j) = Unit {0}
Fitting (item.MiterLimit x) = T (fits binary32 x)
Fitting (item.StartCap k) = Unit {0}
Fitting (item.EndCap k) = Unit {0}
Fitting (item.Offset x) = T (fits binary32 x)
Fitting (item.Dash x) = T (fits binary32 x)
Fitting (item.Path c) = AllFit (coordinates c)
