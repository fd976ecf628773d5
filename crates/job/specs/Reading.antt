-- How the first item of a row of bytes is read: its letter tells what follows.
use Rattle.std.specs.Prelude.{ℕ, ◌+◌, ◌*◌, ◌≤◌, if◌then◌else◌, List, [], ◌∷◌, map, length, Some, None, Ok, Err, Option, Result, ◌==◌, from_bits, nat_le, slice_index, Float}
use Rattle.std.specs.Float.{binary32}
use Rattle.std.specs.Option.{option_map}
use Rattle.std.specs.List.{slice_get}
use Rattle.path.specs.declared.geometry.Vector.{Vector}
use Rattle.path.specs.declared.command.Command.TheVariants.{MoveTo, LineTo, CurveTo, QuadTo, Close}
use Rattle.path.specs.declared.refusal.Reason.{Reason}
use Rattle.path.specs.declared.refusal.Reason.TheVariants.{UnknownLetter, MissingOperands, UnknownShape}
use Rattle.path.specs.Styles.{joins, caps}
use Rattle.job.specs.declared.item.Item.{Item}
use Rattle.job.specs.declared.item.Item.TheVariants.{Width, Join, MiterLimit, StartCap, EndCap, Offset, Dash, Path}

-- what follows a letter, and the item that it makes: a number, a byte that picks one of a few items, points, or nothing
pub data Shape : Type 0 where
  number : (Float → Item) → Shape
  choice : List Item → Shape
  one_point : (Vector → Item) → Shape
  two_points : (Vector → Vector → Item) → Shape
  three_points : (Vector → Vector → Vector → Item) → Shape
  nothing : Item → Shape

-- in bytes
abbrev pub size : Shape → ℕ
size (number f) = 4
size (choice is) = 1
size (one_point f) = 8
size (two_points f) = 16
size (three_points f) = 24
size (nothing i) = 0

-- each letter of the format
abbrev pub table : List (ℕ × Shape)
table =
    (87, number Width)  -- W
    ∷ (74, choice (map Join joins))  -- J
    ∷ (73, number MiterLimit)  -- I
    ∷ (83, choice (map StartCap caps))  -- S
    ∷ (69, choice (map EndCap caps))  -- E
    ∷ (79, number Offset)  -- O
    ∷ (68, number Dash)  -- D
    ∷ (77, one_point (λ p. Path (MoveTo p)))  -- M
    ∷ (76, one_point (λ p. Path (LineTo p)))  -- L
    ∷ (67, three_points (λ a b p. Path (CurveTo a b p)))  -- C
    ∷ (81, two_points (λ a p. Path (QuadTo a p)))  -- Q
    ∷ (90, nothing (Path Close))  -- Z
    ∷ []

abbrev pub entry : List (ℕ × Shape) → ℕ → Option Shape
entry [] c = None
entry (row ∷ rows) c = if c == row.0 then Some row.1 else entry rows c

abbrev pub shape : ℕ → Option Shape
shape = entry table

-- the number whose four bytes stand at a place, high byte first
abbrev pub float_at : List ℕ → ℕ → Float
float_at bytes i = from_bits binary32 (slice_index bytes i * 16777216 + slice_index bytes (i + 1) * 65536 + slice_index bytes (i + 2) * 256 + slice_index bytes (i + 3))

abbrev pub point_at : List ℕ → ℕ → Vector
point_at bytes i = record { x = float_at bytes i; y = float_at bytes (i + 4) }

-- the item that the operands make, none where their byte picks none
abbrev pub made : Shape → List ℕ → Option Item
made (number f) bytes = Some (f (float_at bytes 0))
made (choice is) bytes = slice_get is (slice_index bytes 0)
made (one_point f) bytes = Some (f (point_at bytes 0))
made (two_points f) bytes = Some (f (point_at bytes 0) (point_at bytes 8))
made (three_points f) bytes = Some (f (point_at bytes 0) (point_at bytes 8) (point_at bytes 16))
made (nothing i) bytes = Some i

abbrev pub made_by : Option Shape → List ℕ → Option Item
made_by None bytes = None
made_by (Some s) bytes = made s bytes

-- what a letter says: how many bytes follow it, and the item that they make with it
abbrev pub width_of : ℕ → Option ℕ
width_of c = option_map size (shape c)

abbrev pub item_of : ℕ → List ℕ → Option Item
item_of c bytes = made_by (shape c) bytes

-- an item with the number of its bytes, its letter among them
abbrev pub taken : Option Item → ℕ → Result (Item × ℕ) Reason
taken None n = Err UnknownShape
taken (Some i) n = Ok (i, n)

-- asked in this order: whether the letter is known, its operands are all there, and their byte picks an item
abbrev pub asked : Option ℕ → List ℕ → Option Item → Result (Item × ℕ) Reason
asked None bytes i = Err UnknownLetter
asked (Some n) bytes i = if nat_le n (length bytes) then taken i (1 + n) else Err MissingOperands

abbrev pub read : ℕ → List ℕ → Result (Item × ℕ) Reason
read c bytes = asked (width_of c) bytes (item_of c bytes)

abbrev pub found : Result (Item × ℕ) Reason → Result (Option (Item × ℕ)) Reason
found (Ok x) = Ok (Some x)
found (Err e) = Err e

-- the first item, none where no byte is left
abbrev pub first : List ℕ → Result (Option (Item × ℕ)) Reason
first [] = Ok None
first (c ∷ bytes) = found (read c bytes)

-- an item at a place in a row of n bytes has its letter at least, and ends where the row does or before
abbrev pub Within : ℕ → ℕ → Result (Option (Item × ℕ)) Reason → Type 0
Within place n (Ok None) = Unit {0}
Within place n (Ok (Some x)) = (1 ≤ x.1) × (place + x.1 ≤ n)
Within place n (Err e) = Unit {0}
