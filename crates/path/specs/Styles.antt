-- The numbers of joins and caps, and the style of a stroke for which nothing was said.
use Rattle.std.specs.Prelude.{ℕ, List, [], ◌∷◌, Option, Some, None, Result, Ok, Err, from_bits}
use Rattle.std.specs.Float.{binary32}
use Rattle.std.specs.List.{slice_get}
use Rattle.path.specs.declared.style.Stroke.{Stroke}
use Rattle.path.specs.declared.style.UnknownShape.{UnknownShape}
use Rattle.path.specs.declared.style.Join.{Join}
use Rattle.path.specs.declared.style.Join.TheVariants as join
use Rattle.path.specs.declared.style.Cap.{Cap}
use Rattle.path.specs.declared.style.Cap.TheVariants as cap-is

-- the joins and the caps in the order of their numbers
abbrev pub joins : List Join
joins = join.Bevel ∷ join.Miter ∷ join.Round ∷ []

abbrev pub caps : List Cap
caps = cap-is.Butt ∷ cap-is.Square ∷ cap-is.Round ∷ []

abbrev pub join_number : Join → ℕ
join_number join.Bevel = 0
join_number join.Miter = 1
join_number join.Round = 2

abbrev pub cap_number : Cap → ℕ
cap_number cap-is.Butt = 0
cap_number cap-is.Square = 1
cap_number cap-is.Round = 2

abbrev pub or_unknown : {X : Type 0} → Option X → ℕ → Result X UnknownShape
or_unknown (Some x) n = Ok x
or_unknown None n = Err (record { 0 = n })

-- the shape at a number, none past the end
abbrev pub shape_at : {X : Type 0} → List X → ℕ → Result X UnknownShape
shape_at shapes n = or_unknown (slice_get shapes n) n

-- width 1, miter joins up to 4, butt caps, offset 0
abbrev pub plain : Stroke
plain = record {
  width = from_bits binary32 0x3F80_0000;
  join = join.Miter;
  miter_limit = from_bits binary32 0x4080_0000;
  start_cap = cap-is.Butt;
  end_cap = cap-is.Butt;
  offset = from_bits binary32 0;
}
