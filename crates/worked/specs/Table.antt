-- What comes of the worked strokes. Rows are told in whole coordinates; negsuc 0 is -1.
use Rattle.std.specs.Prelude.{◌≡◌, ℕ, ℤ, pos, negsuc, true, false, List, [], ◌∷◌, ◌++◌, from_bits, Float}
use Rattle.std.specs.Float.{binary32}
use Rattle.numbers.specs.Arithmetic.{◌⊕◌, ◌⊗◌, zero, one}
use Rattle.path.specs.declared.command.Command.{Command}
use Rattle.path.specs.declared.command.Command.TheVariants.{Close}
use Rattle.dashes.specs.declared.dasher.Range.{Range}
use Rattle.curves.specs.Curves.{half}
use Rattle.curves.specs.Roots.{sorted, distinct}
use Rattle.worked.specs.declared.Worked.TheVariants.{Line, DashedLine, DashedSquare, SquareDot, ButtDot, Corner, GapFirst, DashFirst, EmptyGap, ShortGap, ShortAlone, OneAlone}
use Rattle.worked.specs.Inputs.{whole, from, to}
use Rattle.worked.specs.Outcomes.{done, spent, bar, Leaves, Strokes, Comes, Takes, range, Dashed, Plain}

-- ---- longer rows

abbrev pub two_bars : List Command
two_bars = bar (pos 0) (pos 4) ++ bar (pos 8) (pos 12)

abbrev pub four_bars : List Command
four_bars = bar (pos 0) (pos 1) ++ (bar (pos 2) (pos 3) ++ (bar (pos 4) (pos 5) ++ bar (pos 6) (pos 7)))

-- along two lines, from (0, 0) to (8, 0) and up to (8, y)
abbrev pub first_corner : ℕ → List Command
first_corner y =
    from (pos 0) (negsuc 0) ∷ to (pos 8) (negsuc 0) ∷ to (pos 9) (pos 0) ∷ to (pos 9) (pos y)
    ∷ to (pos 7) (pos y) ∷ to (pos 7) (pos 0) ∷ to (pos 8) (pos 0) ∷ to (pos 8) (pos 1) ∷ to (pos 0) (pos 1)
    ∷ to (pos 0) (negsuc 0) ∷ Close ∷ []

-- from (8, 8) to (0, 8) and down to (0, 4)
abbrev pub last_corner : List Command
last_corner =
    from (pos 8) (pos 9) ∷ to (pos 0) (pos 9) ∷ to (negsuc 0) (pos 8) ∷ to (negsuc 0) (pos 4)
    ∷ to (pos 1) (pos 4) ∷ to (pos 1) (pos 8) ∷ to (pos 0) (pos 8) ∷ to (pos 0) (pos 7) ∷ to (pos 8) (pos 7)
    ∷ to (pos 8) (pos 9) ∷ Close ∷ []

-- two square caps around (0, 0), and no close
abbrev pub dot : List Command
dot =
    from (pos 0) (pos 1) ∷ to (negsuc 0) (pos 1) ∷ to (negsuc 0) (negsuc 0) ∷ to (pos 0) (negsuc 0)
    ∷ to (pos 1) (negsuc 0) ∷ to (pos 1) (pos 1) ∷ to (pos 0) (pos 1) ∷ []

-- a contour without extent
abbrev pub flat_dot : List Command
flat_dot = from (pos 0) (pos 0) ∷ to (pos 0) (pos 0) ∷ to (pos 0) (pos 0) ∷ to (pos 0) (pos 0) ∷ Close ∷ []

-- ---- roots in order

-- those of three roots that are kept
abbrev pub kept : Float → Float → Float → List Float
kept x y z = (distinct (sorted (x ∷ y ∷ z ∷ []))).items

-- ---- the table

pub record Table : Type 0 where
  pub line : Strokes Line (done 6 0) (bar (pos 0) (pos 8))
  -- with a budget of 5 the sixth step is refused, after both dashes
  pub dashed_line : Strokes DashedLine (done 12 6) two_bars × Leaves DashedLine 5 (spent 12) two_bars
  -- the second dash begins on the last side and goes on over the start
  pub dashed_square : Strokes DashedSquare (done 22 6) (last_corner ++ first_corner 4)
  pub square_dot : Strokes SquareDot (done 7 0) dot
  pub butt_dot : Strokes ButtDot (done 5 0) flat_dot
  pub corner : Strokes Corner (done 11 0) (first_corner 8)
  -- 8 before its start a pattern of 8 begins with an empty gap, 8 into it with the first dash
  pub offsets : Dashed GapFirst false zero (done 12 8) two_bars × Dashed DashFirst true (whole (pos 4)) (done 12 6) two_bars
  -- the first dash goes on over the gap of 0
  pub empty_gap : Dashed EmptyGap true (whole (pos 7)) (done 12 4) (bar (pos 0) (pos 7) ++ bar (pos 9) (pos 16))
  -- 2 and 0.5 make no pattern, nor does 0.5 alone; 1 alone is dash and gap
  pub short : Plain ShortGap (bar (pos 0) (pos 8)) × Plain ShortAlone (bar (pos 0) (pos 8)) × Dashed OneAlone true one (done 24 10) four_bars
  -- of two equal roots one is kept, and where the first two are equal the third is dropped too
  pub roots : (kept zero zero half ≡ zero ∷ []) × (kept zero half half ≡ zero ∷ half ∷ [])

-- ---- by their runs

abbrev pub quarter : Float
quarter = half ⊗ half

-- on the one segment of a line
abbrev pub on_line : Float → Float → ℕ × Range
on_line t0 t1 = (1, range (pos 0) (pos 0) t0 t1)

abbrev pub on_square : ℤ → ℤ → Float → Float → ℕ × Range
on_square first last t0 t1 = (4, range first last t0 t1)

pub record ByRuns : Type 0 where
  pub line : Comes Line (bar (pos 0) (pos 8)) 0 []
  -- the third dash is a point between two butt caps
  pub dashed_line : Comes DashedLine two_bars 6 (on_line zero quarter ∷ on_line half (half ⊕ quarter) ∷ on_line one one ∷ [])
  pub dashed_square : Comes DashedSquare (last_corner ++ first_corner 4) 6 (on_square (pos 2) (pos 3) zero half ∷ on_square (negsuc 0) (pos 1) one half ∷ [])
  -- a dash that waits, a gap, a dash, a gap, the dash over the start, and a last call where the run is over
  pub square_taken : Takes DashedSquare
      (on_square (pos 0) (pos 1) zero half ∷ on_square (pos 1) (pos 1) half one ∷ on_square (pos 2) (pos 3) zero half ∷ on_square (pos 3) (pos 3) half one
      ∷ on_square (negsuc 0) (pos 1) one half ∷ on_square (pos 1) (pos 1) half half ∷ [])
  pub square_dot : Comes SquareDot dot 0 []
  pub corner : Comes Corner (first_corner 8) 0 []
  pub empty_gap : Comes EmptyGap (bar (pos 0) (pos 7) ++ bar (pos 9) (pos 16)) 4 (on_line zero (from_bits binary32 0x3EE0_0000) ∷ on_line (from_bits binary32 0x3F10_0000) one ∷ [])
