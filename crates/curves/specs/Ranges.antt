-- What every cubic's roots are: one to three, each NaN or from 0 to 1; without NaN they rise.
use Rattle.std.specs.Prelude.{◌≤◌, ◌&&◌, ◌||◌, T, List, ◌++◌, length, is_nan, slice_index_or, All, AllPairs, Float}
use Rattle.std.specs.Float.{nan, NotNan, ◌<ᶠ◌}
use Rattle.std.specs.Float.Ieee.{le}
use Rattle.numbers.specs.Arithmetic.{zero, one}
use Rattle.curves.specs.Lines.{FromZeroToOne}
use Rattle.lists.specs.Fixed.{Places}

abbrev pub Within : Float → Type 0
Within t = T (is_nan t || (le zero t && le t one))

-- the roots, and what the places after them hold
abbrev pub all_places : Places Float → List Float
all_places r = r.items ++ r.spare

pub record RootsWithin (r : Places Float) : Type 0 where
  pub some : 1 ≤ length r.items
  pub few : length r.items ≤ 3
  pub first : Within (slice_index_or (all_places r) 0 nan)
  pub second : Within (slice_index_or (all_places r) 1 nan)
  pub third : Within (slice_index_or (all_places r) 2 nan)

-- Where no root is NaN, each is below all later ones and lies from 0 to 1.
abbrev pub RootsRise : Places Float → Type 0
RootsRise r = All NotNan r.items → AllPairs ◌<ᶠ◌ r.items × All FromZeroToOne r.items
