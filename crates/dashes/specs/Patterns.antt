-- Which lengths make a pattern, and where in it a run begins.
use Rattle.std.specs.Prelude.{◌≡◌, ℕ, zero as zeroⁿ, suc, ◌+◌, ◌%◌, ◌<◌, Bool, true, false, cond, not, ◌&&◌, ◌||◌, List, [], ◌∷◌, fold, length, slice_index_or, nat_eq, nat_le, from_bits, Some, None, Option, Float}
use Rattle.std.specs.Float.{binary32, nan, float_with_sign}
use Rattle.std.specs.Float.Ieee.{lt, le, eq, rem}
use Rattle.numbers.specs.Arithmetic.{◌⊕◌, ◌⊖◌, ◌⊗◌, zero, one}

-- What a pattern is: lengths, dash and gap in turn, how far into them a run begins, and whether gaps may be empty.
pub record Dashes : Type 0 where
  pub lengths : List Float
  pub offset : Float
  pub empty_gaps : Bool

-- whether some length passes a test
abbrev pub some : (Float → Bool) → List Float → Bool
some test [] = false
some test (x ∷ xs) = test x || some test xs

abbrev pub negative : Float → Bool
negative x = lt x zero

-- not less than 1; a NaN is that too
abbrev pub full : Float → Bool
full x = not (lt x one)

-- a sum with a length, where that is a gap of at least 1
abbrev pub with_gap : Float → Bool → Float → Float
with_gap sum gap x = cond (gap && full x) (sum ⊕ x) sum

-- the gaps of at least 1, added up from left to right; gap says whether the first length is one
abbrev pub gap_sum : Bool → Float → List Float → Float
gap_sum gap sum [] = sum
gap_sum gap sum (x ∷ xs) = gap_sum (not gap) (with_gap sum gap x) xs

-- a length of 0 in a gap's place; where the number of lengths is odd, each place is a gap's in turn
abbrev pub is_empty_gap : Bool → Bool → Float → Bool
is_empty_gap odd gap x = (gap || odd) && eq x zero

-- whether there is one
abbrev pub empty_gap : Bool → Bool → List Float → Bool
empty_gap odd gap [] = false
empty_gap odd gap (x ∷ xs) = is_empty_gap odd gap x || empty_gap odd (not gap) xs

abbrev pub odd_number : List Float → Bool
odd_number xs = nat_eq (length xs % 2) 1

-- one length alone is dash and gap
abbrev pub has_gap : List Float → Bool
has_gap xs = nat_eq (length xs) 1 || lt zero (gap_sum false zero xs)

-- 1 to 32 lengths, none below 0, one of at least 1, and gaps of at least 1
abbrev pub accepted : List Float → Bool
accepted xs = nat_le (length xs) 32 && (not (some negative xs) && (some full xs && has_gap xs))

-- how long it is before it repeats
abbrev pub total : List Float → Float
total xs = cond (odd_number xs) (fold (λ sum x. sum ⊕ x) zero xs ⊗ from_bits binary32 0x4000_0000) (fold (λ sum x. sum ⊕ x) zero xs)

abbrev pub size : Float → Float
size x = float_with_sign false x

abbrev pub rest : Float → Float → Float
rest x y = rem binary32 x y

-- the offset without whole repeats; one below 0 counts from the end
abbrev pub offset_within : List Float → Float → Float
offset_within xs offset = cond (eq offset zero) zero (cond (lt offset zero) (total xs ⊖ rest (size offset) (total xs)) (rest offset (total xs)))

abbrev pub pattern_of : List Float → Float → Option Dashes
pattern_of xs offset = cond (accepted xs) (Some (record { lengths = xs; offset = offset_within xs offset; empty_gaps = empty_gap (odd_number xs) false xs })) None

-- ---- one length after another

-- a dash or a gap, and the place of the length after it
pub record Taken : Type 0 where
  pub len : Float
  pub next : ℕ

-- the place after a place, and after the last one the first
abbrev pub following : List Float → ℕ → ℕ
following xs i = (i % length xs + 1) % length xs

abbrev pub length_at : List Float → ℕ → Float
length_at xs i = slice_index_or xs (i % length xs) nan

abbrev pub empty_after : List Float → ℕ → Bool
empty_after xs i = eq (length_at xs (following xs i)) zero

-- A dash goes on over a gap of 0 into the dash after it, n times at most; joined says whether such a gap comes now.
unfoldable pub joined_over : ℕ → Bool → List Float → ℕ → Float → Taken
joined_over n false xs i len = record { len = len; next = following xs i }
joined_over zeroⁿ true xs i len = record { len = len; next = following xs i }
joined_over (suc n) true xs i len = let j = following xs (following xs i) in joined_over n (empty_after xs j) xs j (len ⊕ length_at xs j)

-- the dash or gap at a place
abbrev pub taken_at : Dashes → Bool → ℕ → Taken
taken_at p on i = cond (on && p.empty_gaps)
    (joined_over (length p.lengths) (empty_after p.lengths i) p.lengths i (length_at p.lengths i))
    (record { len = length_at p.lengths i; next = following p.lengths i })

-- ---- what every pattern is

-- one length alone is not less than 1; of several one in a gap's place is at least 1
abbrev pub gap_of_one : Bool → List Float → Bool
gap_of_one gap [] = false
gap_of_one gap (x ∷ xs) = (gap && le one x) || gap_of_one (not gap) xs

abbrev pub room_between : List Float → Bool
room_between (x ∷ []) = full x
room_between xs = gap_of_one false xs

-- from the place of a dash, more turns than there are lengths join nothing more
abbrev pub JoinsAll : List Float → Type 0
JoinsAll xs = (i m : ℕ) (len : Float) → i < length xs → (length xs % 2 ≡ 0 → i % 2 ≡ 0) → joined_over (length xs + m) (empty_after xs i) xs i len ≡ joined_over (length xs) (empty_after xs i) xs i len

-- the place of a dash: where the number of lengths is even, an even one
abbrev pub IsDashPlace : List Float → ℕ → Type 0
IsDashPlace xs i = (i < length xs) × (length xs % 2 ≡ 0 → i % 2 ≡ 0)

-- After what was taken no gap of 0 comes: it was joined over each.
abbrev pub IsWhole : List Float → Taken → Type 0
IsWhole xs d = eq (length_at xs d.next) zero ≡ false
