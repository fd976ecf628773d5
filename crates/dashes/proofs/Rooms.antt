-- What is accepted has room between its dashes.
use Rattle.std.proofs.Common.{◌≡◌, ◌≤◌, ◌<◌, ◌⊎◌, Bool, true, false, not, ◌&&◌, List, [], ◌∷◌, length, nat_eq, IsTrue, nat_le, inl, inr, refl, sym, ap, ◌∙◌, arith, true≢false, Float}
use Rattle.std.specs.Float.{nan, inf, fin, NotNan}
use Rattle.std.specs.Float.Ieee.{lt, le, add, is_nan, of_bits, of_fields, odd}
use Rattle.std.specs.Int.Count.{count_trailing_zeros}
use Rattle.std.proofs.lemmas.Bool.{and_parts, or_parts, leb-true, cases_Bool, eqb-true, or_cases, not-true, cond_both}
use Rattle.std.proofs.lemmas.Float.{T_from_false, le_of_not-lt}
use lib.Ieee.Bits.{is_true}
use Rattle.numbers.specs.Arithmetic.{◌⊕◌, zero, one}
use Rattle.dashes.specs.Patterns.{some, full, with_gap, gap_sum, has_gap, gap_of_one, room_between, accepted, negative}

one_number : NotNan one
unfolding is_nan of_bits of_fields odd count_trailing_zeros
one_number = tt

pub le_one : (x : Float) → NotNan x → lt x one ≡ false → le one x ≡ true
le_one x number small = is_true _ (le_of_not-lt x one number one_number (T_from_false _ small))

-- what is neither below 1 nor from 1 on is NaN
unordered : (x : Float) → lt x one ≡ false → le one x ≡ false → x ≡ nan
unfolding is_nan
unordered nan small large = refl
unordered (inf s) small large = absurd (true≢false (sym (le_one (inf s) tt small) ∙ large))
unordered (fin s m e) small large = absurd (true≢false (sym (le_one (fin s m e) tt small) ∙ large))

-- with no gap of at least 1 the gaps add up to 0, or to NaN
abbrev Flat : Float → Type 0
Flat x = (x ≡ zero) ⊎ (x ≡ nan)

add_nan : (x : Float) → x ⊕ nan ≡ nan
unfolding add
add_nan nan = refl
add_nan (inf s) = refl
add_nan (fin s m e) = refl

le_no : (gap b : Bool) → gap ≡ true → (gap && b) ≡ false → b ≡ false
le_no true b is none = none
le_no false b is none = absurd (true≢false (sym is))

flat_with : (sum : Float) (gap : Bool) (x : Float) → Flat sum → (gap && le one x) ≡ false → Flat (with_gap sum gap x)
flat_with sum gap x flat none =
    cond_both (gap && full x) (sum ⊕ x) sum Flat
    (λ is. let both = and_parts gap (full x) is in inr (ap (λ y. sum ⊕ y) (unordered x (not-true (lt x one) both.1) (le_no gap (le one x) both.0 none)) ∙ add_nan sum))
    (λ _. flat)

flat_sum : (gap : Bool) (sum : Float) (xs : List Float) → Flat sum → gap_of_one gap xs ≡ false → Flat (gap_sum gap sum xs)
flat_sum gap sum [] flat none = flat
flat_sum gap sum (x ∷ xs) flat none =
    let both = or_parts (gap && le one x) (gap_of_one (not gap) xs) none in
    flat_sum (not gap) (with_gap sum gap x) xs (flat_with sum gap x flat both.0) both.1

zero_above : lt zero zero ≡ false
unfolding lt of_bits of_fields odd count_trailing_zeros
zero_above = refl

nan_above : lt zero nan ≡ false
unfolding lt of_bits of_fields odd count_trailing_zeros
nan_above = refl

none_above : (x : Float) → Flat x → lt zero x ≡ false
none_above x flat = elim flat [ inl z ↦ ap (lt zero) z ∙ zero_above | inr n ↦ ap (lt zero) n ∙ nan_above ]

room_of_gaps : (xs : List Float) → lt zero (gap_sum false zero xs) ≡ true → gap_of_one false xs ≡ true
room_of_gaps xs is = elim (cases_Bool (gap_of_one false xs)) [
  | inl there ↦ there
  | inr never ↦ absurd (true≢false (sym is ∙ none_above _ (flat_sum false zero xs (inl refl) never)))
]

room_of : (xs : List Float) → some full xs ≡ true → has_gap xs ≡ true → room_between xs ≡ true
room_of [] big gap = absurd (true≢false (sym big))
room_of (x ∷ []) big gap = elim (or_cases (full x) false big) [ inl is ↦ is | inr never ↦ absurd (true≢false (sym never)) ]
room_of (x ∷ y ∷ ys) big gap = elim (or_cases (nat_eq (length (x ∷ y ∷ ys)) 1) (lt zero (gap_sum false zero (x ∷ y ∷ ys))) gap) [
  | inl single ↦ absurd (let n : length (x ∷ y ∷ ys) ≡ 1 = eqb-true (length (x ∷ y ∷ ys)) 1 single in omega arith)
  | inr is ↦ room_of_gaps (x ∷ y ∷ ys) is
]

pub record Facts (xs : List Float) : Type 0 where
  pub number : (0 < length xs) × (length xs ≤ 32)
  pub none_negative : IsTrue (not (some negative xs))
  pub room : IsTrue (room_between xs)

some_one : (xs : List Float) → some full xs ≡ true → 0 < length xs
some_one [] is = absurd (true≢false (sym is))
some_one (x ∷ xs) is = omega arith

pub facts : (xs : List Float) → accepted xs ≡ true → Facts xs
facts xs is =
    let first = and_parts (nat_le (length xs) 32) _ is in
    let second = and_parts (not (some negative xs)) _ first.1 in
    let third = and_parts (some full xs) _ second.1 in
    record {
      number = (some_one xs third.0, leb-true (length xs) 32 first.0);
      none_negative = second.0;
      room = room_of xs third.0 third.1;
    }
