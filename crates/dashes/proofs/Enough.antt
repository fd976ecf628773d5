-- As many turns as a pattern has lengths are enough to join dashes over gaps of 0.
use Rattle.std.proofs.Common.{◌≡◌, ℕ, zero as zeroⁿ, suc, ◌+◌, ◌-◌, ◌*◌, ◌/◌, ◌%◌, ◌<◌, Bool, true, false, not, ◌&&◌, List, [], ◌∷◌, length, slice_index_or, refl, sym, ap, ◌∙◌, arith, true≢false, Float, mod-eq_of_lt, inl, inr, T, eqb, pos}
use Rattle.std.proofs.Math.Nat.{mod-add-mod, mod-mod, add-mul-mod_self_right}
use Rattle.std.proofs.lemmas.Bool.{cases_eq, cases_lt, or_cases, and_parts, and_left, not-true, not_from_true, not_from_false, ltb-true, ne_eqb}
use Rattle.std.proofs.lemmas.Float.{T_from_true, lt_of_lt_of_le}
use Rattle.std.specs.Int.Count.{count_trailing_zeros}
use Rattle.std.specs.Float.{nan, inf, fin}
use Rattle.std.specs.Float.Ieee.{eq, lt, le, is_nan, of_bits, of_fields, odd, up, down}
use Rattle.numbers.specs.Arithmetic.{◌⊕◌, zero, one}
use Rattle.dashes.specs.Patterns.{joined_over, following, length_at, empty_after, full, gap_of_one, room_between, JoinsAll}
use Rattle.dashes.proofs.Joining.{one_more, stops}
use lib.Ieee.Bits.{is_true}
use Rattle.numbers.proofs.Patterns.{zero_is}
use Rattle.dashes.proofs.Rooms.{le_one}

-- the place of the dash that is t gaps on
abbrev pub jumps : ℕ → List Float → ℕ → ℕ
jumps zeroⁿ xs i = i
jumps (suc t) xs i = jumps t xs (following xs (following xs i))

step_good : (t m : ℕ) (xs : List Float) (i : ℕ) (len : Float) (b : Bool)
    → joined_over (t + m) (empty_after xs (following xs (following xs i))) xs (following xs (following xs i)) (len ⊕ length_at xs (following xs (following xs i)))
    ≡ joined_over t (empty_after xs (following xs (following xs i))) xs (following xs (following xs i)) (len ⊕ length_at xs (following xs (following xs i)))
    → empty_after xs i ≡ b → joined_over (suc t + m) (empty_after xs i) xs i len ≡ joined_over (suc t) (empty_after xs i) xs i len
step_good t m xs i len false next is = stops (suc t + m) xs i len is ∙ sym (stops (suc t) xs i len is)
step_good t m xs i len true next is =
    let more : suc t + m ≡ suc (t + m) = omega arith in
    ap (λ (n : ℕ). joined_over n (empty_after xs i) xs i len) more ∙ one_more (t + m) xs i len is ∙ next ∙ sym (one_more t xs i len is)

-- where the gap after that one is not empty, t turns are as good as more
as_good : (t m : ℕ) (xs : List Float) (i : ℕ) (len : Float) → empty_after xs (jumps t xs i) ≡ false → joined_over (t + m) (empty_after xs i) xs i len ≡ joined_over t (empty_after xs i) xs i len
as_good zeroⁿ m xs i len there = stops (0 + m) xs i len there ∙ sym (stops 0 xs i len there)
as_good (suc t) m xs i len there =
    let next = following xs (following xs i) in
    step_good t m xs i len (empty_after xs i) (as_good t m xs next (len ⊕ length_at xs next) there) refl

-- ---- where the jumps come to

one_on : (n i : ℕ) → (i % n + 1) % n ≡ (i + 1) % n
one_on n i = mod-add-mod i n 1

two_on : (xs : List Float) (i : ℕ) → following xs (following xs i) ≡ (i + 2) % length xs
two_on xs i =
    let n = length xs in
    one_on n (following xs i) ∙ ap (λ (x : ℕ). (x + 1) % n) (one_on n i) ∙ one_on n (i + 1) ∙ ap (λ (x : ℕ). x % n) {x = i + 1 + 1} {y = i + 2} (omega arith)

jumped : (t : ℕ) (xs : List Float) (i : ℕ) → jumps t xs i % length xs ≡ (i + 2 * t) % length xs
jumped zeroⁿ xs i = ap (λ (x : ℕ). x % length xs) {x = i} {y = i + 2 * 0} (omega arith)
jumped (suc t) xs i =
    let n = length xs in
    jumped t xs (following xs (following xs i))
    ∙ ap (λ (x : ℕ). (x + 2 * t) % n) (two_on xs i)
    ∙ mod-add-mod (i + 2) n (2 * t)
    ∙ ap (λ (x : ℕ). x % n) {x = i + 2 + 2 * t} {y = i + 2 * suc t} (omega arith)

gap_at : (t : ℕ) (xs : List Float) (i : ℕ) → following xs (jumps t xs i) % length xs ≡ (i + 2 * t + 1) % length xs
gap_at t xs i =
    let n = length xs in
    mod-mod (jumps t xs i % n + 1) n
    ∙ ap (λ (x : ℕ). (x + 1) % n) (jumped t xs i)
    ∙ one_on n (i + 2 * t)

-- ---- each gap comes

-- t turns from i come to the gap at k, after c times round
record Comes (n i k : ℕ) : Type 0 where
  t : ℕ
  c : ℕ
  few : t < n
  at : i + 2 * t + 1 ≡ k + c * n

even_way : (n i k d : ℕ) → i < n → k < n → d + i + 1 ≡ k + n → d % 2 ≡ 0 → Comes n i k
even_way n i k d first last sum is = record { t = d / 2; c = 1; few = omega arith; at = omega arith }

odd_way : (n i k d : ℕ) → i < n → k < n → d + i + 1 ≡ k + n → d % 2 ≡ 1 → n % 2 ≡ 1 → Comes n i k
odd_way n i k d first last sum is odd = elim (cases_lt d n) [
  | inl less ↦ record { t = (d + n) / 2; c = 2; few = omega arith; at = omega arith }
  | inr more ↦ record { t = (d - n) / 2; c = 0; few = omega arith; at = omega arith }
]

comes_round : (n i k : ℕ) → i < n → k < n → (n % 2 ≡ 0 → (i % 2 ≡ 0) × (k % 2 ≡ 1)) → Comes n i k
comes_round n i k first last even =
    let d : ℕ = k + n - (i + 1) in
    let sum : d + i + 1 ≡ k + n = omega arith in
    elim (cases_eq (d % 2) 0) [
      | inl is ↦ even_way n i k d first last sum is
      | inr not ↦ elim (cases_eq (n % 2) 0) [
        | inl two ↦ absurd (let both = even two in omega arith)
        | inr odd ↦ odd_way n i k d first last sum (omega arith) (omega arith)
      ]
    ]

-- ---- a pattern has a gap that is not empty

above : (x : Float) → lt (fin false 0 (pos 0)) x ≡ true → eq x (fin false 0 (pos 0)) ≡ false
unfolding lt eq
above nan h = refl
above (inf s) h = refl
above (fin true m e) h = absurd (true≢false (sym h))
above (fin false m e) h = let less : 0 * 1 * down e < m * up e * 1 = ltb-true (0 * 1 * down e) (m * up e * 1) h in and_left (eqb (m * up e * 1) (0 * 1 * down e)) _ (ne_eqb (m * up e * 1) (0 * 1 * down e) (λ z. omega arith))

zero_below_one : T (lt zero one)
unfolding lt of_bits of_fields odd count_trailing_zeros
zero_below_one = tt

large : (x : Float) → le one x ≡ true → eq x zero ≡ false
large x h =
    let less : lt zero x ≡ true = is_true _ (lt_of_lt_of_le zero one x zero_below_one (T_from_true _ h)) in
    ap (eq x) zero_is ∙ above x (sym (ap (λ (z : Float). lt z x) zero_is) ∙ less)

full_large : (x : Float) → full x ≡ true → eq x zero ≡ false
unfolding eq is_nan
full_large nan h = refl
full_large (inf s) h = large (inf s) (le_one (inf s) tt (not-true (lt (inf s) one) h))
full_large (fin s m e) h = large (fin s m e) (le_one (fin s m e) tt (not-true (lt (fin s m e) one) h))

-- a gap of at least 1, where gap says whether the first length is one
record LargeGap (gap : Bool) (xs : List Float) : Type 0 where
  k : ℕ
  within : k < length xs
  odd : gap ≡ false → k % 2 ≡ 1
  even : gap ≡ true → k % 2 ≡ 0
  large : le one (slice_index_or xs k nan) ≡ true

large_gap : (gap : Bool) (xs : List Float) → gap_of_one gap xs ≡ true → LargeGap gap xs
large_gap gap [] h = absurd (true≢false (sym h))
large_gap gap (x ∷ xs) h = elim (or_cases (gap && le one x) (gap_of_one (not gap) xs) h) [
  | inl here ↦
      let both = and_parts gap (le one x) here in
      record { k = 0; within = omega arith; odd = λ e. absurd (true≢false (sym both.0 ∙ e)); even = λ _. refl; large = both.1 }
  | inr there ↦
      let next = large_gap (not gap) xs there in
      record {
        k = suc next.k;
        within = let w : next.k < length xs = next.within in omega arith;
        odd = λ e. let r : next.k % 2 ≡ 0 = next.even (not_from_false gap e) in omega arith;
        even = λ e. let r : next.k % 2 ≡ 1 = next.odd (not_from_true gap e) in omega arith;
        large = next.large;
      }
]

-- a gap that is not empty; where the number of lengths is even it stands at an odd place
record Gap (xs : List Float) : Type 0 where
  k : ℕ
  within : k < length xs
  odd : length xs % 2 ≡ 0 → k % 2 ≡ 1
  some : eq (slice_index_or xs k nan) zero ≡ false

gap_of : (xs : List Float) → room_between xs ≡ true → Gap xs
gap_of [] h = absurd (true≢false (sym h))
gap_of (x ∷ []) h = record { k = 0; within = omega arith; odd = λ e. absurd (let z : 1 ≡ 0 = e in omega arith); some = full_large x h }
gap_of (x ∷ y ∷ ys) h =
    let g = large_gap false (x ∷ y ∷ ys) h in
    record { k = g.k; within = g.within; odd = λ _. g.odd refl; some = large (slice_index_or (x ∷ y ∷ ys) g.k nan) g.large }

not_empty : (xs : List Float) (i : ℕ) (g : Gap xs) (w : Comes (length xs) i g.k) → empty_after xs (jumps w.t xs i) ≡ false
not_empty xs i g w =
    let n = length xs in
    let place : following xs (jumps w.t xs i) % n ≡ g.k = gap_at w.t xs i ∙ ap (λ (x : ℕ). x % n) w.at ∙ add-mul-mod_self_right g.k w.c n ∙ mod-eq_of_lt g.within in
    ap (λ (k : ℕ). eq (slice_index_or xs k nan) zero) place ∙ g.some

-- so many turns, and the gap that comes then is not empty
pub record Turns (xs : List Float) (i : ℕ) : Type 0 where
  pub t : ℕ
  pub few : t < length xs
  pub there : empty_after xs (jumps t xs i) ≡ false

pub turns : (xs : List Float) (i : ℕ) → room_between xs ≡ true → i < length xs → (length xs % 2 ≡ 0 → i % 2 ≡ 0) → Turns xs i
turns xs i room within even =
    let g = gap_of xs room in
    let w = comes_round (length xs) i g.k within g.within (λ e. (even e, g.odd e)) in
    record { t = w.t; few = w.few; there = not_empty xs i g w }

pub joins_all : (xs : List Float) → room_between xs ≡ true → JoinsAll xs
joins_all xs room i m len within even =
    let n = length xs in
    let w = turns xs i room within even in
    let few : w.t < n = w.few in
    let first : n + m ≡ w.t + (n - w.t + m) = omega arith in
    let second : n ≡ w.t + (n - w.t) = omega arith in
    ap (λ (k : ℕ). joined_over k (empty_after xs i) xs i len) first ∙ as_good w.t (n - w.t + m) xs i len w.there
    ∙ sym (ap (λ (k : ℕ). joined_over k (empty_after xs i) xs i len) second ∙ as_good w.t (n - w.t) xs i len w.there)
