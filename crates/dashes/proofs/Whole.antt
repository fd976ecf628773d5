-- A dash that was taken at its place is joined over every gap of 0.
use Rattle.std.proofs.Common.{◌≡◌, ℕ, zero as zeroⁿ, suc, ◌+◌, ◌%◌, ◌<◌, ◌≤◌, Bool, true, false, not, ◌&&◌, ◌||◌, List, [], ◌∷◌, length, slice_index_or, refl, sym, ◌∙◌, arith, true≢false, mod-lt, mod-eq_of_lt, Float}
use Rattle.std.proofs.lemmas.Bool.{cond_both, eqb-false}
use Rattle.std.specs.Float.{nan}
use Rattle.std.specs.Float.Ieee.{eq}
use Rattle.numbers.specs.Arithmetic.{◌⊕◌, zero}
use Rattle.dashes.specs.Patterns.{Dashes, joined_over, following, length_at, empty_after, is_empty_gap, empty_gap, odd_number, room_between, IsDashPlace, IsWhole}
use Rattle.dashes.proofs.Enough.{jumps, turns}
use Rattle.dashes.proofs.InPlace.{flips, AllWhole}
use Rattle.dashes.proofs.Joining.{one_more, stops}

-- ---- joined as far as such gaps go

ends : (t n : ℕ) (xs : List Float) (i : ℕ) (len : Float) (b : Bool) → empty_after xs i ≡ b → t ≤ n → empty_after xs (jumps t xs i) ≡ false → IsWhole xs (joined_over n (empty_after xs i) xs i len)
ends t n xs i len false none few there = rw (stops n xs i len none) none
ends zeroⁿ n xs i len true comes few there = absurd (true≢false (sym comes ∙ there))
ends (suc t) zeroⁿ xs i len true comes few there = absurd (omega arith)
ends (suc t) (suc n) xs i len true comes few there =
    let next = following xs (following xs i) in
    rw (one_more n xs i len comes) (ends t n xs next (len ⊕ length_at xs next) (empty_after xs next) refl (omega arith) there)

pub joined_whole : (xs : List Float) (i : ℕ) (len : Float) → room_between xs ≡ true → IsDashPlace xs i → IsWhole xs (joined_over (length xs) (empty_after xs i) xs i len)
joined_whole xs i len room place =
    let w = turns xs i room place.0 place.1 in
    let few : w.t < length xs = w.few in
    ends w.t (length xs) xs i len (empty_after xs i) refl (omega arith) w.there

-- ---- where no gap is 0

-- whether the k-th place from here is a gap's
gap_at : Bool → ℕ → Bool
gap_at gap zeroⁿ = gap
gap_at gap (suc k) = gap_at (not gap) k

odd_gap : (k : ℕ) → (k % 2 ≡ 1 → gap_at false k ≡ true) × (k % 2 ≡ 0 → gap_at true k ≡ true)
unfolding gap_at
odd_gap zeroⁿ = (λ e. absurd (omega arith), λ e. refl)
odd_gap (suc k) =
    let before = odd_gap k in
    (λ e. before.1 (omega arith), λ e. before.0 (omega arith))

some_left : (a b : Bool) → (a || b) ≡ false → (a ≡ false) × (b ≡ false)
some_left false false h = (refl, refl)
some_left true b h = absurd (true≢false h)
some_left false true h = absurd (true≢false h)

not_that : (gap odd zeroed : Bool) → ((gap || odd) && zeroed) ≡ false → (odd ≡ false → gap ≡ true) → zeroed ≡ false
not_that true odd z h g = h
not_that false true z h g = h
not_that false false z h g = absurd (true≢false (sym (g refl)))

none_there : (odd gap : Bool) (xs : List Float) (k : ℕ) → empty_gap odd gap xs ≡ false → k < length xs → (odd ≡ false → gap_at gap k ≡ true) → eq (slice_index_or xs k nan) zero ≡ false
unfolding gap_at
none_there odd gap [] k h l g = absurd (omega arith)
none_there odd gap (x ∷ xs) zeroⁿ h l g = not_that gap odd (eq x zero) (some_left (is_empty_gap odd gap x) (empty_gap odd (not gap) xs) h).0 g
none_there odd gap (x ∷ xs) (suc k) h l g = none_there odd (not gap) xs k (some_left (is_empty_gap odd gap x) (empty_gap odd (not gap) xs) h).1 (omega arith) g

even_number : (xs : List Float) → odd_number xs ≡ false → length xs % 2 ≡ 0
even_number xs e = omega (arith, eqb-false (length xs % 2) 1 e)

pub single_whole : (xs : List Float) (i : ℕ) → empty_gap (odd_number xs) false xs ≡ false → IsDashPlace xs i → eq (length_at xs (following xs i)) zero ≡ false
single_whole xs i none place =
    let n = length xs in
    let j = following xs i in
    let few : 0 < n = omega (arith, place.0) in
    let within : j < n = mod-lt (i % n + 1) few in
    let stays : j % n ≡ j = mod-eq_of_lt within in
    rw stays (none_there (odd_number xs) false xs j none within (λ e.
    let even = even_number xs e in
    let here : i % 2 ≡ 0 = place.1 even in
    (odd_gap j).0 (flips xs i even ∙ (let r : (i + 1) % 2 ≡ 1 = omega arith in r))))

-- every dash of a pattern
pub all_whole : (p : Dashes) → room_between p.lengths ≡ true → p.empty_gaps ≡ empty_gap (odd_number p.lengths) false p.lengths → AllWhole p
all_whole p room told i place =
    let xs = p.lengths in
    cond_both p.empty_gaps (joined_over (length xs) (empty_after xs i) xs i (length_at xs i)) (record { len = length_at xs i; next = following xs i }) (IsWhole xs)
    (λ is. joined_whole xs i (length_at xs i) room place)
    (λ is. single_whole xs i (sym told ∙ is) place)
