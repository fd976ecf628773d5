-- Dashes and gaps stay in their places.
use Rattle.std.proofs.Common.{◌≡◌, ℕ, zero, suc, ◌+◌, ◌%◌, ◌<◌, mod-lt, Bool, true, false, not, cond, ◌&&◌, List, length, refl, sym, ap, ◌∙◌, subst, arith, true≢false, Float}
use Rattle.std.proofs.Math.Nat.{mod-mod_of_dvd, dvd_of_mod-eq-zero}
use Rattle.std.proofs.lemmas.Bool.{cond_both, and_parts, not-true}
use Rattle.segments.specs.declared.segment.Segment.{Segment}
use Rattle.dashes.specs.declared.dasher.reach.Reach.{Reach}
use Rattle.dashes.specs.declared.dasher.walk.Course.{Course}
use Rattle.dashes.specs.declared.dasher.walk.Course.TheVariants.{Plain, Joined, Replayed, Whole, Over}
use Rattle.dashes.specs.declared.dasher.walk.Next.{Next}
use Rattle.dashes.specs.declared.dasher.walk.Span.{Span}
use Rattle.dashes.specs.declared.dasher.walk.Walk.{Walk}
use Rattle.dashes.specs.Dashers.{begun, sought, goes_on, advanced, reach_of, taken_by, course, span_of, after_of, one_taken, stays, next_of, first_dash, InPlace, IsJoined}
use Rattle.dashes.specs.Patterns.{Dashes, Taken, joined_over, following, length_at, empty_after, taken_at, IsDashPlace, IsWhole}
use Rattle.std.specs.Float.Ieee.{eq}
use Rattle.numbers.specs.Arithmetic.{zero as zeroᶠ}

-- ---- the next place

pub flips : (xs : List Float) (i : ℕ) → length xs % 2 ≡ 0 → following xs i % 2 ≡ (i + 1) % 2
flips xs i even =
    let n = length xs in
    let outer : (i % n + 1) % n % 2 ≡ (i % n + 1) % 2 = mod-mod_of_dvd 2 (i % n + 1) (dvd_of_mod-eq-zero 2 even) in
    let inner : i % n % 2 ≡ i % 2 = mod-mod_of_dvd 2 i (dvd_of_mod-eq-zero 2 even) in
    outer ∙ after (i % n) i inner
  where
    after : (a b : ℕ) → a % 2 ≡ b % 2 → (a + 1) % 2 ≡ (b + 1) % 2
    after a b e = omega arith

joined_next : (n : ℕ) (b : Bool) (xs : List Float) (i : ℕ) (len : Float) → length xs % 2 ≡ 0 → (joined_over n b xs i len).next % 2 ≡ (i + 1) % 2
unfolding joined_over
joined_next n false xs i len even = flips xs i even
joined_next zero true xs i len even = flips xs i even
joined_next (suc n) true xs i len even =
    let j = following xs (following xs i) in
    let first : following xs i % 2 ≡ (i + 1) % 2 = flips xs i even in
    let second : j % 2 ≡ (following xs i + 1) % 2 = flips xs (following xs i) even in
    joined_next n (empty_after xs j) xs j _ even ∙ again i (following xs i) j first second
  where
    again : (i k j : ℕ) → k % 2 ≡ (i + 1) % 2 → j % 2 ≡ (k + 1) % 2 → (j + 1) % 2 ≡ (i + 1) % 2
    again i k j a b = omega arith

taken_next : (p : Dashes) (on : Bool) (i : ℕ) → length p.lengths % 2 ≡ 0 → (taken_at p on i).next % 2 ≡ (i + 1) % 2
taken_next p on i even =
    cond_both (on && p.empty_gaps) _ _ (λ (d : Taken). d.next % 2 ≡ (i + 1) % 2)
    (λ _. joined_next (length p.lengths) (empty_after p.lengths i) p.lengths i (length_at p.lengths i) even) (λ _. flips p.lengths i even)

following_within : (xs : List Float) (i : ℕ) → 0 < length xs → following xs i < length xs
following_within xs i some = mod-lt (i % length xs + 1) some

joined_within : (n : ℕ) (b : Bool) (xs : List Float) (i : ℕ) (len : Float) → 0 < length xs → (joined_over n b xs i len).next < length xs
unfolding joined_over
joined_within n false xs i len some = following_within xs i some
joined_within zero true xs i len some = following_within xs i some
joined_within (suc n) true xs i len some = let j = following xs (following xs i) in joined_within n (empty_after xs j) xs j _ some

taken_within : (p : Dashes) (on : Bool) (i : ℕ) → 0 < length p.lengths → (taken_at p on i).next < length p.lengths
taken_within p on i some =
    cond_both (on && p.empty_gaps) _ _ (λ (d : Taken). d.next < length p.lengths)
    (λ _. joined_within (length p.lengths) (empty_after p.lengths i) p.lengths i (length_at p.lengths i) some) (λ _. following_within p.lengths i some)

turned : (on : Bool) (i j : ℕ) → i % 2 ≡ cond on 0 1 → j % 2 ≡ (i + 1) % 2 → j % 2 ≡ cond (not on) 0 1
turned true i j a b = omega arith
turned false i j a b = omega arith

turned_first : (first on : Bool) (i j : ℕ) → i % 2 ≡ cond (cond first (not on) on) 0 1 → j % 2 ≡ (i + 1) % 2 → j % 2 ≡ cond (cond first (not (not on)) (not on)) 0 1
turned_first true on i j a b = turned (not on) i j a b
turned_first false on i j a b = turned on i j a b

-- ---- walks

pub begun_in_place : (p : Dashes) (closed : Bool) → 0 < length p.lengths → InPlace p (begun p closed)
begun_in_place p closed some done = (taken_within p true 0 some, λ even. let next : (taken_at p true 0).next % 2 ≡ 1 = taken_next p true 0 even in next)

pub sought_in_place : (p : Dashes) (w : Walk) → InPlace p w → InPlace p (sought p w)
sought_in_place p w before done =
    let within : w.index < length p.lengths = (before done).0 in
    (taken_within p (not w.on) w.index (omega arith), λ even. turned_first w.is_first w.on w.index _ ((before done).1 even) (taken_next p (not w.on) w.index even))

taken_by_within : (p : Dashes) (w : Walk) → w.index < length p.lengths → (taken_by p w).next < length p.lengths
taken_by_within p w within =
    cond_both w.is_first (record { len = first_dash p w; next = w.index }) (taken_at p w.on w.index) (λ (d : Taken). d.next < length p.lengths)
    (λ _. within) (λ _. taken_within p w.on w.index (omega arith))

taken_by_next : (p : Dashes) (w : Walk) → length p.lengths % 2 ≡ 0 → w.index % 2 ≡ cond (cond w.is_first (not w.on) w.on) 0 1 → (taken_by p w).next % 2 ≡ cond (not w.on) 0 1
taken_by_next p w even before =
    cond_both w.is_first (record { len = first_dash p w; next = w.index }) (taken_at p w.on w.index) (λ (d : Taken). d.next % 2 ≡ cond (not w.on) 0 1)
    (λ is. subst (λ (f : Bool). w.index % 2 ≡ cond (cond f (not w.on) w.on) 0 1) is before)
    (λ is. turned w.on w.index _ (subst (λ (f : Bool). w.index % 2 ≡ cond (cond f (not w.on) w.on) 0 1) is before) (taken_next p w.on w.index even))

over : (v : Walk) (s : Span) (j : ℕ) (c : Course) → (after_of v s true j c).done ≡ true
over v s j Whole = refl
over v s j Over = refl
over v s j Plain = refl
over v s j Joined = refl
over v s j Replayed = refl

-- what a walk is that a call left, whether the length arrived or not
abbrev left_by : Bool → Dashes → List Segment → Walk → ℕ → Reach → Walk
left_by b p xs v j r = let c = course b v.closed v.on v.is_first v.first_on in after_of v (span_of p xs v r c) (not b) j c

-- one that did not arrive is over
left_over : (p : Dashes) (xs : List Segment) (v : Walk) (j : ℕ) (r : Reach) → (left_by false p xs v j r).done ≡ false → ⊥
left_over p xs v j r done = absurd (true≢false (sym (over v (span_of p xs v r (course false v.closed v.on v.is_first v.first_on)) j (course false v.closed v.on v.is_first v.first_on)) ∙ done))

after_in_place : (b : Bool) (p : Dashes) (xs : List Segment) (v : Walk) (j : ℕ) (r : Reach) → j < length p.lengths → (length p.lengths % 2 ≡ 0 → j % 2 ≡ cond (not v.on) 0 1) → InPlace p (left_by b p xs v j r)
after_in_place true p xs v j r within next done = (within, next)
after_in_place false p xs v j r within next done = absurd (left_over p xs v j r done)

advanced_on : (n : ℕ) (w : Walk) → (advanced n w).on ≡ w.on
advanced_on n w = cond_both _ _ w (λ (v : Walk). v.on ≡ w.on) (λ _. refl) (λ _. refl)

taken_in_place : (p : Dashes) (xs : List Segment) (w : Walk) → w.done ≡ false → InPlace p w → InPlace p (one_taken p xs w (taken_by p w)).after
taken_in_place p xs w going before =
    let v : Walk = advanced (length xs) w in
    let d : Taken = taken_by p w in
    let r : Reach = reach_of xs v d.len in
    after_in_place r.arrived p xs v d.next r (taken_by_within p w (before going).0)
    (λ even. taken_by_next p w even ((before going).1 even) ∙ ap (λ (on : Bool). cond (not on) 0 1) (sym (advanced_on (length xs) w)))

pub next_in_place : (p : Dashes) (xs : List Segment) (w : Walk) → InPlace p w → InPlace p (next_of p xs w).after
next_in_place p xs w before =
    cond_both (goes_on (length xs) w) (one_taken p xs w (taken_by p w)) (stays w) (λ (x : Next). InPlace p x.after)
    (λ is. taken_in_place p xs w (not-true w.done (and_parts (not w.done) _ is).0) before) (λ _. before)

-- ---- no gap of 0 comes

-- the dash taken at any dash's place is joined over gaps of 0
abbrev pub AllWhole : Dashes → Type 0
AllWhole p = (i : ℕ) → IsDashPlace p.lengths i → IsWhole p.lengths (taken_at p true i)

on_from : (b : Bool) → not b ≡ false → b ≡ true
on_from true e = refl
on_from false e = absurd (true≢false e)

pub begun_joined : (p : Dashes) (closed : Bool) → AllWhole p → 0 < length p.lengths → IsJoined p (begun p closed)
begun_joined p closed whole some done gap = whole 0 (some, λ even. refl)

-- a dash is taken where w is on
at_dash : (p : Dashes) (on first : Bool) (i : ℕ) → AllWhole p → i < length p.lengths → (length p.lengths % 2 ≡ 0 → i % 2 ≡ cond first 0 1) → first ≡ true → on ≡ true → IsWhole p.lengths (taken_at p on i)
at_dash p on first i whole within even comes is = rw is (whole i (within, λ e. even e ∙ ap (λ (b : Bool). cond b 0 1) comes))

-- where the walk has taken its first dash alone
pub sought_joined : (p : Dashes) (w : Walk) → AllWhole p → w.is_first ≡ true → InPlace p w → IsJoined p (sought p w)
sought_joined p w whole first before done gap =
    let off : not w.on ≡ true = not_twice w.on (sym (ap (λ (f : Bool). cond f (not (not w.on)) (not w.on)) first) ∙ gap) in
    at_dash p (not w.on) (cond w.is_first (not w.on) w.on) w.index whole (before done).0 (before done).1 (ap (λ (f : Bool). cond f (not w.on) w.on) first ∙ off) off
  where
    not_twice : (b : Bool) → not (not b) ≡ false → not b ≡ true
    not_twice true e = absurd (true≢false e)
    not_twice false e = refl

after_joined : (b : Bool) (p : Dashes) (xs : List Segment) (v : Walk) (j : ℕ) (r : Reach) → (v.on ≡ true → eq (length_at p.lengths j) zeroᶠ ≡ false) → IsJoined p (left_by b p xs v j r)
after_joined true p xs v j r next done gap = next (on_from v.on gap)
after_joined false p xs v j r next done gap = absurd (left_over p xs v j r done)

taken_by_whole : (p : Dashes) (w : Walk) → w.done ≡ false → AllWhole p → InPlace p w → IsJoined p w → w.on ≡ true → eq (length_at p.lengths (taken_by p w).next) zeroᶠ ≡ false
taken_by_whole p w going whole before joined on =
    cond_both w.is_first (record { len = first_dash p w; next = w.index }) (taken_at p w.on w.index) (λ (d : Taken). eq (length_at p.lengths d.next) zeroᶠ ≡ false)
    (λ is. joined going (ap (λ (f : Bool). cond f (not w.on) w.on) is ∙ ap not on))
    (λ is. at_dash p w.on (cond w.is_first (not w.on) w.on) w.index whole (before going).0 (before going).1 (ap (λ (f : Bool). cond f (not w.on) w.on) is ∙ on) on)

pub next_joined : (p : Dashes) (xs : List Segment) (w : Walk) → AllWhole p → InPlace p w → IsJoined p w → IsJoined p (next_of p xs w).after
next_joined p xs w whole before joined =
    cond_both (goes_on (length xs) w) (one_taken p xs w (taken_by p w)) (stays w) (λ (x : Next). IsJoined p x.after)
    (λ is.
    let going = not-true w.done (and_parts (not w.done) _ is).0 in
    let v : Walk = advanced (length xs) w in
    let d : Taken = taken_by p w in
    let r : Reach = reach_of xs v d.len in
    after_joined r.arrived p xs v d.next r (λ on. taken_by_whole p w going whole before joined (sym (advanced_on (length xs) w) ∙ on)))
    (λ _. joined)
