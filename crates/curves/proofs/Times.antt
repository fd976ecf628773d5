-- The time along a curve, by the levels that are left.
use Rattle.std.proofs.Common.{◌≡◌, ℕ, zero, suc, ◌-◌, ◌<◌, true, false, ◌⊎◌, sym, refl, ◌∙◌, inl, inr, sub-one, arith}
use lib.Ieee.{Float, lt}
use Rattle.std.proofs.lemmas.Bool.{cond-true, cond-false}
use Rattle.numbers.specs.Arithmetic.{◌⊕◌, ◌⊖◌, ◌⊗◌, one}
use Rattle.numbers.specs.Arithmetic.{zero as zeroᶠ}
use Rattle.curves.specs.declared.curve.Curve.{Curve}
use Rattle.curves.specs.Curves.{slice_of, too_curvy, chord_time, half, both_halves, timed}

pub timed_flat : (n : ℕ) (k : Curve) (d e t : Float) → (n ≡ 0) ⊎ (too_curvy k e ≡ false) → chord_time k d t ≡ timed n k d e t
unfolding timed
timed_flat zero k d e t h = refl
timed_flat (suc n) k d e t (inl h) = absurd (omega arith)
timed_flat (suc n) k d e t (inr h) = sym (cond-false (too_curvy k e) _ _ h)

opened : (n : ℕ) (k : Curve) (d e t : Float) → too_curvy k e ≡ true
    → timed (suc n) k d e t ≡ (let first = timed n (slice_of k zeroᶠ half) d e (t ⊗ half) in both_halves first d (timed n (slice_of k half one) (d ⊖ first.0) e (t ⊗ half)))
unfolding timed
opened n k d e t curvy = cond-true (too_curvy k e) _ _ curvy

-- the first half reaches the distance
pub timed_first : (n : ℕ) (k : Curve) (d e t : Float) {halves : Curve × Curve} {first : Float × Float} → 0 < n → too_curvy k e ≡ true
    → halves ≡ (slice_of k zeroᶠ half, slice_of k half one) → first ≡ timed (n - 1) halves.0 d e (t ⊗ half)
    → lt first.0 d ≡ false → first ≡ timed n k d e t
timed_first zero k d e t h curvy split is reach = absurd (omega arith)
timed_first (suc n) k d e t {first = first} h curvy split is reach =
    let first-is : first ≡ timed n (slice_of k zeroᶠ half) d e (t ⊗ half) = is ∙ rw (split, sub-one) refl in
    sym (opened n k d e t curvy ∙ rw (← first-is) (cond-false (lt first.0 d) _ _ reach))

-- the second half adds to it
pub timed_second : (n : ℕ) (k : Curve) (d e t : Float) {halves : Curve × Curve} {first second : Float × Float} → 0 < n → too_curvy k e ≡ true
    → halves ≡ (slice_of k zeroᶠ half, slice_of k half one) → first ≡ timed (n - 1) halves.0 d e (t ⊗ half)
    → lt first.0 d ≡ true → second ≡ timed (n - 1) halves.1 (d ⊖ first.0) e (t ⊗ half)
    → (first.0 ⊕ second.0, first.1 ⊕ second.1) ≡ timed n k d e t
timed_second zero k d e t h curvy split is more is' = absurd (omega arith)
timed_second (suc n) k d e t {first = first} {second = second} h curvy split is more is' =
    let first-is : first ≡ timed n (slice_of k zeroᶠ half) d e (t ⊗ half) = is ∙ rw (split, sub-one) refl in
    let second_is : second ≡ timed n (slice_of k half one) (d ⊖ first.0) e (t ⊗ half) = is' ∙ rw (split, sub-one) refl in
    sym (opened n k d e t curvy ∙ rw (← first-is, ← second_is) (cond-true (lt first.0 d) _ _ more))
