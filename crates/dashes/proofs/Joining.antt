-- A dash goes on over gaps of 0, one at a time.
use Rattle.std.proofs.Common.{◌≡◌, ℕ, suc, ◌+◌, ◌-◌, ◌<◌, ◌≤◌, Bool, true, false, List, refl, ap, ◌∙◌, arith, Float}
use Rattle.numbers.specs.Arithmetic.{◌⊕◌}
use Rattle.dashes.specs.Patterns.{joined_over, following, length_at, empty_after}

pub one_more : (n : ℕ) (xs : List Float) (i : ℕ) (len : Float) → empty_after xs i ≡ true
    → joined_over (suc n) (empty_after xs i) xs i len ≡ joined_over n (empty_after xs (following xs (following xs i))) xs (following xs (following xs i)) (len ⊕ length_at xs (following xs (following xs i)))
unfolding joined_over
one_more n xs i len is = ap (λ b. joined_over (suc n) b xs i len) is

pub joins : (n k : ℕ) (xs : List Float) (i : ℕ) (len : Float) → k < n → empty_after xs i ≡ true
    → joined_over (n - k) (empty_after xs i) xs i len ≡ joined_over (n - (k + 1)) (empty_after xs (following xs (following xs i))) xs (following xs (following xs i)) (len ⊕ length_at xs (following xs (following xs i)))
joins n k xs i len h is =
    let e : n - k ≡ suc (n - (k + 1)) = omega arith in
    ap (λ m. joined_over m (empty_after xs i) xs i len) e ∙ one_more (n - (k + 1)) xs i len is

pub stops : (n : ℕ) (xs : List Float) (i : ℕ) (len : Float) → empty_after xs i ≡ false → joined_over n (empty_after xs i) xs i len ≡ record { len = len; next = following xs i }
unfolding joined_over
stops n xs i len is = ap (λ b. joined_over n b xs i len) is

out : (b : Bool) (xs : List Float) (i : ℕ) (len : Float) → joined_over 0 b xs i len ≡ record { len = len; next = following xs i }
unfolding joined_over
out true xs i len = refl
out false xs i len = refl

pub runs_out : (n k : ℕ) (xs : List Float) (i : ℕ) (len : Float) → n ≤ k → joined_over (n - k) (empty_after xs i) xs i len ≡ record { len = len; next = following xs i }
runs_out n k xs i len h =
    let e : n - k ≡ 0 = omega arith in
    ap (λ m. joined_over m (empty_after xs i) xs i len) e ∙ out (empty_after xs i) xs i len
