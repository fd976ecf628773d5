-- Pieces and their halves.
use Rattle.std.proofs.Common.{ℕ, suc, zero as zeroⁿ, ◌^◌, ◌-◌, ◌<◌, ◌≡◌, true, ◌++◌, ◌*◌, ◌≤◌, List, [], ◌∷◌, length, arith, length-append}
use Rattle.std.proofs.lemmas.Bool.{cond_both, cond-true}
use Rattle.std.proofs.Math.Nat.{pow-suc}
use Rattle.curves.specs.declared.curve.Curve.{Curve}
use Rattle.curves.specs.Curves.{slice_of, half, needs_split}
use Rattle.numbers.specs.Arithmetic.{zero, one}
use Rattle.cursor.specs.Cuts.{halved, all_halved}

-- where a curve needs a split, what its halves are halved to
pub halved_split : (n : ℕ) (k : Curve) → 0 < n → needs_split k ≡ true → halved n k ≡ halved (n - 1) (slice_of k zero half) ++ halved (n - 1) (slice_of k half one)
halved_split zeroⁿ k p h = absurd (omega arith)
halved_split (suc n) k p h = let less : suc n - 1 ≡ n = omega arith in rw less (cond-true (needs_split k) _ _ h)

-- at least one, and at most two, four and so on
halved_few : (n : ℕ) (k : Curve) → (1 ≤ length (halved n k)) × (length (halved n k) ≤ 2 ^ n)
halved_few zeroⁿ k = (omega arith, omega arith)
halved_few (suc n) k = cond_both (needs_split k) _ _ (λ (ks : List Curve). (1 ≤ length ks) × (length ks ≤ 2 ^ suc n))
    (λ _.
    let first = halved_few n (slice_of k zero half) in
    let second = halved_few n (slice_of k half one) in
    (simp length-append (omega arith), simp length-append (omega (arith, pow-suc 2 n))))
    (λ _. (omega arith, omega (arith, pow-suc 2 n, halved_few n k)))

pub all_halved_long : (ks : List Curve) → length (all_halved ks) ≤ 4 * length ks
all_halved_long [] = omega arith
all_halved_long (k ∷ ks) = simp length-append (omega (arith, halved_few 2 k, all_halved_long ks))

pub all_halved_some : (ks : List Curve) → 1 ≤ length ks → 1 ≤ length (all_halved ks)
all_halved_some [] h = absurd (omega arith)
all_halved_some (k ∷ ks) h = simp length-append (omega (arith, halved_few 2 k))
