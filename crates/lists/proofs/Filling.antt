-- The first of some elements, and blanks in the places after them.
use Rattle.std.proofs.Common.{◌≡◌, ℕ, ◌-◌, min, List, ◌++◌, length, take, drop, replicate, sym, ap, ◌∙◌, arith, length-take-le}
use Rattle.std.proofs.Math.Seq.{take-append_seam, drop-append_seam}
use Rattle.std.proofs.lemmas.List.{take_min, drop-replicate}
use Rattle.lists.specs.Fixed.{filled}

pub fills : {X : Type 0} (n k : ℕ) (blank : X) (xs ys : List X) → k ≡ min n (length xs) → ys ≡ take k xs
    → record { items = take k (ys ++ drop k (replicate n blank)); spare = drop k (ys ++ drop k (replicate n blank)) } ≡ filled n blank xs
fills n k blank xs ys few front =
    let long : length ys ≡ k = ap length front ∙ length-take-le k xs (omega (arith, few)) in
    let blanks = drop k (replicate n blank) in
    let items = ap (λ i. take i (ys ++ blanks)) (sym long) ∙ take-append_seam ys blanks ∙ front ∙ ap (λ i. take i xs) few ∙ take_min n xs in
    let left : n - k ≡ n - length xs = omega (arith, few) in
    let spare = ap (λ i. drop i (ys ++ blanks)) (sym long) ∙ drop-append_seam ys blanks ∙ drop-replicate k n blank ∙ ap (λ i. replicate i blank) left in
    λ i. record { items = items i; spare = spare i }
