-- What is left of a list from a place on.
use Rattle.std.proofs.Common.{◌≡◌, ℕ, zero, suc, ◌+◌, List, [], ◌∷◌, drop, Some, None, refl, ap, add-one}
use Rattle.std.specs.List.{slice_get}

left_suc : {X : Type 0} (xs : List X) (i : ℕ) (x : X) → slice_get xs i ≡ Some x → drop i xs ≡ x ∷ drop (suc i) xs
left_suc [] i x at = absurd cc
left_suc (y ∷ ys) zero x at = let same : y ≡ x = cc in ap (λ v. v ∷ ys) same
left_suc (y ∷ ys) (suc i) x at = left_suc ys i x at

pub left_some : {X : Type 0} (xs : List X) (i : ℕ) (x : X) → slice_get xs i ≡ Some x → drop i xs ≡ x ∷ drop (i + 1) xs
left_some xs i x at = rw add-one (left_suc xs i x at)

pub left_none : {X : Type 0} (xs : List X) (i : ℕ) → slice_get xs i ≡ None → drop i xs ≡ []
left_none [] zero at = refl
left_none [] (suc i) at = refl
left_none (y ∷ ys) zero at = absurd cc
left_none (y ∷ ys) (suc i) at = left_none ys i at
