-- A list with places enough takes a row of elements.
use Rattle.std.proofs.Common.{◌≡◌, ℕ, suc, ◌+◌, ◌<◌, true, List, [], ◌∷◌, ◌++◌, length, sym, refl, ap, ◌∙◌, append_assoc, append-nil, arith, length-set, length-take}
use Rattle.std.proofs.lemmas.List.{take_more_set}
use Rattle.std.proofs.lemmas.Bool.{and_from, lt-ltb}
use Rattle.lists.specs.declared.lent.Lent.{Lent}
use Rattle.lists.specs.Lent.{items, pushed}
use Rattle.job.specs.Jobs.{has_place, takes, pushed_all}
use Rattle.job.specs.Laws.{EnoughPlaces}

-- what came of it: all are held, and places are left for n more
pub record Takes {X : Type 0} (most : ℕ) (l : Lent X) (xs : List X) (n : ℕ) : Type 0 where
  pub taken : takes most l xs ≡ true
  pub held : items (pushed_all l xs) ≡ items l ++ xs
  pub enough : EnoughPlaces most (pushed_all l xs) n

module _ {X : Type 0} (most : ℕ) where
  free : (l : Lent X) (n : ℕ) → EnoughPlaces most l (suc n) → l.count < length l.places.now
  free l n h = omega (arith, length-take l.count l.places.now)

  one_taken : (l : Lent X) (n : ℕ) → EnoughPlaces most l (suc n) → has_place most l ≡ true
  one_taken l n h = and_from _ _ (lt-ltb (length (items l)) most (omega arith)) (lt-ltb l.count (length l.places.now) (free l n h))

  one_held : (l : Lent X) (x : X) (n : ℕ) → EnoughPlaces most l (suc n) → items (pushed l x) ≡ items l ++ (x ∷ [])
  one_held l x n h = take_more_set l.places.now l.count x (free l n h)

  one_enough : (l : Lent X) (x : X) (n : ℕ) → EnoughPlaces most l (suc n) → EnoughPlaces most (pushed l x) n
  one_enough l x n h = simp (length-take, length-set) (omega (arith, free l n h, length-take l.count l.places.now))

  pub row_taken : (xs : List X) (l : Lent X) (n : ℕ) → EnoughPlaces most l (length xs + n) → Takes most l xs n
  row_taken [] l n h = record { taken = refl; held = sym (append-nil (items l)); enough = omega arith }
  row_taken (x ∷ xs) l n h =
      let one : EnoughPlaces most l (suc (length xs + n)) = omega arith in
      let r = row_taken xs (pushed l x) n (one_enough l x (length xs + n) one) in
      record {
        taken = and_from (has_place most l) (takes most (pushed l x) xs) (one_taken l (length xs + n) one) r.taken;
        held = r.held ∙ ap (λ ys. ys ++ xs) (one_held l x (length xs + n) one) ∙ append_assoc (items l) (x ∷ []) xs;
        enough = r.enough;
      }
