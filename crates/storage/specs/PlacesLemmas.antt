-- Where there is room, one element more stands at the end, and there are as many places as before.
use Rattle.std.specs.Prelude.{◌≡◌, ℕ, ◌+◌, ◌<◌, ◌≤◌, T, List, [], ◌∷◌, ◌++◌, length, take, nat_lt, slice_set}
use Rattle.std.proofs.Common.{sym, ap, ◌∙◌, ltb→lt, subst, append_assoc, append-nil, length-append}
use Rattle.std.proofs.Math.Nat.{lt_irrefl, lt_of_not-le, zero-lt-suc}
use Rattle.std.proofs.lemmas.Bool.{cond-true, lt-ltb}
use Rattle.std.proofs.lemmas.List.{take_all, take_more_set}
use Rattle.lists.specs.Fixed.{Places, pushed}
use Rattle.storage.specs.Places.{place_number}

-- fewer elements in front than there are places: the count is not past the last place
room_left : {X : Type 0} (xs : List X) (n : ℕ) → T (nat_lt (length (take n xs)) (length xs)) → n < length xs
room_left xs n fits =
    lt_of_not-le (λ (past : length xs ≤ n).
    lt_irrefl (length xs) (subst (λ k. k < length xs) (ap length (take_all n xs past)) (ltb→lt (length (take n xs)) (length xs) fits)))

pub front_grows : {X : Type 0} (xs : List X) (n : ℕ) (x : X) → T (nat_lt (length (take n xs)) (length xs)) → take (n + 1) (slice_set xs n x) ≡ take n xs ++ (x ∷ [])
front_grows xs n x fits = take_more_set xs n x (room_left xs n fits)

full : {X : Type 0} {P : Type 0} (xs : List X) → T (nat_lt (length xs) (length (xs ++ []))) → P
full xs fits = absurd (lt_irrefl (length xs) (subst (λ k. length xs < k) (ap length (append-nil xs)) (ltb→lt (length xs) (length (xs ++ [])) fits)))

-- where a place is left, a push takes it
takes_place : {X : Type 0} (xs ys : List X) (x y : X) → pushed (record { items = xs; spare = y ∷ ys }) x ≡ record { items = xs ++ x ∷ []; spare = ys }
takes_place xs ys x y = cond-true (nat_lt 0 (length (y ∷ ys))) _ _ (lt-ltb 0 (length (y ∷ ys)) (zero-lt-suc (length ys)))

spare_grows : {X : Type 0} (xs ys : List X) (x : X) → T (nat_lt (length xs) (length (xs ++ ys))) → (pushed (record { items = xs; spare = ys }) x).items ≡ xs ++ (x ∷ [])
spare_grows xs [] x fits = full xs fits
spare_grows xs (y ∷ ys) x fits = λ i. (takes_place xs ys x y i).items

pub own_grows : {X : Type 0} (p : Places X) (x : X) → T (nat_lt (length p.items) (place_number p)) → (pushed p x).items ≡ p.items ++ (x ∷ [])
own_grows p x fits = spare_grows p.items p.spare x fits

spare_moves : {X : Type 0} (xs ys : List X) (x : X) → T (nat_lt (length xs) (length (xs ++ ys))) → place_number (pushed (record { items = xs; spare = ys }) x) ≡ length (xs ++ ys)
spare_moves xs [] x fits = full xs fits
spare_moves xs (y ∷ ys) x fits =
    ap place_number (takes_place xs ys x y) ∙ ap length (append_assoc xs (x ∷ []) ys) ∙ length-append xs (x ∷ ys) ∙ sym (length-append xs (y ∷ ys))

pub own_pushed : {X : Type 0} (p : Places X) (x : X) → T (nat_lt (length p.items) (place_number p)) → place_number (pushed p x) ≡ place_number p
own_pushed p x fits = spare_moves p.items p.spare x fits
