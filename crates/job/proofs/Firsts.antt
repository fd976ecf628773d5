-- The first item of a row of bytes: how long it is, and at a place in a longer row.
use Rattle.std.proofs.Common.{◌≡◌, ℕ, suc, ◌+◌, ◌≤◌, leb, List, [], ◌∷◌, length, drop, Some, None, Ok, Option, Result, sym, ap, subst, inl, inr, arith, length-drop}
use Rattle.std.proofs.lemmas.List.{drop_all}
use Rattle.std.proofs.lemmas.Bool.{cond_both, cases_lt, leb-true}
use Rattle.path.specs.declared.refusal.Reason.{Reason}
use Rattle.job.specs.declared.item.Item.{Item}
use Rattle.job.specs.Reading.{width_of, item_of, asked, taken, found, first, Within}

-- past the end of a row
first_past : (bytes : List ℕ) (i : ℕ) → length bytes ≤ i → Ok None ≡ first (drop i bytes)
first_past bytes i h = sym (ap first (drop_all i bytes h))

taken_within : (place n : ℕ) (o : Option Item) (w : ℕ) → place + (1 + w) ≤ n → Within place n (found (taken o (1 + w)))
taken_within place n None w h = tt
taken_within place n (Some i) w h = (omega arith, h)

asked_within : (place n : ℕ) (o : Option ℕ) (bytes : List ℕ) (i : Option Item) → place + suc (length bytes) ≤ n → Within place n (found (asked o bytes i))
asked_within place n None bytes i h = tt
asked_within place n (Some w) bytes i h =
    cond_both (leb w (length bytes)) _ _ (λ (r : Result (Item × ℕ) Reason). Within place n (found r))
    (λ e. taken_within place n i w (omega (arith, leb-true w (length bytes) e))) (λ e. tt)

first_within : (place n : ℕ) (bytes : List ℕ) → place + length bytes ≤ n → Within place n (first bytes)
first_within place n [] h = tt
first_within place n (c ∷ bytes) h = asked_within place n (width_of c) bytes (item_of c bytes) h

within_all : (bytes : List ℕ) (i : ℕ) → Within i (length bytes) (first (drop i bytes))
within_all bytes i = elim (cases_lt i (length bytes)) [
  | inl h ↦ first_within i (length bytes) (drop i bytes) (simp length-drop (omega arith))
  | inr h ↦ subst (Within i (length bytes)) (first_past bytes i h) tt
]

-- what is found at a place ends within the row
pub within_at : (bytes : List ℕ) (i : ℕ) {r : Result (Option (Item × ℕ)) Reason} → r ≡ first (drop i bytes) → Within i (length bytes) r
within_at bytes i e = subst (Within i (length bytes)) (sym e) (within_all bytes i)
