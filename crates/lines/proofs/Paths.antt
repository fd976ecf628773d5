-- The lines of a list, up to one of them and after it.
use Rattle.std.proofs.Common.{◌≡◌, ℕ, zero, suc, ◌<◌, List, [], ◌∷◌, ◌++◌, length, map, take, drop, get_or, Option, refl, sym, ap, ◌∙◌, subst, append_assoc, arith}
use Rattle.std.specs.Io.KnownBytes.{Appends}
use Rattle.lines.specs.declared.line.PrintedLine.{PrintedLine}
use Rattle.lines.specs.Printing.{printed, text_of}
use Rattle.lines.specs.Streams.{GrowsByFront}
use Rattle.lines.proofs.Growing.{front_after, front_of_first, text_both}

split_at : {X : Type 0} (f : X → PrintedLine) (xs : List X) (i : ℕ) (d : X) → i < length xs
    → text_of (map f xs) ≡ text_of (map f (take i xs)) ++ text_of (f (get_or xs i d) ∷ map f (drop (suc i) xs))
unfolding text_of
split_at f [] i d h = absurd (omega arith)
split_at f (x ∷ xs) zero d h = refl
split_at f (x ∷ xs) (suc i) d h = ap (λ l. printed (f x) ++ l) (split_at f xs i d (omega arith)) ∙ sym (append_assoc (printed (f x)) _ _)

-- where the line of the one at a place was not written whole
pub front_at : {X : Type 0} (f : X → PrintedLine) (xs : List X) (i : ℕ) (d : X) (a b c : Option (List ℕ)) → i < length xs
    → Appends a b (text_of (map f (take i xs))) → GrowsByFront b c (text_of (f (get_or xs i d) ∷ [])) → GrowsByFront a c (text_of (map f xs))
front_at f xs i d a b c h before last =
    let both = subst (GrowsByFront b c) (sym (text_both (f (get_or xs i d) ∷ []) (map f (drop (suc i) xs)))) (front_of_first b c _ _ last) in
    subst (GrowsByFront a c) (sym (split_at f xs i d h)) (front_after a b c _ _ before both)
