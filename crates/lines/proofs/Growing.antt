-- Texts written one after the other.
use Rattle.std.proofs.Common.{◌≡◌, ℕ, ◌-◌, List, [], ◌∷◌, ◌++◌, length, take, drop, Some, None, Option, Result, IfSome, Ok, Err, refl, sym, ap, ◌∙◌, subst, append_assoc, append-nil, take-append-drop}
use Rattle.std.proofs.lemmas.List.{take_rest}
use Rattle.std.specs.Io.KnownBytes.{Appends}
use Rattle.std.proofs.KnownBytes.{Appends-nil, Appends-trans}
use Rattle.std.proofs.lemmas.Result.{MatchResult-from_err}
use Rattle.std.specs.Result.{IsErr}
use Rattle.lines.specs.declared.line.PrintedLine.{PrintedLine}
use Rattle.lines.specs.Printing.{printed, text_of}
use Rattle.lines.specs.Streams.{GrowsByFront, Writes}

pub none_yet : (a : Option (List ℕ)) (text : List ℕ) → GrowsByFront a a text
none_yet a text = record { front = []; rest = text; whole = refl; grown = Appends-nil a }

-- a front of the second text after the first one
pub front_after : (a b c : Option (List ℕ)) (xs ys : List ℕ) → Appends a b xs → GrowsByFront b c ys → GrowsByFront a c (xs ++ ys)
front_after a b c xs ys first then = record {
  front = xs ++ then.front;
  rest = then.rest;
  whole = ap (λ l. xs ++ l) then.whole ∙ sym (append_assoc xs then.front then.rest);
  grown = Appends-trans a b c xs then.front first then.grown;
}

-- a front of the first text is one of both
pub front_of_first : (a b : Option (List ℕ)) (xs ys : List ℕ) → GrowsByFront a b xs → GrowsByFront a b (xs ++ ys)
front_of_first a b xs ys first = record {
  front = first.front;
  rest = first.rest ++ ys;
  whole = ap (λ l. l ++ ys) first.whole ∙ append_assoc first.front first.rest ys;
  grown = first.grown;
}

pub writes_after : {E : Type 0} (a b c : Option (List ℕ)) (xs ys : List ℕ) (r : Result (Unit {0}) E) → Appends a b xs → Writes b c r ys → Writes a c r (xs ++ ys)
writes_after a b c xs ys (Ok u) first then = Appends-trans a b c xs ys first then
writes_after a b c xs ys (Err e) first then = front_after a b c xs ys first then

-- n bytes more of a text were taken
pub moves_front : (all done rest : List ℕ) (n : ℕ) → all ≡ done ++ rest → all ≡ (done ++ take n rest) ++ take (length rest - n) (drop n rest)
moves_front all done rest n e =
    e ∙ ap (λ l. done ++ l) (sym (take-append-drop n rest)) ∙ sym (append_assoc done (take n rest) (drop n rest)) ∙ ap (λ l. (done ++ take n rest) ++ l) (sym (take_rest rest n))

pub failed : {E : Type 0} (a b : Option (List ℕ)) (text : List ℕ) (r : Result (Unit {0}) E) → IsErr r → GrowsByFront a b text → Writes a b r text
failed a b text r is front = MatchResult-from_err r _ _ is (λ e. front)

pub one_line : (l : PrintedLine) → printed l ≡ text_of (l ∷ [])
unfolding text_of
one_line l = sym (append-nil (printed l))

-- lines after others
pub text_both : (ks ls : List PrintedLine) → text_of (ks ++ ls) ≡ text_of ks ++ text_of ls
unfolding text_of
text_both [] ls = refl
text_both (k ∷ ks) ls = ap (λ t. printed k ++ t) (text_both ks ls) ∙ sym (append_assoc (printed k) _ _)

pub lines_after : {E : Type 0} (a b c : Option (List ℕ)) (ks ls : List PrintedLine) (r : Result (Unit {0}) E) → Appends a b (text_of ks) → Writes b c r (text_of ls) → Writes a c r (text_of (ks ++ ls))
lines_after a b c ks ls r first then = subst (Writes a c r) (sym (text_both ks ls)) (writes_after a b c _ _ r first then)

-- the first of them not whole
pub first_failed : {E : Type 0} (a b : Option (List ℕ)) (ks ls : List PrintedLine) (r : Result (Unit {0}) E) → IsErr r → GrowsByFront a b (text_of ks) → Writes a b r (text_of (ks ++ ls))
first_failed a b ks ls r is front = failed a b _ r is (subst (GrowsByFront a b) (sym (text_both ks ls)) (front_of_first a b _ _ front))

-- nothing was written where reading failed
pub unread : {E : Type 0} (known a : Option (List ℕ)) (text : List ℕ → List ℕ) (r : Result (Unit {0}) E) → IsErr r → IfSome known (λ bytes. Writes a a r (text bytes))
unread None a text r is = tt
unread (Some bytes) a text r is = failed a a (text bytes) r is (none_yet a (text bytes))

-- what was written is by what was read
pub by_read : {E : Type 0} (known a b : Option (List ℕ)) (most : ℕ) (text : List ℕ → List ℕ) (bs : List ℕ) (r : Result (Unit {0}) E)
    → IfSome known (λ bytes. bs ≡ take most bytes) → Writes a b r (text bs) → IfSome known (λ bytes. Writes a b r (text (take most bytes)))
by_read None a b most text bs r read written = tt
by_read (Some bytes) a b most text bs r read written = subst (λ l. Writes a b r (text l)) read written
