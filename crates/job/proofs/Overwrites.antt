-- Bytes may be written in two parts.
use Rattle.std.proofs.Common.{◌≡◌, ℕ, ◌+◌, ◌≤◌, List, ◌++◌, length, take, drop, ap, ◌∙◌, append_assoc, arith, length-append, length-take-le}
use Rattle.std.proofs.lemmas.List.{drop-drop}
use Rattle.std.proofs.Math.Seq.{take-append_seam, drop-append-add}
use Rattle.job.specs.Writing.{written}

written_more : (bytes : List ℕ) (place : ℕ) (xs ys : List ℕ) → place + length xs ≤ length bytes
    → written (written bytes place xs) (place + length xs) ys ≡ written bytes place (xs ++ ys)
written_more bytes place xs ys room =
    let front = take place bytes in
    let rest = drop (place + length xs) bytes in
    let long : place + length xs ≡ length (front ++ xs) = simp length-append (omega (arith, length-take-le place bytes (omega arith))) in
    let taken : take (place + length xs) (front ++ xs ++ rest) ≡ front ++ xs = ap (λ n. take n (front ++ xs ++ rest)) long ∙ take-append_seam (front ++ xs) rest in
    let dropped : drop (place + length xs + length ys) (front ++ xs ++ rest) ≡ drop (place + length (xs ++ ys)) bytes =
    ap (λ n. drop (n + length ys) (front ++ xs ++ rest)) long ∙ drop-append-add (front ++ xs) rest (length ys)
    ∙ drop-drop (length ys) (place + length xs) bytes ∙ ap (λ n. drop n bytes) (simp length-append (omega arith)) in
    ap (λ zs. zs ++ ys ++ drop (place + length xs + length ys) (front ++ xs ++ rest)) taken
    ∙ ap (λ zs. front ++ xs ++ ys ++ zs) dropped
    ∙ ap (λ zs. zs ++ drop (place + length (xs ++ ys)) bytes) (append_assoc front xs ys)

pub written_then : (bytes : List ℕ) (place : ℕ) (xs ys : List ℕ) {once twice : List ℕ} → once ≡ written bytes place xs → twice ≡ written once (place + length xs) ys
    → place + length xs ≤ length bytes → twice ≡ written bytes place (xs ++ ys)
written_then bytes place xs ys one two room = two ∙ ap (λ bs. written bs (place + length xs) ys) one ∙ written_more bytes place xs ys room
