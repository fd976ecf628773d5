-- A front of some places, with what was read after it.
use Rattle.std.proofs.Common.{◌≡◌, ℕ, ◌+◌, ◌-◌, ◌≤◌, List, ◌++◌, length, take, drop, sym, ap, ◌∙◌, le_refl, drop_at, length-take-le}
use Rattle.std.proofs.lemmas.Slice.{take-put_mid_below}
use borrow.Rule.Slice.PartMut.{put_mid, post_of}
use lib.Seq.{take-add, take-append-le}

-- the first n of what was read into the places from i on come after the first i
pub read_after : (i n : ℕ) (places more : List ℕ) → i ≤ length places → n ≤ length more
    → take i places ++ take n more ≡ take (i + n) (put_mid i (length places - i) places more)
read_after i n places more within fits =
    let room = length places - i in
    let all = put_mid i room places more in
    let after = post_of i room places in
    let tail : take n (drop i all) ≡ take n more = ap (take n) (drop_at (take i places) (more ++ after) i (length-take-le i places within)) ∙ take-append-le n more after fits in
    let front : take i all ≡ take i places = take-put_mid_below _ _ _ _ _ (le_refl _) within in
    ap (λ l. l ++ take n more) (sym front) ∙ ap (λ l. take i all ++ l) (sym tail) ∙ sym (take-add i n all)
