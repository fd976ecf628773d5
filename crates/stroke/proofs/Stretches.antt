-- The pieces of a dash, by place.
use Rattle.std.proofs.Common.{◌≡◌, ℕ, zero, suc, ◌+◌, ◌-◌, ◌<◌, ◌≤◌, ◌==◌, cond, List, [], ◌∷◌, ◌++◌, length, take, drop, get_or, ℤ, pos, negsuc, neg_ℤ, ◌≤ℤ◌, ◌<ℤ◌, Some, None, Option, sym, refl, ap, ◌∙◌, arith, length-append, add-one, true, false, drop-drop}
use Rattle.std.specs.Prelude.{Float}
use Rattle.std.specs.List.{slice_get}
use Rattle.std.specs.Float.Ieee.{le}
use Rattle.std.proofs.lemmas.Bool.{cond_both, eqb-true, eqb-false, ne_eqb, cond-true, cond-false}
use Rattle.std.proofs.lemmas.List.{get_or-take, get_or-drop, length-drop, length-take-le}
use Rattle.std.proofs.lemmas.Option.{slice_get_within, slice_get_past, get_or_from_slice_get}
use Rattle.std.proofs.Math.Seq.{drop-cons}
use Rattle.numbers.specs.Arithmetic.{zero as zero_f, one}
use Rattle.segments.specs.declared.segment.Segment.{Segment}
use Rattle.segments.specs.Pieces.{segment_slice}
use Rattle.stroke.specs.Ranges.{twice_place, sliced, stretch, ranged, pieces, dash_dot, dash_of}
use Rattle.stroke.specs.Outlines.{capped_outline}
use Rattle.dashes.specs.declared.dasher.Range.{Range}
use Rattle.dashes.specs.Spans.{is_dot}
use Rattle.dashes.specs.Walks.{Within}
use Rattle.std.proofs.lemmas.Int.{ints}
use Rattle.dashes.proofs.Reaching.{found_none}

pub length_sliced : (t0 t1 : Float) (ys : List Segment) → length (sliced t0 t1 ys) ≡ length ys
unfolding sliced
length_sliced t0 t1 [] = refl
length_sliced t0 t1 (x ∷ []) = refl
length_sliced t0 t1 (x ∷ y ∷ ys) = ap suc (length_sliced zero_f t1 (y ∷ ys))

length_part : (xs : List Segment) (from count : ℕ) → from + count ≤ length xs + length xs → length (take count (drop from (xs ++ xs))) ≡ count
length_part xs from count within = length-take-le count (drop from (xs ++ xs)) (omega (arith, length-drop from (xs ++ xs), length-append xs xs))

pub length_taken : (t0 t1 : Float) (xs : List Segment) (from count : ℕ) → from + count ≤ length xs + length xs → length (sliced t0 t1 (take count (drop from (xs ++ xs)))) ≡ count
length_taken t0 t1 xs from count within = length_sliced t0 t1 _ ∙ length_part xs from count within

-- where a piece begins
abbrev begins : Float → ℕ → Float
begins t0 zero = t0
begins t0 (suc k) = zero_f

begins_at : (t0 : Float) (k : ℕ) → begins t0 k ≡ cond (k == 0) t0 zero_f
begins_at t0 zero = refl
begins_at t0 (suc k) = sym (cond-false (suc k == 0) t0 zero_f (ne_eqb (suc k) 0 (λ e. omega (arith, e))))

-- the last piece ends at the time told, and one before it at the end of its segment
sliced_last : (t0 t1 : Float) (ys : List Segment) (k : ℕ) (d : Segment) → k + 1 ≡ length ys
    → slice_get (sliced t0 t1 ys) k ≡ Some (segment_slice (get_or ys k d) (begins t0 k) t1)
unfolding sliced
sliced_last t0 t1 [] k d last = absurd (omega (arith, last))
sliced_last t0 t1 (x ∷ []) zero d last = refl
sliced_last t0 t1 (x ∷ []) (suc k) d last = absurd (omega (arith, last))
sliced_last t0 t1 (x ∷ y ∷ ys) zero d last = absurd (omega (arith, last))
sliced_last t0 t1 (x ∷ y ∷ ys) (suc zero) d last = sliced_last zero_f t1 (y ∷ ys) zero d (omega (arith, last))
sliced_last t0 t1 (x ∷ y ∷ ys) (suc (suc k)) d last = sliced_last zero_f t1 (y ∷ ys) (suc k) d (omega (arith, last))

sliced_inner : (t0 t1 : Float) (ys : List Segment) (k : ℕ) (d : Segment) → k + 1 < length ys
    → slice_get (sliced t0 t1 ys) k ≡ Some (segment_slice (get_or ys k d) (begins t0 k) one)
unfolding sliced
sliced_inner t0 t1 [] k d inner = absurd (omega (arith, inner))
sliced_inner t0 t1 (x ∷ []) k d inner = absurd (omega (arith, inner))
sliced_inner t0 t1 (x ∷ y ∷ ys) zero d inner = refl
sliced_inner t0 t1 (x ∷ y ∷ ys) (suc zero) d inner = sliced_inner zero_f t1 (y ∷ ys) zero d (omega (arith, inner))
sliced_inner t0 t1 (x ∷ y ∷ ys) (suc (suc k)) d inner = sliced_inner zero_f t1 (y ∷ ys) (suc k) d (omega (arith, inner))

-- the piece at a place
sliced_get : (t0 t1 : Float) (ys : List Segment) (n k : ℕ) (d : Segment) → length ys ≡ n → k < n
    → slice_get (sliced t0 t1 ys) k ≡ Some (segment_slice (get_or ys k d) (cond (k == 0) t0 zero_f) (cond (n == k + 1) t1 one))
sliced_get t0 t1 ys n k d is within =
    cond_both (n == k + 1) t1 one (λ (e : Float). slice_get (sliced t0 t1 ys) k ≡ Some (segment_slice (get_or ys k d) (begins t0 k) e))
    (λ e. sliced_last t0 t1 ys k d (omega (arith, is, eqb-true n (k + 1) e)))
    (λ e. sliced_inner t0 t1 ys k d (let ne = eqb-false n (k + 1) e in omega (arith, is, ne)))
    ∙ ap (λ (b : Float). Some (segment_slice (get_or ys k d) b (cond (n == k + 1) t1 one))) (begins_at t0 k)

-- a place of the run written twice
get_first : (xs ys : List Segment) (i : ℕ) → i < length xs → slice_get xs i ≡ slice_get (xs ++ ys) i
get_first [] ys i here = absurd (omega arith)
get_first (x ∷ xs) ys zero here = refl
get_first (x ∷ xs) ys (suc i) here = get_first xs ys i (omega arith)

get_again : (xs ys : List Segment) (i : ℕ) → length xs ≤ i → slice_get ys (i - length xs) ≡ slice_get (xs ++ ys) i
get_again [] ys i past = ap (slice_get ys) (omega arith)
get_again (x ∷ xs) ys zero past = absurd (omega arith)
get_again (x ∷ xs) ys (suc i) past = ap (slice_get ys) (omega arith) ∙ get_again xs ys i (omega arith)

pub twice_first : (xs : List Segment) (i : ℕ) {found : Option Segment} → i < length xs → found ≡ slice_get xs i → found ≡ slice_get (xs ++ xs) i
twice_first xs i here there = there ∙ get_first xs xs i here

pub twice_again : (xs : List Segment) (i n : ℕ) {found : Option Segment} → n ≡ length xs → n ≤ i → found ≡ slice_get xs (i - n) → found ≡ slice_get (xs ++ xs) i
twice_again xs i n is past there = there ∙ ap (λ m. slice_get xs (i - m)) is ∙ get_again xs xs i (omega (arith, is))

-- so the piece at a place of a stretch is that of the segment there
pub stretch_get : (t0 t1 : Float) (xs : List Segment) (from count k : ℕ) (x : Segment) {found : Option Segment} → from + count ≤ length xs + length xs → k < count
    → found ≡ slice_get (xs ++ xs) (from + k) → found ≡ Some x
    → Some (segment_slice x (cond (k == 0) t0 zero_f) (cond (count == k + 1) t1 one)) ≡ slice_get (sliced t0 t1 (take count (drop from (xs ++ xs)))) k
stretch_get t0 t1 xs from count k x fits within there is =
    let got = get_or-take count (drop from (xs ++ xs)) k x within ∙ get_or-drop from (xs ++ xs) k x ∙ get_or_from_slice_get (xs ++ xs) (from + k) x x (sym there ∙ is) in
    ap (λ (y : Segment). Some (segment_slice y (cond (k == 0) t0 zero_f) (cond (count == k + 1) t1 one))) (sym got)
    ∙ sym (sliced_get t0 t1 (take count (drop from (xs ++ xs))) count k x (length_part xs from count fits) within)

-- there is one
pub stretch_found : {P : Type 0} (xs : List Segment) (from count k : ℕ) {found : Option Segment} → from + count ≤ length xs + length xs → k < count
    → found ≡ slice_get (xs ++ xs) (from + k) → found ≡ None → P
stretch_found xs from count k fits within there is = absurd (let past = found_none (xs ++ xs) (from + k) there is in omega (arith, past, length-append xs xs))

-- and past the last none
pub stretch_past : (t0 t1 : Float) (xs : List Segment) (from count k : ℕ) → from + count ≤ length xs + length xs → count ≤ k → None ≡ slice_get (sliced t0 t1 (take count (drop from (xs ++ xs)))) k
stretch_past t0 t1 xs from count k fits past = sym (slice_get_past (sliced t0 t1 (take count (drop from (xs ++ xs)))) k (omega (arith, length_taken t0 t1 xs from count fits)))

drop_first : {X : Type 0} (n : ℕ) (xs : List X) → drop 1 (take (n + 1) xs) ≡ take n (drop 1 xs)
drop_first zero [] = refl
drop_first (suc n) [] = rw add-one refl
drop_first n (x ∷ xs) = rw add-one refl

-- the places of a stretch
part_of : (xs : List Segment) (from to n : ℕ) → n ≡ to + 1 - from → take n (drop from (xs ++ xs)) ≡ stretch xs from to
part_of xs from to n is = ap (λ m. take m (drop from (xs ++ xs))) is

-- and all but the first
part_past : (xs : List Segment) (from to from' count : ℕ) → from ≤ to → from' ≡ from + 1 → count ≡ to - from → take count (drop from' (xs ++ xs)) ≡ drop 1 (stretch xs from to)
part_past xs from to from' count order next few =
    ap (λ i. take count (drop i (xs ++ xs))) next ∙ ap (take count) (sym (drop-drop 1 from (xs ++ xs))) ∙ sym (drop_first count (drop from (xs ++ xs)))
    ∙ ap (drop 1) (part_of xs from to (count + 1) (omega (arith, few)))

-- the pieces of a dash that begins at the end of its first segment, and of any other
pub pieces_past : (t0 t1 : Float) (xs : List Segment) (from to from' count : ℕ) → from ≤ to → le one t0 ≡ true → from' ≡ from + 1 → count ≡ to - from
    → sliced zero_f t1 (take count (drop from' (xs ++ xs))) ≡ pieces t0 t1 (stretch xs from to)
pieces_past t0 t1 xs from to from' count order past next few =
    ap (sliced zero_f t1) (part_past xs from to from' count order next few) ∙ sym (cond-true (le one t0) (sliced zero_f t1 (drop 1 (stretch xs from to))) (sliced t0 t1 (stretch xs from to)) past)

pub pieces_from : (t0 t1 : Float) (xs : List Segment) (from to count : ℕ) → from ≤ to → le one t0 ≡ false → count ≡ to - from + 1
    → sliced t0 t1 (take count (drop from (xs ++ xs))) ≡ pieces t0 t1 (stretch xs from to)
pieces_from t0 t1 xs from to count order before few =
    ap (sliced t0 t1) (part_of xs from to count (omega (arith, few))) ∙ sym (cond-false (le one t0) (sliced zero_f t1 (drop 1 (stretch xs from to))) (sliced t0 t1 (stretch xs from to)) before)

-- The places of a range, where the run is written twice: in order, and on it.
pub record Placed (n : ℕ) (first last : ℤ) : Type 0 where
  pub ordered : twice_place n first ≤ twice_place n last
  pub inside : twice_place n last < n + n
  pub same : twice_place n first ≡ twice_place n last → first ≡ last

pub placed : (n : ℕ) (r : Range) → Within n r → Placed n r.start r.end
placed n r w = signs r.start r.end w.low w.ordered w.high where
  signs : (first last : ℤ) → neg_ℤ (pos n) ≤ℤ first → first ≤ℤ last → last <ℤ pos n → Placed n first last
  signs (pos i) (pos j) low order high = record { ordered = omega (arith, ints); inside = omega (arith, ints); same = λ e. ap pos (omega (arith, e)) }
  signs (pos i) (negsuc j) low order high = absurd (omega (arith, ints))
  signs (negsuc i) (pos j) low order high = record { ordered = omega (arith, ints); inside = omega (arith, ints); same = λ e. absurd (omega (arith, ints, e)) }
  signs (negsuc i) (negsuc j) low order high = record { ordered = omega (arith, ints); inside = omega (arith, ints); same = λ e. ap negsuc (omega (arith, ints, e)) }

-- a stretch begins with the segment at its first place
stretch_first : (xs : List Segment) (from to : ℕ) (x : Segment) {found : Option Segment} → from ≤ to → found ≡ slice_get (xs ++ xs) from → found ≡ Some x
    → stretch xs from to ≡ x ∷ take (to - from) (drop (suc from) (xs ++ xs))
stretch_first xs from to x order there is =
    let at = sym there ∙ is in
    let long : to + 1 - from ≡ suc (to - from) = omega arith in
    ap (λ n. take n (drop from (xs ++ xs))) long
    ∙ ap (take (suc (to - from))) (drop-cons (xs ++ xs) from x (slice_get_within (xs ++ xs) from x at))
    ∙ ap (λ (y : Segment). y ∷ take (to - from) (drop (suc from) (xs ++ xs))) (get_or_from_slice_get (xs ++ xs) from x x at)

-- a dash of length 0 is drawn at its first place, which lies on the run
pub dot_there : (xs : List Segment) (r : Range) (x : Segment) {n from : ℕ} {found : Option Segment} → n ≡ length xs → from ≡ twice_place n r.start → Within (length xs) r → is_dot r ≡ true
    → found ≡ slice_get (xs ++ xs) from → found ≡ Some x → dash_dot r.t0 (x ∷ []) ≡ dash_of xs r
dot_there xs r x long from w dot there is =
    let at = from ∙ ap (λ m. twice_place m r.start) long in
    let p = placed (length xs) r w in
    sym (ap (dash_dot r.t0) (stretch_first xs (twice_place (length xs) r.start) (twice_place (length xs) r.end) x p.ordered (there ∙ ap (slice_get (xs ++ xs)) at) is))
    ∙ sym (cond-true (is_dot r) (dash_dot r.t0 (ranged xs r)) (capped_outline true (pieces r.t0 r.t1 (ranged xs r))) dot)

pub dot_found : {P : Type 0} (xs : List Segment) (r : Range) {n from : ℕ} {found : Option Segment} → n ≡ length xs → from ≡ twice_place n r.start → Within (length xs) r
    → found ≡ slice_get (xs ++ xs) from → found ≡ None → P
dot_found xs r long from w there is =
    let p = placed (length xs) r w in
    absurd (let past = found_none (xs ++ xs) _ there is in omega (arith, past, p.ordered, p.inside, from ∙ ap (λ m. twice_place m r.start) long, length-append xs xs))

-- what is got from a stretch, and where it begins
pub ruleset gotten = (stretch_past, stretch_get, stretch_found)

pub ruleset begun = (pieces_past, pieces_from)
