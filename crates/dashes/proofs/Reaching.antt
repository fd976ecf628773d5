-- How far a dash comes, segment by segment.
use Rattle.std.proofs.Common.{◌≡◌, ℕ, zero as zeroⁿ, suc, ◌+◌, ◌-◌, ◌<◌, ◌≤◌, Bool, true, false, not, ◌&&◌, nat_lt, List, [], ◌∷◌, length, drop, Some, None, Option, sym, refl, ap, ◌∙◌, add-one, arith, drop_of_length-le, length-drop, true≢false, subst, Float}
use Rattle.std.specs.Float.Ieee.{le, eq}
use Rattle.std.specs.List.{slice_get}
use Rattle.std.proofs.Math.Seq.{drop-cons}
use Rattle.std.proofs.lemmas.Bool.{cond_both, ltb-true, and_parts}
use Rattle.std.proofs.lemmas.Option.{slice_get_within, get_or_from_slice_get}
use Rattle.numbers.specs.Arithmetic.{◌⊖◌, zero, one}
use Rattle.curves.specs.declared.line.SegmentTime.{SegmentTime}
use Rattle.segments.specs.declared.segment.Segment.{Segment}
use Rattle.segments.specs.Pieces.{segment_time}
use Rattle.dashes.specs.declared.dasher.reach.Reach.{Reach}
use Rattle.dashes.specs.declared.dasher.walk.Course.{Course}
use Rattle.dashes.specs.declared.dasher.walk.Course.TheVariants.{Plain, Joined, Replayed, Whole, Over}
use Rattle.dashes.specs.declared.dasher.walk.Span.{Span}
use Rattle.dashes.specs.declared.dasher.walk.Walk.{Walk}
use Rattle.dashes.specs.Dashers.{reach_of, first_reach, first_dash, span_of, advanced, goes_on}
use Rattle.dashes.specs.Patterns.{Dashes}
use Rattle.dashes.specs.Spans.{further, reached, reach}

left_from : (xs : List Segment) (i : ℕ) (x : Segment) → slice_get xs i ≡ Some x → drop i xs ≡ x ∷ drop (i + 1) xs
left_from xs i x at = rw (add-one, drop-cons xs i x (slice_get_within xs i x at), get_or_from_slice_get xs i x x at) refl

over_cons : (r : Reach) (i : ℕ) (goal : Float) (x : Segment) (xs : List Segment)
    → further false r i goal (x ∷ xs) ≡ further (le (goal ⊖ (segment_time x goal one).distance) zero) (reached (le (goal ⊖ (segment_time x goal one).distance) zero) i (segment_time x goal one)) (i + 1) (goal ⊖ (segment_time x goal one).distance) xs
unfolding further
over_cons r i goal x xs = refl

-- over one segment
pub goes_over : (r : Reach) (xs : List Segment) (i : ℕ) (goal : Float) (x : Segment) (t : SegmentTime) (b : Bool) {found : Option Segment} → found ≡ slice_get xs i → found ≡ Some x → t ≡ segment_time x goal one → le (goal ⊖ t.distance) zero ≡ b
    → further false r i goal (drop i xs) ≡ further b (reached (le (goal ⊖ t.distance) zero) i t) (i + 1) (goal ⊖ t.distance) (drop (i + 1) xs)
goes_over r xs i goal x t b there is time arrived =
    ap (further false r i goal) (left_from xs i x (sym there ∙ is)) ∙ over_cons r i goal x (drop (i + 1) xs)
    ∙ ap (λ (t : SegmentTime). further (le (goal ⊖ t.distance) zero) (reached (le (goal ⊖ t.distance) zero) i t) (i + 1) (goal ⊖ t.distance) (drop (i + 1) xs)) (sym time)
    ∙ ap (λ (b : Bool). further b (reached (le (goal ⊖ t.distance) zero) i t) (i + 1) (goal ⊖ t.distance) (drop (i + 1) xs)) arrived

pub arrives : (r : Reach) (i : ℕ) (goal : Float) (xs : List Segment) → further true r i goal xs ≡ r
unfolding further
arrives r i goal xs = refl

-- where a dash arrives on a segment, that is all
pub arrives_on : (r : Reach) (xs : List Segment) (i : ℕ) (goal : Float) (x : Segment) (t : SegmentTime) {found : Option Segment} → found ≡ slice_get xs i → found ≡ Some x → t ≡ segment_time x goal one → le (goal ⊖ t.distance) zero ≡ true
    → {whole : Reach} → further false r i goal (drop i xs) ≡ whole → reached (le (goal ⊖ t.distance) zero) i t ≡ whole
arrives_on r xs i goal x t there is time arrived all =
    sym (arrives (reached (le (goal ⊖ t.distance) zero) i t) (i + 1) (goal ⊖ t.distance) (drop (i + 1) xs)) ∙ sym (goes_over r xs i goal x t true there is time arrived) ∙ all

at_end : (r : Reach) (i : ℕ) (goal : Float) → further false r i goal [] ≡ r
unfolding further
at_end r i goal = refl

pub ends : (r : Reach) (i : ℕ) (goal : Float) (xs : List Segment) → length xs ≤ i → further false r i goal (drop i xs) ≡ r
ends r i goal xs h = ap (further false r i goal) (drop_of_length-le xs h) ∙ at_end r i goal

-- where nothing was found the list has ended
pub found_none : {X : Type 0} (xs : List X) (i : ℕ) {found : Option X} → found ≡ slice_get xs i → found ≡ None → length xs ≤ i
found_none [] i there is = omega arith
found_none (y ∷ ys) zeroⁿ there is = absurd (let z : ◌≡◌ {A = ℕ} 0 1 = cc in omega arith)
found_none (y ∷ ys) (suc i) there is = omega (arith, found_none ys i there is)

-- what is reached lies from the first segment on, and on the run
pub record Lies (start n : ℕ) (r : Reach) : Type 0 where
  pub from : start ≤ r.at
  pub within : r.at < n

further_lies : (b : Bool) (r : Reach) (i : ℕ) (goal : Float) (xs : List Segment) (start n : ℕ) → i + length xs ≤ n → start ≤ i → Lies start n r → Lies start n (further b r i goal xs)
unfolding further
further_lies true r i goal xs start n fits from lies = lies
further_lies false r i goal [] start n fits from lies = lies
further_lies false r i goal (x ∷ xs) start n fits from lies =
    let t = segment_time x goal one in
    let left = goal ⊖ t.distance in
    further_lies (le left zero) (reached (le left zero) i t) (i + 1) left xs start n (omega arith) (omega arith) (record { from = from; within = omega arith })

pub reach_lies : (xs : List Segment) (start : ℕ) (along len : Float) → start < length xs → Lies start (length xs) (reach xs start along len)
reach_lies xs start along len h =
    let left : length (drop start xs) ≡ length xs - start = length-drop start xs in
    further_lies false _ start _ (drop start xs) start (length xs) (omega arith) (omega arith) (record { from = omega arith; within = h })

pub reach_of_lies : (xs : List Segment) (w : Walk) (len : Float) → w.cur < length xs → Lies w.cur (length xs) (reach_of xs w len)
reach_of_lies xs w len h = cond_both (eq len zero) _ _ (Lies w.cur (length xs)) (λ _. record { from = omega arith; within = h }) (λ _. reach_lies xs w.cur w.along len h)

first_lies : (p : Dashes) (xs : List Segment) (w : Walk) → w.cur < length xs → Lies 0 (length xs) (first_reach p xs w)
first_lies p xs w h = reach_lies xs 0 zero (first_dash p w) (omega arith)

-- so do spans
pub record Spans (n : ℕ) (s : Span) : Type 0 where
  pub start : s.start < n
  pub end : s.end < n
  pub ordered : s.wraps ≡ false → s.start ≤ s.end

pub span_ends : (p : Dashes) (xs : List Segment) (w : Walk) (r : Reach) (c : Course) → w.cur < length xs → r.at < length xs → (span_of p xs w r c).end < length xs
span_ends p xs w r Plain h within = within
span_ends p xs w r Whole h within = within
span_ends p xs w r Over h within = within
span_ends p xs w r Joined h within = (first_lies p xs w h).within
span_ends p xs w r Replayed h within = (first_lies p xs w h).within

pub span_lies : (p : Dashes) (xs : List Segment) (w : Walk) (r : Reach) (c : Course) → w.cur < length xs → Lies w.cur (length xs) r → Spans (length xs) (span_of p xs w r c)
span_lies p xs w r Plain h lies = record { start = h; end = lies.within; ordered = λ _. lies.from }
span_lies p xs w r Whole h lies = record { start = h; end = lies.within; ordered = λ _. lies.from }
span_lies p xs w r Over h lies = record { start = h; end = lies.within; ordered = λ _. lies.from }
span_lies p xs w r Joined h lies = record { start = h; end = (first_lies p xs w h).within; ordered = λ no. absurd (true≢false no) }
span_lies p xs w r Replayed h lies = record { start = omega arith; end = (first_lies p xs w h).within; ordered = λ _. omega arith }

-- a walk that stands on the run stands on it when it has moved on
pub advanced_stands : (n : ℕ) (w : Walk) → w.cur < n → (advanced n w).cur < n
advanced_stands n w h = cond_both (eq w.t0 one && nat_lt (w.cur + 1) n) _ _ (λ (v : Walk). v.cur < n) (λ is. ltb-true (w.cur + 1) n (and_parts (eq w.t0 one) (nat_lt (w.cur + 1) n) is).1) (λ _. h)

pub on_run : (n : ℕ) (w : Walk) → goes_on n w ≡ true → w.cur < n
on_run n w is = ltb-true w.cur n (and_parts (nat_lt w.cur n) _ (and_parts (not w.done) _ is).1).0

pub stands_after : (xs : List Segment) (w v : Walk) (count : ℕ) → count ≡ length xs → goes_on count w ≡ true → v ≡ advanced count w → v.cur < length xs
stands_after xs w v count all is after =
    let stands : (advanced count w).cur < count = advanced_stands count w (on_run count w is) in
    rw after (subst (λ n. (advanced count w).cur < n) all stands)
