-- How many events an outline has, questions and commands together.
use Rattle.std.proofs.Common.{◌≡◌, ℕ, zero, suc, ◌+◌, ◌*◌, ◌≤◌, Bool, true, false, ◌&&◌, List, [], ◌∷◌, ◌++◌, map, length, reverse, drop, refl, ap, arith, length-append, length-take, length-drop}
use Rattle.std.proofs.lemmas.List.{length-map, length-reverse}
use lib.Ieee.{Float, eq, neg, le}
use Rattle.std.proofs.lemmas.Bool.{cond_both}
use Rattle.numbers.specs.Arithmetic.{◌⊕◌, ◌⊗◌, one}
use Rattle.numbers.specs.Arithmetic.{zero as zeroᶠ}
use Rattle.curves.specs.Curves.{two, three}
use Rattle.maths.specs.Functions.{Functions}
use Rattle.maths.specs.Questions.{Question}
use Rattle.maths.specs.declared.host.Function.TheVariants.{Sine, Cosine, ArcCosine}
use Rattle.path.specs.declared.geometry.Vector.{Vector}
use Rattle.path.specs.declared.command.Command.{Command}
use Rattle.path.specs.declared.command.Command.TheVariants.{MoveTo, LineTo, Close}
use Rattle.path.specs.declared.style.Cap.{Cap}
use Rattle.path.specs.declared.style.Cap.TheVariants as cap-is
use Rattle.path.specs.Vectors.{vector, sum, multiple, difference}
use Rattle.segments.specs.declared.segment.Segment.{Segment}
use Rattle.segments.specs.declared.segment.Segment.TheVariants.{Line, Curve, End}
use Rattle.pen.specs.declared.nib.Nib.{Nib}
use Rattle.pen.specs.declared.offset.OffsetSegment.{OffsetSegment}
use Rattle.pen.specs.declared.corner.Turn.{Turn}
use Rattle.pen.specs.declared.corner.Corner.{Corner}
use Rattle.pen.specs.declared.corner.Corner.TheVariants.{Meet, Inner, Bevel, Round, NegativeDot, PastLimit, Miter}
use Rattle.pen.specs.Corners.{corner_of}
use Rattle.arcs.specs.declared.arc_to.ArcTo.{ArcTo}
use Rattle.arcs.specs.Centres.{half_chord}
use Rattle.arcs.specs.Sweeps.{quarter, first_axis, cosine_between, turn_of, curves_needed, count_of, bulge_questions, sweep_of}
use Rattle.arcs.specs.Curves.{ellipse, all_curves, all_questions, no_chord, turned_of, centred_of, round_curves, round_all_questions, arc_curves, arc_questions}
use Rattle.pen.specs.Joins.{shaped, shaped_questions, split_corner, half_circle}
use Rattle.pen.specs.Caps.{cap_commands, cap_questions}
use Rattle.stroke.specs.Events.{Event, asks, sends, Plan, commands}
use Rattle.stroke.specs.Outlines.{turn_between, emitted, join_events, split_events, cap_events, same_mark, between, one_onward, onward, side, other_side, sides, other_sides, last_side, end_cap_events, start_cap_events, cross_events, capped_ring, closed_ring, around, capped_outline, closed_outline, ring_outline, across, spot, has_cap, first_point, is_lone_dot, lone_dot, outline}
use Rattle.stroke.specs.Ranges.{ranged, sliced, pieces, dot_slice, dot_around, dash_dot, dash_of}
use Rattle.dashes.specs.declared.dasher.Range.{Range}
use Rattle.dashes.specs.Spans.{is_dot}
use Rattle.stroke.specs.Contours.{row}

both_long : (qs : List Question) (cs : List Command) → length (map asks qs ++ map sends cs) ≡ length qs + length cs
both_long qs cs = simp (length-append, length-map)

-- an arc: 2 questions for its angle, at most 3 for its sweep, and 4 for each of at most 4 curves
curves_long : (n : ℕ) (F : Functions) (e : _) (t each : Float) → length (all_curves n F e t each) ≡ n
unfolding all_curves
curves_long zero F e t each = refl
curves_long (suc n) F e t each = ap suc (curves_long n F e (t ⊕ each) each)

questions_long : (n : ℕ) (t each : Float) → length (all_questions n t each) ≡ 4 * n
unfolding all_questions
questions_long zero t each = refl
questions_long (suc n) t each = omega (arith, questions_long n (t ⊕ each) each)

few_curves : (x : Float) → count_of x ≤ 4
few_curves x = cond_both (le x one) 1 _ (λ n. n ≤ 4) (λ _. omega arith) (λ _. cond_both (le x two) 2 _ (λ n. n ≤ 4) (λ _. omega arith) (λ _. cond_both (le x three) 3 4 (λ n. n ≤ 4) (λ _. omega arith) (λ _. omega arith)))

bulge_few : (e : Float) → length (bulge_questions e) ≤ 1
bulge_few e = cond_both (eq e quarter) [] _ (λ (l : List Question). length l ≤ 1) (λ _. omega arith) (λ _. cond_both (eq e (neg quarter)) [] _ (λ (l : List Question). length l ≤ 1) (λ _. omega arith) (λ _. omega arith))

by_count : (n : ℕ) (l : List Command) → length l ≡ n → n ≤ 4 → length l ≤ 4
by_count n l is h = omega arith

round_curves_few : (F : Functions) (a : ArcTo) (t c : _) → length (round_curves F a t c) ≤ 4
round_curves_few F a t c = let s = sweep_of F a c in by_count s.count _ (curves_long s.count F (ellipse c t s) s.start s.each) (few_curves (curves_needed (turn_of F a c)))

pub arc_curves_few : (F : Functions) (scaled : Bool) (a : ArcTo) → length (arc_curves F scaled a) ≤ 4
unfolding arc_curves
arc_curves_few F scaled a = cond_both (no_chord (half_chord a (turned_of F a.angle))) [] (round_curves F a (turned_of F a.angle) (centred_of F scaled a)) (λ (l : List Command). length l ≤ 4) (λ _. omega arith) (λ _. round_curves_few F a _ _)

-- questions for a sweep before those for its curves, and for the angle before both
sweep_few : (p q : Question) (qs rs : List Question) (n : ℕ) → length qs ≤ 1 → length rs ≡ 4 * n → n ≤ 4 → length (p ∷ q ∷ (qs ++ rs)) ≤ 19
sweep_few p q qs rs n h k m = simp length-append (omega arith)

angle_few : (p q : Question) (qs : List Question) → length qs ≤ 19 → length (p ∷ q ∷ qs) ≤ 21
angle_few p q qs h = omega arith

round_few : (F : Functions) (a : ArcTo) (c : _) → length (round_all_questions F a c) ≤ 19
round_few F a c =
    let s = sweep_of F a c in
    sweep_few (ArcCosine, cosine_between first_axis c.start) (ArcCosine, cosine_between c.start c.end) (bulge_questions s.each) (all_questions s.count s.start s.each) s.count (bulge_few s.each) (questions_long s.count s.start s.each) (few_curves (curves_needed (turn_of F a c)))

pub arc_questions_few : (F : Functions) (scaled : Bool) (a : ArcTo) → length (arc_questions F scaled a) ≤ 21
unfolding arc_questions
arc_questions_few F scaled a =
    angle_few (Sine, a.angle) (Cosine, a.angle) _ (cond_both (no_chord (half_chord a (turned_of F a.angle))) [] (round_all_questions F a (centred_of F scaled a)) (λ (l : List Question). length l ≤ 19) (λ _. omega arith) (λ _. round_few F a (centred_of F scaled a)))

-- a join or a cap
abbrev Few : List Event → Type 0
Few es = length es ≤ 25

few_events : (qs : List Question) (cs : List Command) → length qs ≤ 21 → length cs ≤ 4 → Few (map asks qs ++ map sends cs)
few_events qs cs h k = omega (arith, both_long qs cs)

shaped_few : (F : Functions) (c : Corner) (nib : Nib) (t : Turn) → length (shaped F c nib t) ≤ 4
shaped_few F Meet nib t = omega arith
shaped_few F Inner nib t = omega arith
shaped_few F Bevel nib t = omega arith
shaped_few F Round nib t = arc_curves_few F false (half_circle nib.radius t)
shaped_few F NegativeDot nib t = omega arith
shaped_few F PastLimit nib t = omega arith
shaped_few F Miter nib t = omega arith

shaped_questions_few : (F : Functions) (c : Corner) (nib : Nib) (t : Turn) → length (shaped_questions F c nib t) ≤ 21
shaped_questions_few F Meet nib t = omega arith
shaped_questions_few F Inner nib t = omega arith
shaped_questions_few F Bevel nib t = omega arith
shaped_questions_few F Round nib t = arc_questions_few F false (half_circle nib.radius t)
shaped_questions_few F NegativeDot nib t = omega arith
shaped_questions_few F PastLimit nib t = omega arith
shaped_questions_few F Miter nib t = omega arith

capped_few : (F : Functions) (shape : Cap) (r : Float) (t : Turn) → length (cap_commands F shape r t) ≤ 4
capped_few F cap-is.Butt r t = omega arith
capped_few F cap-is.Square r t = omega arith
capped_few F cap-is.Round r t = arc_curves_few F false (half_circle r t)

capped_questions_few : (F : Functions) (shape : Cap) (r : Float) (t : Turn) → length (cap_questions F shape r t) ≤ 21
capped_questions_few F cap-is.Butt r t = omega arith
capped_questions_few F cap-is.Square r t = omega arith
capped_questions_few F cap-is.Round r t = arc_questions_few F false (half_circle r t)

-- a side, and all sides one after the other
emitted_few : (s : Segment) → length (map sends (emitted s)) ≤ 1
emitted_few (Line i l) = omega arith
emitted_few (Curve i k) = omega arith
emitted_few (End closed) = omega arith

one_side : (es fs : List Event) → Few es → length fs ≤ 1 → length (es ++ fs) ≤ 26
one_side es fs h k = simp length-append (omega arith)

more_few : (es fs : List Event) (n : ℕ) → length es ≤ 26 → length fs ≤ 26 * n → length (es ++ fs) ≤ 26 * suc n
more_few es fs n h k = simp length-append (omega arith)

-- there, across, back and across, with the move, the first side and the close
way_round : (b es cs fs gs : List Event) (c e : Event) (n k : ℕ) → length b ≤ 1 → length es ≤ 26 * n → length cs ≤ 26 → length fs ≤ 26 * k → Few gs
    → length (c ∷ (b ++ (es ++ (cs ++ (fs ++ (gs ++ (e ∷ []))))))) ≤ 26 * (n + k) + 55
way_round b es cs fs gs c e n k hb he hc hf hg = simp length-append (omega arith)

twice_round : (es os fs : List Event) (c d e : Event) (n k : ℕ) → length es ≤ 26 * suc n → length os ≤ 26 → length fs ≤ 26 * k → length (c ∷ (es ++ (d ∷ (os ++ (fs ++ (e ∷ [])))))) ≤ 26 * (n + k) + 55
twice_round es os fs c d e n k he ho hf = simp length-append (omega arith)

two_caps : (e : Event) (es fs : List Event) → Few es → Few fs → length (e ∷ (es ++ fs)) ≤ 51
two_caps e es fs h k = simp length-append (omega arith)

and_close : (es : List Event) (k : ℕ) → length es ≤ 51 → length (es ++ (sends Close ∷ [])) ≤ 55 * suc k
and_close es k h = simp length-append (omega arith)

sliced_long : (t0 t1 : Float) (ys : List Segment) → length (sliced t0 t1 ys) ≤ length ys
unfolding sliced
sliced_long t0 t1 [] = omega arith
sliced_long t0 t1 (x ∷ []) = omega arith
sliced_long t0 t1 (x ∷ y ∷ ys) = omega (arith, sliced_long zeroᶠ t1 (y ∷ ys))

pieces_long : (t0 t1 : Float) (ys : List Segment) → length (pieces t0 t1 ys) ≤ length ys
pieces_long t0 t1 ys =
    cond_both (le one t0) (sliced zeroᶠ t1 (drop 1 ys)) (sliced t0 t1 ys) (λ (zs : List Segment). length zs ≤ length ys)
    (λ _. omega (arith, sliced_long zeroᶠ t1 (drop 1 ys), length-drop 1 ys)) (λ _. sliced_long t0 t1 ys)

-- the parts of an outline, by functions and a nib
module _ (F : Functions) (nib : Nib) where
  -- so many events
  abbrev AtMost : ℕ → Plan → Type 0
  AtMost n E = length (E F nib) ≤ n

  join_few : (t : Turn) → Few (join_events t F nib)
  join_few t = few_events (shaped_questions F (corner_of nib t) nib t) (shaped F (corner_of nib t) nib t) (shaped_questions_few F (corner_of nib t) nib t) (shaped_few F (corner_of nib t) nib t)

  split_few : (t : Turn) → Few (split_events t F nib)
  split_few t = few_events (shaped_questions F (split_corner t) nib t) (shaped F (split_corner t) nib t) (shaped_questions_few F (split_corner t) nib t) (shaped_few F (split_corner t) nib t)

  between_few : (split : Bool) (o p : OffsetSegment) → Few (between split o p F nib)
  between_few split o p =
      let t = turn_between o p in
      cond_both (split && same_mark o p) (split_events t) (join_events t) (λ (E : Plan). Few (E F nib)) (λ _. split_few t) (λ _. join_few t)

  cap_few : (shape : Cap) (t : Turn) → Few (cap_events shape t F nib)
  cap_few shape t = few_events (cap_questions F shape nib.radius t) (cap_commands F shape nib.radius t) (capped_questions_few F shape nib.radius t) (capped_few F shape nib.radius t)

  -- sides
  one_few : (split : Bool) (o p : OffsetSegment) → AtMost 26 (one_onward split o p)
  unfolding one_onward
  one_few split o p = one_side (between split o p F nib) (map sends (emitted p.segment)) (between_few split o p) (emitted_few p.segment)

  onward_few : (split : Bool) (o : OffsetSegment) (ps : List OffsetSegment) → AtMost (26 * length ps) (onward split o ps)
  unfolding onward
  onward_few split o [] = omega arith
  onward_few split o (p ∷ ps) = more_few (one_onward split o p F nib) (onward split p ps F nib) (length ps) (one_few split o p) (onward_few split p ps)

  cross_few : (o p : OffsetSegment) → AtMost 26 (cross_events o p)
  cross_few o p = one_side (end_cap_events (turn_between o p) F nib) (map sends (emitted p.segment)) (cap_few nib.end_cap (turn_between o p)) (emitted_few p.segment)

  -- rings
  abbrev RingFew : (OffsetSegment → List OffsetSegment → OffsetSegment → List OffsetSegment → Plan) → Type 0
  RingFew ring = (o : OffsetSegment) (os : List OffsetSegment) (p : OffsetSegment) (ps : List OffsetSegment) → AtMost (26 * (length os + length ps) + 55) (ring o os p ps)

  capped_ring_few : (split : Bool) → RingFew (capped_ring split)
  capped_ring_few split o os p ps =
      way_round (map sends (emitted o.segment)) (onward split o os F nib) (cross_events (last_side o os) p F nib) (onward true p ps F nib) (start_cap_events (turn_between (last_side p ps) o) F nib)
      (sends (MoveTo o.start)) (sends Close) (length os) (length ps)
      (emitted_few o.segment) (onward_few split o os) (cross_few (last_side o os) p) (onward_few true p ps) (cap_few nib.start_cap (turn_between (last_side p ps) o))

  closed_ring_few : RingFew closed_ring
  closed_ring_few o os p ps =
      let end = last_side o os in
      let back = last_side p ps in
      twice_round (onward false end (o ∷ os) F nib) (one_onward false back p F nib) (onward true p ps F nib) (sends (MoveTo end.end)) (sends (LineTo back.end)) (sends Close) (length os) (length ps)
      (onward_few false end (o ∷ os)) (one_few false back p) (onward_few true p ps)

  around_few : (ring : _) (os ps : List OffsetSegment) → RingFew ring → AtMost (26 * (length os + length ps) + 3) (around ring os ps)
  around_few ring [] ps h = omega arith
  around_few ring (o ∷ os) [] h = omega arith
  around_few ring (o ∷ os) (p ∷ ps) h = omega (arith, h o os p ps)

  ring_few : (ring : _) (xs : List Segment) → RingFew ring → AtMost (55 * length xs) (around ring (sides nib xs) (other_sides nib xs))
  ring_few ring [] h = omega arith
  ring_few ring (x ∷ xs) h =
      let ys = x ∷ xs in
      omega (arith, around_few ring (sides nib ys) (other_sides nib ys) h, length-map ys (side nib), length-map (reverse ys) (other_side nib), length-reverse ys)

  -- dots
  spot_few : (p q n : Vector) → AtMost 51 (spot p q n)
  spot_few p q n =
      let there = across p q n in
      let back = across q p (multiple n (neg one)) in
      two_caps (sends (MoveTo p)) (cap_events nib.end_cap there F nib) (cap_events nib.start_cap back F nib) (cap_few nib.end_cap there) (cap_few nib.start_cap back)

  lone_dot_few : (xs : List Segment) → AtMost (55 * length xs) (lone_dot xs)
  lone_dot_few [] = omega arith
  lone_dot_few (x ∷ xs) =
      let up = vector zeroᶠ one in
      omega (arith, spot_few (sum (first_point x) (multiple up nib.radius)) (difference (first_point x) (multiple up nib.radius)) up)

  dash_dot_few : (t : Float) (ys : List Segment) → AtMost (55 * length ys) (dash_dot t ys)
  dash_dot_few t [] = omega arith
  dash_dot_few t (x ∷ ys) =
      let o = side nib (dot_slice x t) in
      let q = difference o.start (multiple o.start_normal (two ⊗ nib.radius)) in
      cond_both (has_cap nib) (dot_around o) (commands []) (AtMost (55 * suc (length ys)))
      (λ _. and_close (spot o.start q o.start_normal F nib) (length ys) (spot_few o.start q o.start_normal)) (λ _. omega arith)

  -- For a run.
  pub outline_bound : (closed : Bool) (xs : List Segment) → AtMost (55 * length xs) (outline closed xs)
  outline_bound closed xs =
      cond_both (is_lone_dot nib xs) (lone_dot xs) (ring_outline closed xs) (AtMost (55 * length xs)) (λ _. lone_dot_few xs)
      (λ _. cond_both closed (closed_outline xs) (capped_outline false xs) (AtMost (55 * length xs)) (λ _. ring_few closed_ring xs closed_ring_few) (λ _. ring_few (capped_ring false) xs (capped_ring_few false)))

  -- For a dash.
  pub dash_bound : (xs : List Segment) (r : Range) → AtMost (55 * length (ranged xs r)) (dash_of xs r)
  dash_bound xs r =
      let ys = ranged xs r in
      let ps = pieces r.t0 r.t1 ys in
      cond_both (is_dot r) (dash_dot r.t0 ys) (capped_outline true ps) (AtMost (55 * length ys)) (λ _. dash_dot_few r.t0 ys)
      (λ _. omega (arith, ring_few (capped_ring true) ps (capped_ring_few true), pieces_long r.t0 r.t1 ys))

pub ranged_bound : (xs : List Segment) (r : Range) → length (ranged xs r) ≤ 2 * length xs
ranged_bound xs r = simp (length-take, length-drop, length-append) (omega arith)

-- the commands are some of the events
pub row_bound : (es : List Event) → length (row es) ≤ length es
unfolding row
row_bound [] = omega arith
row_bound (asks q ∷ es) = omega (arith, row_bound es)
row_bound (sends c ∷ es) = omega (arith, row_bound es)
