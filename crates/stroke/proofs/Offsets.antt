-- In the outline of a run its offsets stand in order.
use Rattle.std.proofs.Common.{◌≡◌, ℕ, ◌+◌, ◌<◌, ◌≤◌, Bool, true, false, cond, List, [], ◌∷◌, ◌++◌, map, length, reverse, Some, Option, sym, refl, ap, ◌∙◌, subst, append_assoc, arith, length-append}
use Rattle.std.proofs.lemmas.List.{length-map, length-reverse, map-append}
use mathlib.Core.List.{reverse_aux}
use Rattle.std.specs.List.{slice_get}
use Rattle.maths.specs.Functions.{Functions}
use Rattle.path.specs.declared.command.Command.{Command}
use Rattle.path.specs.declared.command.Command.TheVariants.{MoveTo, LineTo, Close}
use Rattle.segments.specs.declared.segment.Segment.{Segment}
use Rattle.segments.specs.declared.segment.Segment.TheVariants.{Line, Curve, End}
use Rattle.pen.specs.declared.nib.Nib.{Nib}
use Rattle.pen.specs.declared.offset.OffsetSegment.{OffsetSegment}
use Rattle.cursor.specs.Laws.{NoEnd}
use Rattle.segments.specs.Lists.{Each}
use Rattle.stroke.specs.Events.{Event, sends, Plan}
use Rattle.stroke.specs.Outlines.{turn_between, emitted, between, one_onward, onward, side, other_side, sides, other_sides, last_side, end_cap_events, cross_events, finish_events, capped_ring, closed_ring, around, capped_outline, closed_outline, is_lone_dot, lone_dot, outline}
use Rattle.stroke.specs.Contours.{row, Contour, Rising, command_of, offset_command, OffsetsStand, RunContour, DotOrContour, RunDrawn}
use Rattle.stroke.proofs.Contours.{row_append, capped_contour, closed_contour}

-- these stand in a row of commands, each after the one before it
abbrev Among : List (Option Command) → List Command → Type 0
Among [] cs = Unit {0}
Among (o ∷ os) cs = (before : List Command) × (c : Command) × (after : List Command) × (cs ≡ before ++ (c ∷ after)) × (o ≡ Some c) × Among os after

among_more : (os : List (Option Command)) (cs ds : List Command) → Among os cs → Among os (cs ++ ds)
among_more [] cs ds h = tt
among_more (o ∷ os) cs ds h = (h.0, h.1, h.2 ++ ds, ap (λ l. l ++ ds) h.3 ∙ append_assoc h.0 (h.1 ∷ h.2) ds, h.4, among_more os h.2 ds h.5)

among_after : (os : List (Option Command)) (ds cs : List Command) → Among os cs → Among os (ds ++ cs)
among_after [] ds cs h = tt
among_after (o ∷ os) ds cs h = (ds ++ h.0, h.1, h.2, ap (λ l. ds ++ l) h.3 ∙ sym (append_assoc ds h.0 (h.1 ∷ h.2)), h.4, h.5)

among_both : (os ps : List (Option Command)) (cs ds : List Command) → Among os cs → Among ps ds → Among (os ++ ps) (cs ++ ds)
among_both [] ps cs ds h k = among_after ps cs ds k
among_both (o ∷ os) ps cs ds h k = (h.0, h.1, h.2 ++ ds, ap (λ l. l ++ ds) h.3 ∙ append_assoc h.0 (h.1 ∷ h.2) ds, h.4, among_both os ps h.2 ds h.5 k)

-- their places
abbrev From : ℕ → List ℕ → Type 0
From n [] = Unit {0}
From n (p ∷ ps) = (n ≤ p) × From (p + 1) ps

found : (cs : List Command) (c : Command) (ds : List Command) → slice_get (cs ++ (c ∷ ds)) (length cs) ≡ Some c
found [] c ds = refl
found (b ∷ cs) c ds = found cs c ds

rising_from : (n : ℕ) (ps : List ℕ) → From n ps → Rising ps
rising_from n [] h = tt
rising_from n (p ∷ []) h = tt
rising_from n (p ∷ q ∷ ps) h = (let k : p + 1 ≤ q = h.1.0 in omega arith, rising_from (p + 1) (q ∷ ps) h.1)

record Placed (n : ℕ) (os : List (Option Command)) (cs : List Command) : Type 0 where
  places : List ℕ
  from : From n places
  stand : map (slice_get cs) places ≡ os

placed : (os : List (Option Command)) (pre cs all : List Command) → all ≡ pre ++ cs → Among os cs → Placed (length pre) os all
placed [] pre cs all is h = record { places = []; from = tt; stand = refl }
placed (o ∷ os) pre cs all is h =
    let before = pre ++ h.0 in
    let here = is ∙ ap (λ l. pre ++ l) h.3 ∙ sym (append_assoc pre h.0 (h.1 ∷ h.2)) in
    let rest = placed os (before ++ (h.1 ∷ [])) h.2 all (here ∙ sym (append_assoc before (h.1 ∷ []) h.2)) h.5 in
    let long : length (before ++ (h.1 ∷ [])) ≡ length before + 1 = length-append before (h.1 ∷ []) in
    let at = ap (λ l. slice_get l (length before)) here ∙ found before h.1 h.2 ∙ sym h.4 in
    record {
      places = length before ∷ rest.places;
      from = (omega (arith, length-append pre h.0), subst (λ n. From n rest.places) long rest.from);
      stand = λ i. at i ∷ rest.stand i;
    }

-- Among what is sent
abbrev Sent : List OffsetSegment → List Event → Type 0
Sent os es = Among (map offset_command os) (row es)

sent_after : (os : List OffsetSegment) (es fs : List Event) → Sent os fs → Sent os (es ++ fs)
sent_after os es fs h = subst (Among (map offset_command os)) (sym (row_append es fs)) (among_after (map offset_command os) (row es) (row fs) h)

sent_more : (os : List OffsetSegment) (es fs : List Event) → Sent os es → Sent os (es ++ fs)
sent_more os es fs h = subst (Among (map offset_command os)) (sym (row_append es fs)) (among_more (map offset_command os) (row es) (row fs) h)

sent_both : (os ps : List OffsetSegment) (es fs : List Event) → Sent os es → Sent ps fs → Sent (os ++ ps) (es ++ fs)
sent_both os ps es fs h k =
    subst (λ l. Among l (row (es ++ fs))) (sym (map-append offset_command os ps))
    (subst (Among (map offset_command os ++ map offset_command ps)) (sym (row_append es fs)) (among_both (map offset_command os) (map offset_command ps) (row es) (row fs) h k))

sent_on : (os : List OffsetSegment) (e : Event) (es : List Event) → Sent os es → Sent os (e ∷ es)
sent_on os e es h = sent_after os (e ∷ []) es h

-- an offset, and all of them one after the other
abbrev HasSide : OffsetSegment → Type 0
HasSide o = NoEnd o.segment

emitted_among : (s : Segment) → NoEnd s → Among (command_of s ∷ []) (row (map sends (emitted s)))
unfolding row
emitted_among (Line i l) h = ([], _, [], refl, refl, tt)
emitted_among (Curve i k) h = ([], _, [], refl, refl, tt)
emitted_among (End closed) h = absurd h

side_sent : (o : OffsetSegment) → HasSide o → Sent (o ∷ []) (map sends (emitted o.segment))
side_sent o h = emitted_among o.segment h

-- by functions and a nib
module _ (F : Functions) (nib : Nib) where
  onward_sent : (split : Bool) (o : OffsetSegment) (ps : List OffsetSegment) → Each HasSide ps → Sent ps (onward split o ps F nib)
  unfolding onward one_onward
  onward_sent split o [] h = tt
  onward_sent split o (p ∷ ps) h =
      sent_both (p ∷ []) ps (between split o p F nib ++ map sends (emitted p.segment)) (onward split p ps F nib)
      (sent_after (p ∷ []) (between split o p F nib) (map sends (emitted p.segment)) (side_sent p h.0)) (onward_sent split p ps h.1)

  -- the rings
  open_sent : (o : OffsetSegment) (os : List OffsetSegment) (p : OffsetSegment) (ps : List OffsetSegment) → Each HasSide (o ∷ os) → Each HasSide (p ∷ ps)
      → Sent ((o ∷ os) ++ (p ∷ ps)) (capped_ring false o os p ps F nib)
  open_sent o os p ps h k =
      let end = last_side o os in
      sent_on ((o ∷ os) ++ (p ∷ ps)) (sends (MoveTo o.start)) _ (sent_both (o ∷ []) (os ++ (p ∷ ps)) (map sends (emitted o.segment)) _ (side_sent o h.0)
      (sent_both os (p ∷ ps) (onward false o os F nib) _ (onward_sent false o os h.1)
      (sent_both (p ∷ []) ps (cross_events end p F nib) _ (sent_after (p ∷ []) (end_cap_events (turn_between end p) F nib) (map sends (emitted p.segment)) (side_sent p k.0))
      (sent_more ps (onward true p ps F nib) (finish_events (last_side p ps) o F nib) (onward_sent true p ps k.1)))))

  closed_sent : (o : OffsetSegment) (os : List OffsetSegment) (p : OffsetSegment) (ps : List OffsetSegment) → Each HasSide (o ∷ os) → Each HasSide (p ∷ ps)
      → Sent ((o ∷ os) ++ (p ∷ ps)) (closed_ring o os p ps F nib)
  unfolding one_onward
  closed_sent o os p ps h k =
      let end = last_side o os in
      let back = last_side p ps in
      sent_on ((o ∷ os) ++ (p ∷ ps)) (sends (MoveTo end.end)) _ (sent_both (o ∷ os) (p ∷ ps) (onward false end (o ∷ os) F nib) _ (onward_sent false end (o ∷ os) h)
      (sent_on (p ∷ ps) (sends (LineTo back.end)) _ (sent_both (p ∷ []) ps (one_onward false back p F nib) _ (sent_after (p ∷ []) (between false back p F nib) (map sends (emitted p.segment)) (side_sent p k.0))
      (sent_more ps (onward true p ps F nib) (sends Close ∷ []) (onward_sent true p ps k.1)))))

-- the ring of a run
abbrev ring_of : Bool → OffsetSegment → List OffsetSegment → OffsetSegment → List OffsetSegment → Plan
ring_of true o os p ps = closed_ring o os p ps
ring_of false o os p ps = capped_ring false o os p ps

ring_sent : (closed : Bool) (F : Functions) (nib : Nib) (o : OffsetSegment) (os : List OffsetSegment) (p : OffsetSegment) (ps : List OffsetSegment) → Each HasSide (o ∷ os) → Each HasSide (p ∷ ps)
    → Sent ((o ∷ os) ++ (p ∷ ps)) (ring_of closed o os p ps F nib)
ring_sent true F nib o os p ps h k = closed_sent F nib o os p ps h k
ring_sent false F nib o os p ps h k = open_sent F nib o os p ps h k

ring_contour : (closed : Bool) (F : Functions) (nib : Nib) (o : OffsetSegment) (os : List OffsetSegment) (p : OffsetSegment) (ps : List OffsetSegment) → Contour (row (ring_of closed o os p ps F nib))
ring_contour true F nib o os p ps = closed_contour F nib o os p ps
ring_contour false F nib o os p ps = capped_contour F nib false o os p ps

-- a ring of as many sides back as there
record Ring (os ps : List OffsetSegment) (es : List Event) : Type 0 where
  contour : Contour (row es)
  sent : Sent (os ++ ps) es

ring_around : (closed : Bool) (F : Functions) (nib : Nib) (o : OffsetSegment) (os ps : List OffsetSegment) → Each HasSide (o ∷ os) → Each HasSide ps → 0 < length ps → Ring (o ∷ os) ps (around (ring_of closed) (o ∷ os) ps F nib)
ring_around closed F nib o os [] h k some = absurd (omega arith)
ring_around closed F nib o os (p ∷ ps) h k some = record { contour = ring_contour closed F nib o os p ps; sent = ring_sent closed F nib o os p ps h k }

-- the sides of a run without ends
sides_there : (nib : Nib) (xs : List Segment) → Each NoEnd xs → Each HasSide (sides nib xs)
sides_there nib [] h = tt
sides_there nib (Line i l ∷ xs) h = (tt, sides_there nib xs h.1)
sides_there nib (Curve i k ∷ xs) h = (tt, sides_there nib xs h.1)
sides_there nib (End closed ∷ xs) h = absurd h.0

sides_back : (nib : Nib) (xs : List Segment) → Each NoEnd xs → Each HasSide (map (other_side nib) xs)
sides_back nib [] h = tt
sides_back nib (Line i l ∷ xs) h = (tt, sides_back nib xs h.1)
sides_back nib (Curve i k ∷ xs) h = (tt, sides_back nib xs h.1)
sides_back nib (End closed ∷ xs) h = absurd h.0

each_reversed : {X : Type 0} (P : X → Type 0) (xs ys : List X) → Each P xs → Each P ys → Each P (reverse_aux xs ys)
each_reversed P [] ys h k = k
each_reversed P (x ∷ xs) ys h k = each_reversed P xs (x ∷ ys) h.1 (h.0, k)

others_there : (nib : Nib) (xs : List Segment) → Each NoEnd xs → Each HasSide (other_sides nib xs)
others_there nib xs h = sides_back nib (reverse xs) (each_reversed NoEnd xs [] h tt)

pub others_long : (nib : Nib) (xs : List Segment) → length (other_sides nib xs) ≡ length xs
others_long nib xs = length-map (reverse xs) (other_side nib) ∙ length-reverse xs

offsets_stand : (nib : Nib) (xs : List Segment) (es : List Event) → Sent (sides nib xs ++ other_sides nib xs) es → OffsetsStand nib xs (row es)
offsets_stand nib xs es h =
    let at = placed (map offset_command (sides nib xs ++ other_sides nib xs)) [] (row es) (row es) refl h in
    record { places = at.places; count = omega (arith, simp (length-map, length-append, length-reverse) at (ap length at.stand)); rising = rising_from 0 at.places at.from; stand = at.stand }

run_drawn : (F : Functions) (nib : Nib) (closed : Bool) (x : Segment) (xs : List Segment) → Each NoEnd (x ∷ xs) → RunContour nib (x ∷ xs) (row (around (ring_of closed) (sides nib (x ∷ xs)) (other_sides nib (x ∷ xs)) F nib))
run_drawn F nib closed x xs h =
    let r = ring_around closed F nib (side nib x) (sides nib xs) (other_sides nib (x ∷ xs)) (sides_there nib (x ∷ xs) h) (others_there nib (x ∷ xs) h) (omega (arith, others_long nib (x ∷ xs))) in
    record { contour = r.contour; offsets = offsets_stand nib (x ∷ xs) _ r.sent }

by_dot : (b : Bool) (F : Functions) (nib : Nib) (xs : List Segment) (E : Plan) → is_lone_dot nib xs ≡ b → RunContour nib xs (row (E F nib)) → DotOrContour b F nib xs (row (cond b (lone_dot xs) E F nib))
by_dot true F nib xs E is h = record { is = is; drawn = refl }
by_dot false F nib xs E is h = h

-- A run without ends is drawn as a contour, or as a lone dot.
pub outline_drawn : (F : Functions) (nib : Nib) (closed : Bool) (xs : List Segment) → Each NoEnd xs → RunDrawn F nib xs (row (outline closed xs F nib))
unfolding row
outline_drawn F nib true [] h = refl
outline_drawn F nib false [] h = refl
outline_drawn F nib true (x ∷ xs) h = by_dot (is_lone_dot nib (x ∷ xs)) F nib (x ∷ xs) (closed_outline (x ∷ xs)) refl (run_drawn F nib true x xs h)
outline_drawn F nib false (x ∷ xs) h = by_dot (is_lone_dot nib (x ∷ xs)) F nib (x ∷ xs) (capped_outline false (x ∷ xs)) refl (run_drawn F nib false x xs h)
