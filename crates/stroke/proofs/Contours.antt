-- Every outline is a contour: lines and curves between a move and a close.
use Rattle.std.proofs.Common.{◌≡◌, ℕ, zero, suc, Bool, true, false, ◌&&◌, List, [], ◌∷◌, ◌++◌, map, sym, refl, ap, ◌∙◌, subst}
use lib.Ieee.{Float, neg}
use Rattle.std.proofs.lemmas.Bool.{cond_both}
use Rattle.numbers.specs.Arithmetic.{◌⊕◌, ◌⊗◌, one}
use Rattle.curves.specs.Curves.{two}
use Rattle.maths.specs.Functions.{Functions}
use Rattle.maths.specs.Questions.{Question}
use Rattle.path.specs.declared.geometry.Vector.{Vector}
use Rattle.path.specs.declared.command.Command.{Command}
use Rattle.path.specs.declared.command.Command.TheVariants.{MoveTo, LineTo, CurveTo, QuadTo, Close}
use Rattle.path.specs.declared.style.Cap.{Cap}
use Rattle.path.specs.declared.style.Cap.TheVariants as cap-is
use Rattle.path.specs.Kinds.{kind}
use Rattle.path.specs.Vectors.{multiple, difference}
use Rattle.segments.specs.declared.segment.Segment.{Segment}
use Rattle.segments.specs.declared.segment.Segment.TheVariants.{Line, Curve, End}
use Rattle.pen.specs.declared.nib.Nib.{Nib}
use Rattle.pen.specs.declared.offset.OffsetSegment.{OffsetSegment}
use Rattle.pen.specs.declared.corner.Turn.{Turn}
use Rattle.pen.specs.declared.corner.Corner.{Corner}
use Rattle.pen.specs.declared.corner.Corner.TheVariants.{Meet, Inner, Bevel, Round, NegativeDot, PastLimit, Miter}
use Rattle.pen.specs.Corners.{corner_of}
use Rattle.arcs.specs.declared.arc_to.ArcTo.{ArcTo}
use Rattle.arcs.specs.Centres.{half_chord}
use Rattle.arcs.specs.Curves.{all_curves, no_chord, turned_of, centred_of, round_curves, arc_curves}
use Rattle.pen.specs.Joins.{shaped, shaped_questions, split_corner, half_circle}
use Rattle.pen.specs.Caps.{cap_commands, cap_questions}
use Rattle.segments.specs.Lists.{Each, each_append}
use Rattle.stroke.specs.Events.{Event, asks, sends, Plan}
use Rattle.stroke.specs.Outlines.{turn_between, emitted, join_events, split_events, cap_events, same_mark, between, one_onward, onward, last_side, cross_events, finish_events, capped_ring, closed_ring, across}
use Rattle.stroke.specs.Ranges.{dot_around}
use Rattle.stroke.specs.Contours.{row, Closing, Contour}

pub row_append : (es fs : List Event) → row (es ++ fs) ≡ row es ++ row fs
unfolding row
row_append [] fs = refl
row_append (asks q ∷ es) fs = row_append es fs
row_append (sends c ∷ es) fs = ap (λ l. c ∷ l) (row_append es fs)

pub row_sends : (cs : List Command) → row (map sends cs) ≡ cs
unfolding row
row_sends [] = refl
row_sends (c ∷ cs) = ap (λ l. c ∷ l) (row_sends cs)

pub row_asks : (qs : List Question) (es : List Event) → row (map asks qs ++ es) ≡ row es
unfolding row
row_asks [] es = refl
row_asks (q ∷ qs) es = row_asks qs es

pub row_both : (qs : List Question) (cs : List Command) → row (map asks qs ++ map sends cs) ≡ cs
row_both qs cs = row_asks qs (map sends cs) ∙ row_sends cs

-- a line or a curve
abbrev pub IsSide : Command → Type 0
IsSide (MoveTo p) = ⊥
IsSide (LineTo p) = Unit {0}
IsSide (CurveTo a b p) = Unit {0}
IsSide (QuadTo a p) = ⊥
IsSide Close = ⊥

abbrev pub Sides : List Command → Type 0
Sides cs = Each IsSide cs

-- nothing but lines and curves is sent
abbrev pub SidesSent : List Event → Type 0
SidesSent es = Sides (row es)

-- and then a close
abbrev pub Closes : List Event → Type 0
Closes es = Closing (map kind (row es))

pub sides_both : (es fs : List Event) → SidesSent es → SidesSent fs → SidesSent (es ++ fs)
sides_both es fs h k = subst Sides (sym (row_append es fs)) (each_append IsSide (row es) (row fs) h k)

pub sides_sent : (qs : List Question) (cs : List Command) → Sides cs → SidesSent (map asks qs ++ map sends cs)
sides_sent qs cs h = subst Sides (sym (row_both qs cs)) h

closing_after : (cs ds : List Command) → Sides cs → Closing (map kind ds) → Closing (map kind (cs ++ ds))
closing_after [] ds h k = k
closing_after (MoveTo p ∷ cs) ds h k = absurd h.0
closing_after (LineTo p ∷ cs) ds h k = closing_after cs ds h.1 k
closing_after (CurveTo a b p ∷ cs) ds h k = closing_after cs ds h.1 k
closing_after (QuadTo a p ∷ cs) ds h k = absurd h.0
closing_after (Close ∷ cs) ds h k = absurd h.0

pub closes_after : (es fs : List Event) → SidesSent es → Closes fs → Closes (es ++ fs)
closes_after es fs h k = subst (λ (cs : List Command). Closing (map kind cs)) (sym (row_append es fs)) (closing_after (row es) (row fs) h k)

-- arcs, joins and caps
curves_sides : (n : ℕ) (F : Functions) (e : _) (t each : Float) → Sides (all_curves n F e t each)
unfolding all_curves
curves_sides zero F e t each = tt
curves_sides (suc n) F e t each = (tt, curves_sides n F e (t ⊕ each) each)

pub arc_sides : (F : Functions) (scaled : Bool) (a : ArcTo) → Sides (arc_curves F scaled a)
unfolding arc_curves
arc_sides F scaled a = cond_both (no_chord (half_chord a (turned_of F a.angle))) [] (round_curves F a (turned_of F a.angle) (centred_of F scaled a)) Sides (λ _. tt) (λ _. curves_sides _ F _ _ _)

shaped_sides : (F : Functions) (c : Corner) (nib : Nib) (t : Turn) → Sides (shaped F c nib t)
shaped_sides F Meet nib t = tt
shaped_sides F Inner nib t = (tt, (tt, tt))
shaped_sides F Bevel nib t = (tt, tt)
shaped_sides F Round nib t = arc_sides F false (half_circle nib.radius t)
shaped_sides F NegativeDot nib t = (tt, tt)
shaped_sides F PastLimit nib t = (tt, tt)
shaped_sides F Miter nib t = (tt, (tt, tt))

capped_sides : (F : Functions) (shape : Cap) (r : Float) (t : Turn) → Sides (cap_commands F shape r t)
capped_sides F cap-is.Butt r t = (tt, tt)
capped_sides F cap-is.Square r t = (tt, (tt, (tt, tt)))
capped_sides F cap-is.Round r t = arc_sides F false (half_circle r t)

end_closes : Closes (sends Close ∷ [])
unfolding row
end_closes = refl

begun : (p : Vector) (es : List Event) → Closes es → Contour (row (sends (MoveTo p) ∷ es))
unfolding row
begun p es h = record { rest = map kind (row es); begins = refl; ends = h }

line_closes : (p : Vector) (es : List Event) → Closes es → Closes (sends (LineTo p) ∷ es)
unfolding row
line_closes p es h = h

-- a side
pub emitted_sides : (s : Segment) → SidesSent (map sends (emitted s))
unfolding row
emitted_sides (Line i l) = (tt, tt)
emitted_sides (Curve i k) = (tt, tt)
emitted_sides (End closed) = tt

-- the parts of an outline, by functions and a nib
module _ (F : Functions) (nib : Nib) where
  join_sides : (t : Turn) → SidesSent (join_events t F nib)
  join_sides t = sides_sent (shaped_questions F (corner_of nib t) nib t) (shaped F (corner_of nib t) nib t) (shaped_sides F (corner_of nib t) nib t)

  split_sides : (t : Turn) → SidesSent (split_events t F nib)
  split_sides t = sides_sent (shaped_questions F (split_corner t) nib t) (shaped F (split_corner t) nib t) (shaped_sides F (split_corner t) nib t)

  between_sides : (split : Bool) (o p : OffsetSegment) → SidesSent (between split o p F nib)
  between_sides split o p =
      let t = turn_between o p in
      cond_both (split && same_mark o p) (split_events t) (join_events t) (λ (E : Plan). SidesSent (E F nib)) (λ _. split_sides t) (λ _. join_sides t)

  cap_sides : (shape : Cap) (t : Turn) → SidesSent (cap_events shape t F nib)
  cap_sides shape t = sides_sent (cap_questions F shape nib.radius t) (cap_commands F shape nib.radius t) (capped_sides F shape nib.radius t)

  one_sides : (split : Bool) (o p : OffsetSegment) → SidesSent (one_onward split o p F nib)
  unfolding one_onward
  one_sides split o p = sides_both (between split o p F nib) (map sends (emitted p.segment)) (between_sides split o p) (emitted_sides p.segment)

  -- all sides one after the other
  onward_sides : (split : Bool) (o : OffsetSegment) (ps : List OffsetSegment) → SidesSent (onward split o ps F nib)
  unfolding onward row
  onward_sides split o [] = tt
  onward_sides split o (p ∷ ps) = sides_both (one_onward split o p F nib) (onward split p ps F nib) (one_sides split o p) (onward_sides split p ps)

  -- the ends of rings
  cross_sides : (o p : OffsetSegment) → SidesSent (cross_events o p F nib)
  cross_sides o p = sides_both (cap_events nib.end_cap (turn_between o p) F nib) (map sends (emitted p.segment)) (cap_sides nib.end_cap (turn_between o p)) (emitted_sides p.segment)

  finish_closes : (o p : OffsetSegment) → Closes (finish_events o p F nib)
  finish_closes o p = closes_after (cap_events nib.start_cap (turn_between o p) F nib) (sends Close ∷ []) (cap_sides nib.start_cap (turn_between o p)) end_closes

  -- the rings
  pub capped_contour : (split : Bool) (o : OffsetSegment) (os : List OffsetSegment) (p : OffsetSegment) (ps : List OffsetSegment) → Contour (row (capped_ring split o os p ps F nib))
  capped_contour split o os p ps =
      begun o.start _ (closes_after (map sends (emitted o.segment)) _ (emitted_sides o.segment)
      (closes_after (onward split o os F nib) _ (onward_sides split o os)
      (closes_after (cross_events (last_side o os) p F nib) _ (cross_sides (last_side o os) p)
      (closes_after (onward true p ps F nib) (finish_events (last_side p ps) o F nib) (onward_sides true p ps) (finish_closes (last_side p ps) o)))))

  pub closed_contour : (o : OffsetSegment) (os : List OffsetSegment) (p : OffsetSegment) (ps : List OffsetSegment) → Contour (row (closed_ring o os p ps F nib))
  closed_contour o os p ps =
      let end = last_side o os in
      let back = last_side p ps in
      begun end.end _ (closes_after (onward false end (o ∷ os) F nib) _ (onward_sides false end (o ∷ os))
      (line_closes back.end _ (closes_after (one_onward false back p F nib) _ (one_sides false back p)
      (closes_after (onward true p ps F nib) (sends Close ∷ []) (onward_sides true p ps) end_closes))))

  -- a dash of length 0
  pub dot_contour : (o : OffsetSegment) → Contour (row (dot_around o F nib))
  dot_contour o =
      let q = difference o.start (multiple o.start_normal (two ⊗ nib.radius)) in
      let end = cap_events nib.end_cap (across o.start q o.start_normal) F nib in
      let start = cap_events nib.start_cap (across q o.start (multiple o.start_normal (neg one))) F nib in
      begun o.start _ (closes_after (end ++ start) (sends Close ∷ [])
      (sides_both end start (cap_sides nib.end_cap (across o.start q o.start_normal)) (cap_sides nib.start_cap (across q o.start (multiple o.start_normal (neg one))))) end_closes)
