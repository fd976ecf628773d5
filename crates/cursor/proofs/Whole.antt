-- The laws of whole drawings.
use Rattle.std.proofs.Common.{◌≡◌, ℕ, ◌+◌, ◌*◌, ◌<◌, ◌≤◌, Bool, true, false, cond, ◌||◌, leb, List, [], ◌∷◌, ◌++◌, map, length, is_some, Some, None, Option, sym, refl, ap, ◌∙◌, subst, one-add, arith, length-append}
use Rattle.std.proofs.lemmas.Bool.{cond_both, leb-false}
use Rattle.std.specs.Option.{option_to_list}
use Rattle.maths.specs.Functions.{Functions}
use Rattle.maths.specs.Questions.{Question}
use Rattle.path.specs.declared.geometry.Vector.{Vector}
use Rattle.path.specs.declared.command.Command.{Command}
use Rattle.path.specs.declared.command.Command.TheVariants.{MoveTo, LineTo, CurveTo, QuadTo, Close}
use Rattle.numbers.specs.Arithmetic.{zero}
use Rattle.path.specs.Vectors.{vector, near_by}
use Rattle.curves.specs.declared.curve.Curve.{Curve as CubicCurve}
use Rattle.curves.specs.Curves.{curve, from_quadratic, merge_epsilon, two_legs_near}
use Rattle.cursor.specs.Cuts.{cut_up}
use Rattle.segments.specs.declared.mark.SegmentId.{SegmentId}
use Rattle.segments.specs.declared.segment.Segment.{Segment}
use Rattle.segments.specs.declared.segment.Segment.TheVariants.{Line, Curve, End}
use Rattle.segments.specs.Marks.{marked, after}
use Rattle.segments.specs.Pieces.{to_segment}
use Rattle.cursor.specs.declared.subpath.Subpath.{Subpath}
use Rattle.cursor.specs.Subpaths.{needs_line, begun}
use Rattle.cursor.specs.Machines.{Machine, machine, Turn, mark_read, mark_given, cut_to, curved, read, read_questions}
use Rattle.cursor.specs.Drawings.{Event, asks, gives, pieces_given, waiting, rested, drawing, drawn_whole, given_by, Run, run, begin_with, runs}
use Rattle.cursor.specs.Cursors.{fresh}
use Rattle.cursor.specs.Laws.{Marked, NoEnd, together, LawfulDrawing}
use Rattle.segments.specs.Lists.{Each, each_append}
use Rattle.cursor.proofs.Going.{coming, few}

pub given_asks : (qs : List Question) (es : List Event) → given_by (map asks qs ++ es) ≡ given_by es
given_asks [] es = refl
given_asks (q ∷ qs) es = given_asks qs es

given_gives : (xs : List Segment) (es : List Event) → given_by (map gives xs ++ es) ≡ xs ++ given_by es
given_gives [] es = refl
given_gives (x ∷ xs) es = ap (λ l. x ∷ l) (given_gives xs es)

-- what a command gives, and the rest
opened : (F : Functions) (m : Machine) (c : Command) (cs : List Command) → let r = read F m c in
    given_by (drawing F m (c ∷ cs)) ≡ (option_to_list r.gave ++ waiting r.after) ++ given_by (drawing F (rested r.after) cs)
unfolding drawing
opened F m c cs = given_asks (read_questions F m c) _ ∙ given_gives (option_to_list (read F m c).gave ++ waiting (read F m c).after) _

at_most_one : (o : Option Segment) → length (option_to_list o) ≤ 1
at_most_one None = omega arith
at_most_one (Some x) = omega arith

pieces_long : (i : SegmentId) (ks : List CubicCurve) → length (pieces_given i ks) ≤ length ks
unfolding pieces_given
pieces_long i [] = omega arith
pieces_long i (k ∷ ks) = simp length-append (omega (arith, at_most_one (to_segment i k), pieces_long i ks))

waiting_long : (b : Bool) (i : SegmentId) (s : Subpath) (ks : List CubicCurve) (closing : Bool) → length (waiting (machine b i s ks closing)) ≤ coming (machine b i s ks closing)
waiting_long b i s ks true = omega (arith, pieces_long i ks)
waiting_long b i s ks false = omega (arith, pieces_long i ks)

sum_few : (xs ys zs : List Segment) (n k : ℕ) {all : List Segment} → all ≡ (xs ++ ys) ++ zs → length xs ≤ 1 → length ys ≤ k → k ≤ 16 → length zs ≤ 17 * n → length all ≤ 17 * (1 + n)
sum_few xs ys zs n k e p q h r = omega (arith, simp length-append at (ap length e))

few_given : (F : Functions) (b : Bool) (i : SegmentId) (s : Subpath) (cs : List Command) → length (given_by (drawing F (machine b i s [] false) cs)) ≤ 17 * length cs
unfolding drawing
few_given F b i s [] = omega arith
few_given F b i s (c ∷ cs) =
    let r = read F (machine b i s [] false) c in
    let m = rested r.after in
    rw one-add at (sum_few (option_to_list r.gave) (waiting r.after) (given_by (drawing F m cs)) (length cs) (coming r.after) (opened F (machine b i s [] false) c cs) (at_most_one r.gave)
    (waiting_long r.after.splitting r.after.id r.after.subpath r.after.pending r.after.closing) (few F b i s c) (few_given F m.splitting m.id m.subpath cs))

-- marks stay below 255
end_marked : (closing : Bool) → Each Marked (cond closing (End true ∷ []) [])
end_marked true = (tt, tt)
end_marked false = tt

small_after : (i : SegmentId) → (after i).mark < 255
small_after i = cond_both (leb 254 i.mark) (marked 0) (marked (i.mark + 1)) (λ (j : SegmentId). j.mark < 255) (λ e. omega arith) (λ e. omega (arith, leb-false 254 i.mark e))

abbrev Small : SegmentId → Type 0
Small i = i.mark < 255

abbrev MaybeMarked : Option Segment → Type 0
MaybeMarked o = Each Marked (option_to_list o)

read_small : (m : Machine) → Small m.id → Small (mark_read m)
read_small m h = cond_both m.splitting _ _ Small (λ _. small_after m.id) (λ _. h)

given_small : (m : Machine) (gave : Bool) → Small m.id → Small (mark_given m gave)
given_small m gave h = cond_both (m.splitting || gave) _ _ Small (λ _. small_after m.id) (λ _. h)

piece_marked : (i : SegmentId) (k : CubicCurve) → Small i → MaybeMarked (to_segment i k)
piece_marked i k h = cond_both (two_legs_near k merge_epsilon) _ _ MaybeMarked (λ _. cond_both (near_by k.a k.d merge_epsilon) _ _ MaybeMarked (λ _. tt) (λ _. (h, tt))) (λ _. (h, tt))

pieces_marked : (i : SegmentId) (ks : List CubicCurve) → i.mark < 255 → Each Marked (pieces_given i ks)
unfolding pieces_given
pieces_marked i [] h = tt
pieces_marked i (k ∷ ks) h = each_append Marked (option_to_list (to_segment i k)) (pieces_given i ks) (piece_marked i k h) (pieces_marked i ks h)

-- what a command gives is marked below 255, and so is the machine after it
abbrev TurnMarked : Turn → Type 0
TurnMarked t = MaybeMarked t.gave × Small t.after.id

cut_marked : (m : Machine) (p : Vector) (ks : List CubicCurve) → Small m.id → TurnMarked (cut_to m p ks)
cut_marked m p [] h = (tt, given_small m false h)
cut_marked m p (k ∷ ks) h = (piece_marked (mark_read m) k (read_small m h), given_small m (is_some (to_segment (mark_read m) k)) h)

curve_marked : (F : Functions) (m : Machine) (k : CubicCurve) (p : Vector) → Small m.id → TurnMarked (curved F m k p)
curve_marked F m k p h = cond_both m.splitting _ _ TurnMarked (λ _. cut_marked m p (cut_up F k) h) (λ _. ((read_small m h, tt), given_small m true h))

read_marked : (F : Functions) (m : Machine) (c : Command) → Small m.id → TurnMarked (read F m c)
read_marked F m (MoveTo p) h = (cond_both m.subpath.last_was_end _ _ MaybeMarked (λ _. tt) (λ _. (tt, tt)), given_small m _ h)
read_marked F m (LineTo p) h = cond_both (near_by m.subpath.prev p merge_epsilon) _ _ TurnMarked (λ _. (tt, given_small m false h)) (λ _. ((read_small m h, tt), given_small m true h))
read_marked F m (CurveTo p q r) h = curve_marked F m (curve m.subpath.prev p q r) r h
read_marked F m (QuadTo p q) h = curve_marked F m (from_quadratic m.subpath.prev p q) q h
read_marked F m Close h = cond_both (needs_line m.subpath) _ _ TurnMarked (λ _. ((read_small m h, tt), given_small m true h)) (λ _. ((tt, tt), given_small m true h))

waiting_marked : (m : Machine) → m.id.mark < 255 → Each Marked (waiting m)
waiting_marked m h = each_append Marked (cond m.closing (End true ∷ []) []) (pieces_given m.id m.pending) (end_marked m.closing) (pieces_marked m.id m.pending h)

all_marked : (F : Functions) (m : Machine) (cs : List Command) → m.id.mark < 255 → Each Marked (given_by (drawing F m cs))
unfolding drawing
all_marked F m [] h = tt
all_marked F m (c ∷ cs) h =
    let r = read F m c in
    let marks = read_marked F m c h in
    subst (Each Marked) (sym (opened F m c cs)) (each_append Marked (option_to_list r.gave ++ waiting r.after) (given_by (drawing F (rested r.after) cs))
    (each_append Marked (option_to_list r.gave) (waiting r.after) marks.0 (waiting_marked r.after marks.1)) (all_marked F (rested r.after) cs marks.1))

-- runs and the ends between them
some_run : (xs : List Segment) → (r : Run) × (rs : List Run) × (runs xs ≡ r ∷ rs)
some_run [] = (run [] false, [], refl)
some_run (End closed ∷ xs) = (run [] closed, runs xs, refl)
some_run (Line i l ∷ xs) = let more = some_run xs in (_, _, ap (begin_with (Line i l)) more.2)
some_run (Curve i k ∷ xs) = let more = some_run xs in (_, _, ap (begin_with (Curve i k)) more.2)

together_begin : (s : Segment) (rs : List Run) → together (begin_with s rs) ≡ s ∷ together rs
together_begin s [] = refl
together_begin s (r ∷ []) = refl
together_begin s (r ∷ q ∷ rs) = refl

together_end : (closed : Bool) (rs : List Run) (r : Run) (more : List Run) → rs ≡ r ∷ more → together (run [] closed ∷ rs) ≡ End closed ∷ together rs
together_end closed rs r more is = ap (λ l. together (run [] closed ∷ l)) is ∙ ap (λ l. End closed ∷ together l) (sym is)

divided : (xs : List Segment) → together (runs xs) ≡ xs
divided [] = refl
divided (End closed ∷ xs) = let more = some_run xs in together_end closed (runs xs) more.0 more.1 more.2 ∙ ap (λ l. End closed ∷ l) (divided xs)
divided (Line i l ∷ xs) = together_begin (Line i l) (runs xs) ∙ ap (λ m. Line i l ∷ m) (divided xs)
divided (Curve i k ∷ xs) = together_begin (Curve i k) (runs xs) ∙ ap (λ m. Curve i k ∷ m) (divided xs)

abbrev Endless : Run → Type 0
Endless r = Each NoEnd r.segments

begin_endless : (s : Segment) (rs : List Run) → NoEnd s → Each Endless rs → Each Endless (begin_with s rs)
begin_endless s [] h k = ((h, tt), tt)
begin_endless s (r ∷ rs) h k = ((h, k.0), k.1)

endless : (xs : List Segment) → Each Endless (runs xs)
endless [] = (tt, tt)
endless (End closed ∷ xs) = (tt, endless xs)
endless (Line i l ∷ xs) = begin_endless (Line i l) (runs xs) tt (endless xs)
endless (Curve i k ∷ xs) = begin_endless (Curve i k) (runs xs) tt (endless xs)

pub lawful : (F : Functions) (split : Bool) (cs : List Command) → LawfulDrawing F split cs
lawful F split cs = record {
  few = few_given F split (marked 0) (begun (vector zero zero)) cs;
  marked = all_marked F (fresh split) cs (omega arith);
  divided = divided (given_by (drawn_whole F split cs));
  without_ends = endless (given_by (drawn_whole F split cs));
}
