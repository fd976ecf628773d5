-- The machine that reads commands and gives segments.
use Rattle.std.specs.Prelude.{ℕ, ◌+◌, Bool, true, false, cond, ◌||◌, List, [], ◌∷◌, is_some, Some, None, Option, Float}
use Rattle.maths.specs.Functions.{Functions}
use Rattle.maths.specs.declared.host.Function.{Function}
use Rattle.maths.specs.Questions.{Question, all_asked}
use Rattle.path.specs.declared.geometry.Vector.{Vector}
use Rattle.path.specs.declared.command.Command.{Command}
use Rattle.path.specs.declared.command.Command.TheVariants.{MoveTo, LineTo, CurveTo, QuadTo, Close}
use Rattle.path.specs.Vectors.{near_by}
use Rattle.curves.specs.declared.curve.Curve.{Curve as CubicCurve}
use Rattle.curves.specs.Lines.{line}
use Rattle.curves.specs.Curves.{curve, from_quadratic, merge_epsilon}
use Rattle.cursor.specs.Cuts.{cut_up, cut_questions}
use Rattle.segments.specs.declared.mark.SegmentId.{SegmentId}
use Rattle.segments.specs.declared.segment.Segment.{Segment}
use Rattle.segments.specs.declared.segment.Segment.TheVariants.{Line, Curve, End}
use Rattle.segments.specs.Marks.{after}
use Rattle.segments.specs.Pieces.{to_segment}
use Rattle.cursor.specs.declared.subpath.Subpath.{Subpath}
use Rattle.cursor.specs.Subpaths.{begun, drawn, needs_line, turned_back, returned, stopped}

-- A cursor between two things that it gives: whether curves are cut, the last mark, the subpath, the pieces of a curve that are still to come,
-- and whether a closing line was given whose end is still to come.
pub record Machine : Type 0 where
  pub splitting : Bool
  pub id : SegmentId
  pub subpath : Subpath
  pub pending : List CubicCurve
  pub closing : Bool

abbrev pub machine : Bool → SegmentId → Subpath → List CubicCurve → Bool → Machine
machine b i s ks closing = record { splitting = b; id = i; subpath = s; pending = ks; closing = closing }

-- What one step gives, if anything, and the machine after it.
pub record Turn : Type 0 where
  pub gave : Option Segment
  pub after : Machine

abbrev pub turn : Option Segment → Machine → Turn
turn x m = record { gave = x; after = m }

-- the mark of a command's segments: with splitting each command read has its own
abbrev pub mark_read : Machine → SegmentId
mark_read m = cond m.splitting (after m.id) m.id

-- without splitting each thing given has its own
abbrev pub mark_given : Machine → Bool → SegmentId
mark_given m gave = cond (m.splitting || gave) (after m.id) m.id

-- something given or nothing, the subpath as told; what is to come stays as it was
abbrev pub gives : Machine → Option Segment → Subpath → Turn
gives m x s = turn x (machine m.splitting (mark_given m (is_some x)) s m.pending m.closing)

-- an end, unless the last thing given was one
abbrev pub moved : Machine → Vector → Turn
moved m p = gives m (cond m.subpath.last_was_end None (Some (End false))) (begun p)

-- a line, unless it is too short
abbrev pub lined : Machine → Vector → Turn
lined m p = cond (near_by m.subpath.prev p merge_epsilon)
    (gives m None m.subpath)
    (gives m (Some (Line (mark_read m) (line m.subpath.prev p))) (drawn m.subpath p))

-- the first piece ends where the command says; the others are to come
abbrev pub cut_to : Machine → Vector → List CubicCurve → Turn
cut_to m p [] = turn None (machine m.splitting (mark_given m false) m.subpath [] m.closing)
cut_to m p (k ∷ ks) = let x = to_segment (mark_read m) k in
    turn x (machine m.splitting (mark_given m (is_some x)) (cond (is_some x) (drawn m.subpath p) m.subpath) ks m.closing)

abbrev pub whole : Machine → CubicCurve → Vector → Turn
whole m k p = gives m (Some (Curve (mark_read m) k)) (drawn m.subpath p)

abbrev pub curved : Functions → Machine → CubicCurve → Vector → Turn
curved F m k p = cond m.splitting (cut_to m p (cut_up F k)) (whole m k p)

-- only where a curve is cut the host is asked
abbrev pub curve_questions : Functions → Machine → CubicCurve → List Question
curve_questions F m k = cond m.splitting (cut_questions F k) []

-- a line back to the start, whose end is to come, or the end alone
abbrev pub closed : Machine → Turn
closed m = cond (needs_line m.subpath)
    (turn (Some (Line (mark_read m) (line m.subpath.prev m.subpath.start))) (machine m.splitting (mark_given m true) (turned_back m.subpath) m.pending true))
    (gives m (Some (End true)) (returned m.subpath))

-- what a command gives first
abbrev pub read : Functions → Machine → Command → Turn
read F m (MoveTo p) = moved m p
read F m (LineTo p) = lined m p
read F m (CurveTo p q r) = curved F m (curve m.subpath.prev p q r) r
read F m (QuadTo p q) = curved F m (from_quadratic m.subpath.prev p q) q
read F m Close = closed m

-- the questions that a command asks
abbrev pub read_questions : Functions → Machine → Command → List Question
read_questions F m (MoveTo p) = []
read_questions F m (LineTo p) = []
read_questions F m (CurveTo p q r) = curve_questions F m (curve m.subpath.prev p q r)
read_questions F m (QuadTo p q) = curve_questions F m (from_quadratic m.subpath.prev p q)
read_questions F m Close = []

-- a piece ends at its own end; the next one may be nothing
abbrev pub piece : Machine → CubicCurve → List CubicCurve → Turn
piece m k ks = let x = to_segment m.id k in
    turn x (machine m.splitting m.id (cond (is_some x) (drawn m.subpath k.d) m.subpath) ks m.closing)

-- the end that follows a closing line
abbrev pub ended : Machine → Turn
ended m = turn (Some (End true)) (machine m.splitting m.id (stopped m.subpath) m.pending false)

-- One step, by what is pending, the end to come and the next command together.
pub record Step : Type 0 where
  pub made : Turn
  pub taken : ℕ
  pub asked : List Question

-- A cursor that has come so far, in commands read, with its host.
pub record Done (S : Type 0) : Type 0 where
  pub gave : Option Segment
  pub after : Machine
  pub place : ℕ
  pub host : S

abbrev pub done : {S : Type 0} → (S → Function → Float → S) → ℕ → S → Step → Done S
done asked place host x = record { gave = x.made.gave; after = x.made.after; place = place + x.taken; host = all_asked asked host x.asked }

abbrev pub quietly : Turn → Step
quietly t = record { made = t; taken = 0; asked = [] }

abbrev pub step_at : Functions → Machine → Bool → List CubicCurve → List Command → Step
step_at F m true ks cs = quietly (ended m)
step_at F m false (k ∷ ks) cs = quietly (piece m k ks)
step_at F m false [] (c ∷ cs) = record { made = read F m c; taken = 1; asked = read_questions F m c }
step_at F m false [] [] = quietly (turn None m)

abbrev pub step : Functions → Machine → List Command → Step
step F m cs = step_at F m m.closing m.pending cs

-- whether anything is to come
abbrev pub any : {X : Type 0} → List X → Bool
any [] = false
any (x ∷ xs) = true

abbrev pub waits : Machine → List Command → Bool
waits m cs = m.closing || (any m.pending || any cs)
