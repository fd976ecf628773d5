-- A whole stroke: what drawing a path does, in order, by its commands, style, dashes and five functions alone.
use Rattle.std.specs.Prelude.{Bool, true, false, List, [], ◌∷◌, ◌++◌, map, flat_map, Some, None, Option, Float}
use Rattle.maths.specs.Functions.{Functions}
use Rattle.path.specs.declared.command.Command.{Command}
use Rattle.path.specs.declared.style.Stroke.{Stroke}
use Rattle.segments.specs.declared.segment.Segment.{Segment}
use Rattle.segments.specs.declared.segment.Segment.TheVariants.{Line, Curve, End}
use Rattle.cursor.specs.Drawings.{asks as asks_for, gives, drawn_whole}
use Rattle.cursor.specs.Drawings as drawings
use Rattle.pen.specs.declared.nib.Nib.{Nib}
use Rattle.pen.specs.Nibs.{nib_of}
use Rattle.dashes.specs.Patterns.{Dashes, pattern_of}
use Rattle.dashes.specs.Walks.{DashEvent}
use Rattle.dashes.specs.Walks as walks
use Rattle.stroke.specs.Events.{Event, asks}
use Rattle.stroke.specs.Outlines.{outline}
use Rattle.stroke.specs.Ranges.{dash_of}
use Rattle.stroke.specs.Runs.{walk_along}

-- The storage is emptied for a run, a segment is stored, an end is read, a dash step is asked for, or an outline goes on with a question or a command.
pub data Action : Type 0 where
  clears : Action
  stores : Segment → Action
  ends : Action
  steps : Action
  draws : Event → Action

-- what comes of an event of a dash walk: a dash that takes the whole run is the closed outline
abbrev pub dash_actions : Functions → Nib → List Segment → DashEvent → List Action
dash_actions F nib xs walks.steps = steps ∷ []
dash_actions F nib xs (walks.emits r) = map draws (dash_of xs r F nib)
dash_actions F nib xs walks.strokes = map draws (outline true xs F nib)

-- a run, plain or with a pattern; an empty one does nothing
abbrev pub run_actions : Functions → Nib → Option Dashes → Bool → List Segment → List Action
run_actions F nib pattern closed [] = []
run_actions F nib None closed (x ∷ xs) = map draws (outline closed (x ∷ xs) F nib)
run_actions F nib (Some p) closed (x ∷ xs) = flat_map (dash_actions F nib (x ∷ xs)) (walk_along p closed (x ∷ xs))

-- What is done for all that a cursor still gives, where xs of the run that it is in were given: each segment is stored, and the run is drawn at its end.
unfoldable pub run_by_run : Functions → Nib → Option Dashes → List Segment → List drawings.Event → List Action
run_by_run F nib pattern xs [] = run_actions F nib pattern false xs
run_by_run F nib pattern xs (asks_for q ∷ es) = draws (asks q) ∷ run_by_run F nib pattern xs es
run_by_run F nib pattern xs (gives (Line i l) ∷ es) = stores (Line i l) ∷ run_by_run F nib pattern (xs ++ (Line i l ∷ [])) es
run_by_run F nib pattern xs (gives (Curve i k) ∷ es) = stores (Curve i k) ∷ run_by_run F nib pattern (xs ++ (Curve i k ∷ [])) es
run_by_run F nib pattern xs (gives (End closed) ∷ es) = ends ∷ (run_actions F nib pattern closed xs ++ (clears ∷ run_by_run F nib pattern [] es))

-- everything that the stroke of a path does
abbrev pub stroke_actions : Functions → List Command → Stroke → List Float → List Action
stroke_actions F cs style dashes = clears ∷ run_by_run F (nib_of style) (pattern_of dashes style.offset) [] (drawn_whole F true cs)
