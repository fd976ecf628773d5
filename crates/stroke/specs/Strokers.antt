-- What a stroker is seen as, and what it does with the run that its storage holds.
use Rattle.std.specs.Prelude.{◌≡◌, ℕ, ◌^◌, ◌<◌, Bool, true, false, List, [], ◌∷◌, ◌++◌, map, Some, None, Option, Ok, Err, Result}
use Rattle.maths.specs.Functions.{Functions, HostActs}
use Rattle.path.specs.declared.command.Command.{Command}
use Rattle.lists.specs.declared.lent.Full.{Full}
use Rattle.path.specs.declared.refusal.Reason.{Reason}
use Rattle.path.specs.declared.refusal.Reason.TheVariants.{StorageFull, StepsSpent}
use Rattle.segments.specs.declared.segment.Segment.{Segment}
use Rattle.segments.specs.declared.segment.Segment.TheVariants.{Line, Curve, End}
use Rattle.sinks.specs.Meaning.{SinkActs}
use Rattle.storage.specs.Meaning.{StorageActs}
use Rattle.pen.specs.declared.nib.Nib.{Nib}
use Rattle.cursor.specs.Drawings.{drawn_whole}
use Rattle.dashes.specs.declared.dasher.DashOp.{DashOp}
use Rattle.dashes.specs.declared.dasher.DashOp.TheVariants.{Done, Continue, Emit, Stroke}
use Rattle.dashes.specs.declared.dasher.Dasher.{Dasher}
use Rattle.dashes.specs.declared.dasher.Range.{Range}
use Rattle.dashes.specs.PatternValues.{values}
use Rattle.dashes.specs.declared.steps.Spent.{Spent}
use Rattle.dashes.specs.Dashers.{next_of}
use Rattle.dashes.specs.Patterns.{Dashes}
use Rattle.dashes.specs.Walks.{Within}
use Rattle.stroke.specs.declared.stroker.Stroker.{Stroker}
use Rattle.stroke.specs.Outlines.{outline}
use Rattle.stroke.specs.Ranges.{dash_of}
use Rattle.stroke.specs.Calls.{Action, clears, stores, ends, steps, draws, run_actions, run_by_run}
use Rattle.stroke.specs.Outcomes.{Stage, perform}

-- What a stroker goes by, which nothing that it does alters: its host's functions, its nib, its budget, and the names of its references.
pub record Ways : Type 0 where
  pub functions : Functions
  pub nib : Nib
  pub budget : ℕ
  pub names : ℕ × ℕ × ℕ

-- A stroke under way, with what it goes by.
pub record Stroking (S B K : Type 0) : Type 0 where
  pub stage : Stage S B K
  pub by : Ways

abbrev pub stroking : {S B K : Type 0} → HostActs K → Stroker S B K → Option Reason → Stroking S B K
stroking hosts s stop = record {
  stage = record { sink = s.sink.now; storage = s.storage.now; host = s.host.now; taken = s.steps.taken; ended = s.ended; stop = stop };
  by = record { functions = hosts.functions s.host.now; nib = s.nib; budget = s.steps.budget; names = (s.sink.ghost_name, s.storage.ghost_name, s.host.ghost_name) };
}

-- why a stroke stopped, by the answer
abbrev pub stop_of : {X : Type 0} → Result X Reason → Option Reason
stop_of (Ok x) = None
stop_of (Err why) = Some why

-- why it stops where its storage or its budget answers so
abbrev pub why_full : Result (Unit {0}) Full → Option Reason
why_full (Ok x) = None
why_full (Err e) = Some StorageFull

abbrev pub why_spent : Result (Unit {0}) Spent → Option Reason
why_spent (Ok x) = None
why_spent (Err e) = Some StepsSpent

-- Something to do with the run at hand, by functions and nib.
abbrev pub Work : Type 0
Work = Functions → Nib → List Segment → List Action

module _ {S B K : Type 0} (sinks : SinkActs S) (storages : StorageActs B) (hosts : HostActs K) where
  -- these actions, up to the first refusal
  unfoldable pub do_all : List Action → Stroking S B K → Stroking S B K
  do_all actions d = record d { stage = perform sinks storages hosts d.by.budget actions d.stage }

  abbrev pub work : Work → Stroking S B K → Stroking S B K
  work W d = do_all (W d.by.functions d.by.nib (storages.held d.stage.storage)) d

-- one action
abbrev pub acting : Action → Work
acting a F nib xs = a ∷ []

-- the run's outline
abbrev pub plain : Bool → Work
plain closed F nib xs = map draws (outline closed xs F nib)

-- the run, plain or with a pattern
abbrev pub run_work : Option Dashes → Bool → Work
run_work pattern closed F nib xs = run_actions F nib pattern closed xs

-- a dash of it
abbrev pub dash : Range → Work
dash r F nib xs = map draws (dash_of xs r F nib)

-- what a walk gives is drawn
abbrev pub op_actions : DashOp → Work
op_actions Done F nib xs = []
op_actions Continue F nib xs = []
op_actions (Emit r) F nib xs = dash r F nib xs
op_actions Stroke F nib xs = plain true F nib xs

-- and whether the walk goes on after it
abbrev pub goes_on : DashOp → Bool
goes_on Done = false
goes_on Continue = true
goes_on (Emit r) = true
goes_on Stroke = false

-- what a dasher gives next
abbrev pub next_op : Dasher → List Segment → DashOp
next_op d xs = (next_of (values d.pattern) xs d.walk).op

-- and the dasher after it
abbrev pub walked_on : Dasher → List Segment → Dasher
walked_on d xs = record { pattern = d.pattern; walk = (next_of (values d.pattern) xs d.walk).after }

-- Dashes are drawn of a run on which they lie, and which is short enough for its places to be counted from both ends.
abbrev pub Drawable : ℕ → DashOp → Type 0
Drawable n (Emit r) = Within n r × (n < 2 ^ 63)
Drawable n Done = Unit {0}
Drawable n Continue = Unit {0}
Drawable n Stroke = Unit {0}

-- one step of its walk along the run
abbrev pub dash_step : Dasher → Work
dash_step d F nib xs = steps ∷ op_actions (next_op d xs) F nib xs

-- a dasher after that step, and whether its walk goes on
pub record Walked (d : Dasher) (xs : List Segment) (d' : Dasher) (more : Bool) : Type 0 where
  pub after : d' ≡ walked_on d xs
  pub goes_on : more ≡ goes_on (next_op d xs)

-- what a cursor gives: a segment is stored, and at an end the run is drawn and the storage emptied
abbrev pub taking : Option Dashes → Segment → Work
taking pattern (Line i l) F nib xs = stores (Line i l) ∷ []
taking pattern (Curve i k) F nib xs = stores (Curve i k) ∷ []
taking pattern (End closed) F nib xs = ends ∷ (run_actions F nib pattern closed xs ++ (clears ∷ []))

-- all that the commands give, run by run
abbrev pub whole : Option Dashes → List Command → Work
whole pattern cs F nib xs = clears ∷ run_by_run F nib pattern [] (drawn_whole F true cs)
