-- What a stroker does, action by action.
use Rattle.std.proofs.Common.{◌≡◌, ℕ, ◌+◌, ◌<◌, Bool, true, false, not, cond, List, [], ◌∷◌, ◌++◌, map, ◌≤◌, Some, None, Option, Ok, Err, Result, sym, refl, ap, ◌∙◌, nat_lt, nat_le, arith}
use Rattle.std.proofs.lemmas.Bool.{cond_both, ltb-true, leb-true, leb-false, lt-ltb, le-ltb}
use Rattle.maths.specs.Functions.{Functions, HostActs}
use Rattle.path.specs.declared.refusal.Reason.{Reason}
use Rattle.path.specs.declared.refusal.Reason.TheVariants.{StorageFull, StepsSpent}
use Rattle.segments.specs.declared.segment.Segment.{Segment}
use Rattle.sinks.specs.Meaning.{SinkActs}
use Rattle.sinks.specs.declared.sink.Refused.{Refused}
use Rattle.storage.specs.Meaning.{StorageActs, HasRoom, room}
use Rattle.storage.specs.Meaning as storing
use Rattle.lists.specs.declared.lent.Full.{Full}
use Rattle.pen.specs.declared.nib.Nib.{Nib}
use Rattle.dashes.specs.declared.dasher.DashOp.{DashOp}
use Rattle.dashes.specs.declared.dasher.DashOp.TheVariants.{Done, Continue, Emit, Stroke}
use Rattle.dashes.specs.declared.steps.Spent.{Spent}
use Rattle.dashes.specs.declared.steps.Steps.{Steps}
use Rattle.dashes.specs.StepCounts.{spend_answer, spent_one}
use Rattle.stroke.specs.declared.stroker.Stroker.{Stroker}
use Rattle.stroke.specs.Events.{Plan, Event, asks, Drawing, go_on, play, draw}
use Rattle.stroke.specs.Events as events
use Rattle.stroke.specs.Outlines.{outline}
use Rattle.stroke.specs.Ranges.{dash_of}
use Rattle.stroke.specs.Calls.{Action, clears, stores, steps, draws}
use Rattle.stroke.specs.Outcomes.{Stage, why_not, drawing_of, drawn, act_on, perform}
use Rattle.stroke.specs.Strokers.{Stroking, stroking, why_full, why_spent, do_all, Work, work, acting, op_actions}

module _ {S B K : Type 0} (sinks : SinkActs S) (storages : StorageActs B) (hosts : HostActs K) where
  pub perform_append : (n : ℕ) (xs ys : List Action) (d : Stage S B K) → perform sinks storages hosts n (xs ++ ys) d ≡ perform sinks storages hosts n ys (perform sinks storages hosts n xs d)
  unfolding perform
  perform_append n [] ys d = refl
  perform_append n (a ∷ xs) ys d = perform_append n xs ys (act_on sinks storages hosts n d.stop a d)

  -- a stroke that has stopped stays as it is
  pub perform_stopped : (n : ℕ) (xs : List Action) (why : Reason) (d : Stage S B K) → d.stop ≡ Some why → perform sinks storages hosts n xs d ≡ d
  unfolding perform
  perform_stopped n [] why d is = refl
  perform_stopped n (a ∷ xs) why d is = ap (λ stop. perform sinks storages hosts n xs (act_on sinks storages hosts n stop a d)) is ∙ perform_stopped n xs why d is

  pub do_none : (d : Stroking S B K) → do_all sinks storages hosts [] d ≡ d
  unfolding do_all perform
  do_none d = refl

  pub do_next : (xs ys : List Action) (d : Stroking S B K) → do_all sinks storages hosts (xs ++ ys) d ≡ do_all sinks storages hosts ys (do_all sinks storages hosts xs d)
  unfolding do_all
  do_next xs ys d = ap (λ (s : Stage S B K). record d { stage = s }) (perform_append d.by.budget xs ys d.stage)

  pub do_stopped : (xs : List Action) (why : Reason) (d : Stroking S B K) → d.stage.stop ≡ Some why → do_all sinks storages hosts xs d ≡ d
  unfolding do_all
  do_stopped xs why d is = ap (λ (s : Stage S B K). record d { stage = s }) (perform_stopped d.by.budget xs why d.stage is)

  -- ---- a step

  less_or_all : (m n : ℕ) → nat_lt m n ≡ not (nat_le n m)
  less_or_all m n = cond_both (nat_le n m) true false (λ _. nat_lt m n ≡ not (nat_le n m)) (λ e. le-ltb m n (leb-true n m e) ∙ ap not (sym e)) (λ e. lt-ltb m n (leb-false n m e) ∙ ap not (sym e))

  one_spent : (full less : Bool) → less ≡ not full → (a : Stroker S B K) →
      stroking hosts (record a { steps = cond full a.steps (record { taken = a.steps.taken + 1; budget = a.steps.budget }) }) (why_spent (cond full (Err (record {})) (Ok tt)))
      ≡ (let d = stroking hosts a None in record d { stage = cond less (record d.stage { taken = a.steps.taken + 1 }) (record d.stage { stop = Some StepsSpent }) })
  one_spent true less is a = let d = stroking hosts a None in λ i. record d { stage = cond (sym is i) (record d.stage { taken = a.steps.taken + 1 }) (record d.stage { stop = Some StepsSpent }) }
  one_spent false less is a = let d = stroking hosts a None in λ i. record d { stage = cond (sym is i) (record d.stage { taken = a.steps.taken + 1 }) (record d.stage { stop = Some StepsSpent }) }

  pub spent : (a : Stroker S B K) {t : Steps} {r : Result (Unit {0}) Spent} → r ≡ spend_answer a.steps → t ≡ spent_one a.steps
      → stroking hosts (record a { steps = t }) (why_spent r) ≡ work sinks storages hosts (acting steps) (stroking hosts a None)
  unfolding do_all perform
  spent a answer after =
      (λ i. stroking hosts (record a { steps = after i }) (why_spent (answer i)))
      ∙ one_spent (nat_le a.steps.budget a.steps.taken) (nat_lt a.steps.taken a.steps.budget) (less_or_all a.steps.taken a.steps.budget) a

  -- ---- the storage

  pub do_clears : (d : Stroking S B K) → d.stage.stop ≡ None → do_all sinks storages hosts (clears ∷ []) d ≡ record d { stage = record d.stage { storage = storages.cleared d.stage.storage } }
  unfolding do_all perform
  do_clears d going = λ i. record d { stage = act_on sinks storages hosts d.by.budget (going i) clears d.stage }

  one_stored : (fits : Bool) (x : Segment) (a : Stroker S B K) →
      stroking hosts (record a { storage = record a.storage { now = cond fits (storages.pushed a.storage.now x) a.storage.now } }) (why_full (cond fits (Ok tt) (Err (record {}))))
      ≡ (let d = stroking hosts a None in record d { stage = cond fits (record d.stage { storage = storages.pushed a.storage.now x }) (record d.stage { stop = Some StorageFull }) })
  one_stored true x a = refl
  one_stored false x a = refl

  pub stored : (x : Segment) (a : Stroker S B K) {b : B} {r : Result (Unit {0}) Full} → r ≡ storing.push_answer (storages.held a.storage.now) (storages.capacity a.storage.now) → b ≡ storing.after storages a.storage.now x
      → stroking hosts (record a { storage = record a.storage { now = b } }) (why_full r) ≡ work sinks storages hosts (acting (stores x)) (stroking hosts a None)
  unfolding do_all perform
  stored x a answer after =
      (λ i. stroking hosts (record a { storage = record a.storage { now = after i } }) (why_full (answer i)))
      ∙ one_stored (room (storages.held a.storage.now) (storages.capacity a.storage.now)) x a

  -- ---- an outline

  draws_one : (n : ℕ) (e : Event) (s : S) (k : K) (r : Result (Unit {0}) Refused) (d : Stage S B K) → let x : Drawing S K = record { sink = s; host = k; answer = r } in
      act_on sinks storages hosts n (why_not r) (draws e) (drawn d x) ≡ drawn d (go_on sinks hosts e x)
  draws_one n e s k (Ok x) d = refl
  draws_one n e s k (Err x) d = refl

  plays : (n : ℕ) (es : List Event) (d : Stage S B K) (x : Drawing S K) → perform sinks storages hosts n (map draws es) (drawn d x) ≡ drawn d (play sinks hosts es x)
  unfolding perform play
  plays n [] d x = refl
  plays n (e ∷ es) d x = ap (perform sinks storages hosts n (map draws es)) (draws_one n e x.sink x.host x.answer d) ∙ plays n es d (go_on sinks hosts e x)

  pub do_draws : (es : List Event) (d : Stroking S B K) → d.stage.stop ≡ None → do_all sinks storages hosts (map draws es) d ≡ record d { stage = drawn d.stage (play sinks hosts es (drawing_of d.stage)) }
  unfolding do_all
  do_draws es d going =
      (λ i. record d { stage = perform sinks storages hosts d.by.budget (map draws es) (record d.stage { stop = going i }) })
      ∙ ap (λ (s : Stage S B K). record d { stage = s }) (plays d.by.budget es d.stage (drawing_of d.stage))

  -- what an outliner has drawn, its stroker has done
  pub outlined : (E : Plan) (a : Stroker S B K) (names : ℕ × ℕ) {x : events.Standing S K} {stop : Option Reason}
      → x ≡ draw sinks hosts E (record { drawing = record { sink = a.sink.now; host = a.host.now; answer = Ok tt }; functions = hosts.functions a.host.now; nib = a.nib; names = names })
      → stop ≡ why_not x.drawing.answer
      → (let d = stroking hosts a None in record d { stage = record (drawn d.stage x.drawing) { stop = stop }; by = record d.by { functions = x.functions } } ≡ do_all sinks storages hosts (map draws (E d.by.functions d.by.nib)) d)
  unfolding draw
  outlined E a names {x = x} drew stopped =
      let d = stroking hosts a None in
      (λ i. record d { stage = record (drawn d.stage x.drawing) { stop = stopped i }; by = record d.by { functions = x.functions } })
      ∙ (λ i. record d { stage = drawn d.stage (drew i).drawing; by = record d.by { functions = (drew i).functions } })
      ∙ sym (do_draws (E d.by.functions d.by.nib) d refl)

  -- what was refused ends all that was to be done
  pub ends_refused : (xs ys : List Action) (why : Reason) (d e : Stroking S B K) → e ≡ do_all sinks storages hosts xs d → e.stage.stop ≡ Some why → e ≡ do_all sinks storages hosts (xs ++ ys) d
  ends_refused xs ys why d e is stops = sym (do_stopped ys why e stops) ∙ ap (do_all sinks storages hosts ys) is ∙ sym (do_next xs ys d)

  -- where the storage is as it was, more can be done with the run
  pub then_work : (xs : List Action) (W : Work) (d e f : Stroking S B K) → e ≡ do_all sinks storages hosts xs d → (do_all sinks storages hosts xs d).stage.storage ≡ d.stage.storage
      → f ≡ work sinks storages hosts W e → f ≡ do_all sinks storages hosts (xs ++ W d.by.functions d.by.nib (storages.held d.stage.storage)) d
  unfolding do_all
  then_work xs W d e f is keeps after =
      after ∙ ap (work sinks storages hosts W) is
      ∙ (λ i. do_all sinks storages hosts (W d.by.functions d.by.nib (storages.held (keeps i))) (do_all sinks storages hosts xs d))
      ∙ sym (do_next xs (W d.by.functions d.by.nib (storages.held d.stage.storage)) d)

  -- ---- a step of a walk

  -- an outline leaves the storage, and the steps and ends counted, as they are
  abbrev pub quiet : Stage S B K → B × ℕ × ℕ
  quiet d = (d.storage, d.taken, d.ended)

  one_quiet : (n : ℕ) (stop : Option Reason) (e : Event) (d : Stage S B K) → quiet (act_on sinks storages hosts n stop (draws e) d) ≡ quiet d
  one_quiet n None e d = refl
  one_quiet n (Some why) e d = refl

  pub draws_quiet : (n : ℕ) (es : List Event) (d : Stage S B K) → quiet (perform sinks storages hosts n (map draws es) d) ≡ quiet d
  unfolding perform
  draws_quiet n [] d = refl
  draws_quiet n (e ∷ es) d = draws_quiet n es (act_on sinks storages hosts n d.stop (draws e) d) ∙ one_quiet n d.stop e d

  -- and so does what a dasher gives
  pub op_quiet : (n : ℕ) (op : DashOp) (F : Functions) (nib : Nib) (xs : List Segment) (d : Stage S B K) → quiet (perform sinks storages hosts n (op_actions op F nib xs) d) ≡ quiet d
  unfolding perform
  op_quiet n Done F nib xs d = refl
  op_quiet n Continue F nib xs d = refl
  op_quiet n (Emit r) F nib xs d = draws_quiet n (dash_of xs r F nib) d
  op_quiet n Stroke F nib xs d = draws_quiet n (outline true xs F nib) d

  -- a step, and what leaves storage and steps as they are: where the step was taken it is counted, and else all stops
  pub record StepTaken (n : ℕ) (d : Stage S B K) (V : List Action) : Type 0 where
    pub stored : (perform sinks storages hosts n (steps ∷ V) d).storage ≡ d.storage
    pub counted : (perform sinks storages hosts n (steps ∷ V) d).stop ≡ None → (d.taken < n) × ((perform sinks storages hosts n (steps ∷ V) d).taken ≡ d.taken + 1)
    pub spent : n ≤ d.taken → (perform sinks storages hosts n (steps ∷ V) d) ≡ record d { stop = Some StepsSpent }

  by_room : (less : Bool) (n : ℕ) (V : List Action) (d : Stage S B K) → nat_lt d.taken n ≡ less → ((e : Stage S B K) → quiet (perform sinks storages hosts n V e) ≡ quiet e) → d.stop ≡ None → StepTaken n d V
  unfolding perform
  by_room true n V d is silent going =
      let on : perform sinks storages hosts n (steps ∷ V) d ≡ perform sinks storages hosts n V (record d { taken = d.taken + 1 }) =
      (λ i. perform sinks storages hosts n V (act_on sinks storages hosts n (going i) steps d)) ∙ (λ i. perform sinks storages hosts n V (cond (is i) (record d { taken = d.taken + 1 }) (record d { stop = Some StepsSpent }))) in
      let kept = ap quiet on ∙ silent (record d { taken = d.taken + 1 }) in
      record {
        stored = ap (λ (q : B × ℕ × ℕ). q.0) kept;
        counted = λ _. (ltb-true d.taken n is, ap (λ (q : B × ℕ × ℕ). q.1) kept);
        spent = λ none. let room = ltb-true d.taken n is in absurd (omega (arith, none, room));
      }
  by_room false n V d is silent going =
      let on : perform sinks storages hosts n (steps ∷ V) d ≡ record d { stop = Some StepsSpent } =
      (λ i. perform sinks storages hosts n V (act_on sinks storages hosts n (going i) steps d)) ∙ (λ i. perform sinks storages hosts n V (cond (is i) (record d { taken = d.taken + 1 }) (record d { stop = Some StepsSpent })))
      ∙ perform_stopped n V StepsSpent (record d { stop = Some StepsSpent }) refl in
      record {
        stored = ap (λ (e : Stage S B K). e.storage) on;
        counted = λ wrong. let no : ◌≡◌ {A = Option Reason} None (Some StepsSpent) = sym wrong ∙ ap (λ (e : Stage S B K). e.stop) on in absurd cc;
        spent = λ _. on;
      }

  pub step_taken : (n : ℕ) (op : DashOp) (F : Functions) (nib : Nib) (xs : List Segment) (d : Stage S B K) → d.stop ≡ None → StepTaken n d (op_actions op F nib xs)
  step_taken n op F nib xs d going = by_room (nat_lt d.taken n) n (op_actions op F nib xs) d refl (op_quiet n op F nib xs) going
