-- What a stroker does run by run.
use Rattle.std.proofs.Common.{◌≡◌, ℕ, ◌+◌, ◌*◌, ◌≤◌, Bool, true, false, cond, T, List, [], ◌∷◌, ◌++◌, map, flat_map, length, drop, nat_lt, Some, None, Option, sym, refl, ap, ◌∙◌, subst, arith}
use Rattle.std.proofs.lemmas.Bool.{cond_both}
use lib.Ieee.{Float}
use Rattle.std.specs.Option.{option_to_list}
use Rattle.maths.specs.Functions.{Functions, HostActs}
use Rattle.maths.specs.Questions.{Question, all_asked}
use Rattle.maths.specs.declared.host.Function.{Function}
use Rattle.maths.proofs.Asking.{asked_same}
use Rattle.path.specs.declared.command.Command.{Command}
use Rattle.path.specs.declared.refusal.Reason.{Reason}
use Rattle.path.specs.declared.refusal.Reason.TheVariants.{StorageFull}
use Rattle.segments.specs.declared.segment.Segment.{Segment}
use Rattle.segments.specs.declared.segment.Segment.TheVariants.{Line, Curve, End}
use Rattle.sinks.specs.Meaning.{SinkActs}
use Rattle.storage.specs.Meaning.{StorageActs, HasRoom, room}
use Rattle.cursor.specs.declared.walk.Segments.{Segments}
use Rattle.cursor.specs.Cursors.{seen, rest, fresh}
use Rattle.cursor.specs.Drawings.{asks, gives, still, drawn_whole, pieces_given, pieces_drawn}
use Rattle.cursor.specs.Drawings as drawings
use Rattle.cursor.specs.Giving.{left, next_of}
use Rattle.cursor.specs.Laws.{GivesHead}
use Rattle.cursor.specs.Machines.{Machine, Done, done}
use Rattle.pen.specs.declared.nib.Nib.{Nib}
use Rattle.dashes.specs.Patterns.{Dashes}
use Rattle.dashes.specs.Walks.{DashEvent}
use Rattle.dashes.specs.Walks as walks
use Rattle.stroke.specs.declared.stroker.Stroker.{Stroker}
use Rattle.stroke.specs.Calls.{Action, clears, stores, ends, steps, draws, dash_actions, run_actions, run_by_run}
use Rattle.stroke.specs.Events.{Event}
use Rattle.stroke.specs.Outlines.{outline}
use Rattle.stroke.specs.Ranges.{dash_of}
use Rattle.stroke.specs.Runs.{walk_along}
use Rattle.stroke.specs.Outcomes.{Stage, act_on, perform}
use Rattle.stroke.specs.Strokers.{Stroking, stroking, do_all, Work, work, acting, run_work, taking, whole}
use Rattle.stroke.proofs.Performing.{perform_append, perform_stopped, draws_quiet, do_next, do_stopped, ends_refused}

-- what is still to be done with what a cursor gives
abbrev pub runs_left : Option Dashes → (Functions → List drawings.Event) → Work
runs_left pattern given F nib xs = run_by_run F nib pattern xs (given F)

-- what a cursor still gives
abbrev pub still_given : Segments → List Command → Functions → List drawings.Event
still_given s cs F = still F (seen s) (rest s cs)

-- a cursor before the first command gives a whole drawing
fresh_gives : (F : Functions) (cs : List Command) (s : Segments) → seen s ≡ fresh true → s.place ≡ 0 → still_given s cs F ≡ drawn_whole F true cs
unfolding pieces_given pieces_drawn
fresh_gives F cs s machine place = λ i. still F (machine i) (drop (place i) cs)

-- more than it can still give
pub fresh_left : (cs : List Command) (s : Segments) → seen s ≡ fresh true → s.place ≡ 0 → left (seen s) (rest s cs) ≡ 17 * length cs
fresh_left cs s machine place = let all : left (seen s) (rest s cs) ≡ left (fresh true) cs = λ i. left (machine i) (drop (place i) cs) in omega (arith, all)

module _ {S B K : Type 0} (sinks : SinkActs S) (storages : StorageActs B) (hosts : HostActs K) where
  -- ---- at an end

  pub end_refused : (pattern : Option Dashes) (closed : Bool) (a c : Stroker S B K) (why : Reason)
      → stroking hosts c (Some why) ≡ work sinks storages hosts (run_work pattern closed) (stroking hosts (record a { ended = a.ended + 1 }) None)
      → stroking hosts c (Some why) ≡ work sinks storages hosts (taking pattern (End closed)) (stroking hosts a None)
  unfolding do_all perform
  end_refused pattern closed a c why is =
      ends_refused sinks storages hosts (run_actions (hosts.functions a.host.now) a.nib pattern closed (storages.held a.storage.now)) (clears ∷ []) why (stroking hosts (record a { ended = a.ended + 1 }) None) (stroking hosts c (Some why)) is refl

  pub end_taken : (pattern : Option Dashes) (closed : Bool) (a : Stroker S B K) (e f : Stroking S B K) → e ≡ work sinks storages hosts (run_work pattern closed) (stroking hosts (record a { ended = a.ended + 1 }) None)
      → f ≡ do_all sinks storages hosts (clears ∷ []) e → f ≡ work sinks storages hosts (taking pattern (End closed)) (stroking hosts a None)
  unfolding do_all perform
  end_taken pattern closed a e f is cleared =
      cleared ∙ ap (do_all sinks storages hosts (clears ∷ [])) is
      ∙ sym (do_next sinks storages hosts (run_actions (hosts.functions a.host.now) a.nib pattern closed (storages.held a.storage.now)) (clears ∷ []) (stroking hosts (record a { ended = a.ended + 1 }) None))

  drawn_ended : (n : ℕ) (es : List Event) (more : List Action) (s : Stage S B K) → ((t : Stage S B K) → (perform sinks storages hosts n more t).ended ≡ t.ended)
      → (perform sinks storages hosts n (map draws es ++ more) s).ended ≡ s.ended
  drawn_ended n es more s h =
      ap (λ (t : Stage S B K). t.ended) (perform_append sinks storages hosts n (map draws es) more s) ∙ h (perform sinks storages hosts n (map draws es) s) ∙ ap (λ (q : B × ℕ × ℕ). q.2) (draws_quiet sinks storages hosts n es s)

  -- a run counts no end
  step_ended : (n : ℕ) (stop : Option Reason) (s : Stage S B K) → (act_on sinks storages hosts n stop steps s).ended ≡ s.ended
  step_ended n None s = cond_both (nat_lt s.taken n) _ _ (λ (t : Stage S B K). t.ended ≡ s.ended) (λ _. refl) (λ _. refl)
  step_ended n (Some why) s = refl

  walk_ended : (n : ℕ) (F : Functions) (nib : Nib) (xs : List Segment) (es : List DashEvent) (s : Stage S B K) → (perform sinks storages hosts n (flat_map (dash_actions F nib xs) es) s).ended ≡ s.ended
  unfolding perform
  walk_ended n F nib xs [] s = refl
  walk_ended n F nib xs (walks.steps ∷ es) s = walk_ended n F nib xs es (act_on sinks storages hosts n s.stop steps s) ∙ step_ended n s.stop s
  walk_ended n F nib xs (walks.emits r ∷ es) s = drawn_ended n (dash_of xs r F nib) _ s (walk_ended n F nib xs es)
  walk_ended n F nib xs (walks.strokes ∷ es) s = drawn_ended n (outline true xs F nib) _ s (walk_ended n F nib xs es)

  run_ended : (n : ℕ) (F : Functions) (nib : Nib) (pattern : Option Dashes) (closed : Bool) (xs : List Segment) (s : Stage S B K) → (perform sinks storages hosts n (run_actions F nib pattern closed xs) s).ended ≡ s.ended
  unfolding perform
  run_ended n F nib pattern closed [] s = refl
  run_ended n F nib None closed (x ∷ xs) s = ap (λ (q : B × ℕ × ℕ). q.2) (draws_quiet sinks storages hosts n (outline closed (x ∷ xs) F nib) s)
  run_ended n F nib (Some p) closed (x ∷ xs) s = walk_ended n F nib (x ∷ xs) (walk_along p closed (x ∷ xs)) s

  clears_ended : (n : ℕ) (stop : Option Reason) (s : Stage S B K) → (act_on sinks storages hosts n stop clears s).ended ≡ s.ended
  clears_ended n None s = refl
  clears_ended n (Some why) s = refl

  -- and what a cursor gives one at most
  one_ended : (n : ℕ) (F : Functions) (nib : Nib) (pattern : Option Dashes) (x : Segment) (s : Stage S B K)
      → (perform sinks storages hosts n (taking pattern x F nib (storages.held s.storage)) (record s { stop = None })).ended ≤ s.ended + 1
  unfolding perform
  one_ended n F nib pattern (Line i l) s = cond_both (room (storages.held s.storage) (storages.capacity s.storage)) _ _ (λ (t : Stage S B K). t.ended ≤ s.ended + 1) (λ _. omega arith) (λ _. omega arith)
  one_ended n F nib pattern (Curve i k) s = cond_both (room (storages.held s.storage) (storages.capacity s.storage)) _ _ (λ (t : Stage S B K). t.ended ≤ s.ended + 1) (λ _. omega arith) (λ _. omega arith)
  one_ended n F nib pattern (End closed) s =
      let run = run_actions F nib pattern closed (storages.held s.storage) in
      let at : Stage S B K = record s { ended = s.ended + 1; stop = None } in
      let e = perform sinks storages hosts n run at in
      let same = ap (λ (t : Stage S B K). t.ended) (perform_append sinks storages hosts n run (clears ∷ []) at) ∙ clears_ended n e.stop e ∙ run_ended n F nib pattern closed (storages.held s.storage) at in
      omega (arith, same)

  pub taken_ended : (pattern : Option Dashes) (x : Segment) (b c : Stroker S B K) {stop : Option Reason} → stroking hosts c stop ≡ work sinks storages hosts (taking pattern x) (stroking hosts b None) → c.ended ≤ b.ended + 1
  unfolding do_all
  taken_ended pattern x b c is =
      let d = stroking hosts b None in
      omega (arith, ap (λ (t : Stroking S B K). t.stage.ended) is, one_ended b.steps.budget d.by.functions b.nib pattern x d.stage)

  -- ---- what the cursor gives

  module _ (n : ℕ) (F : Functions) (nib : Nib) (pattern : Option Dashes) (es : List drawings.Event) where
    abbrev rest_of : Stage S B K → Stage S B K
    rest_of t = perform sinks storages hosts n (run_by_run F nib pattern (storages.held t.storage) es) t

    stored_leads : ((b : B) (x : Segment) → HasRoom storages b → storages.held (storages.pushed b x) ≡ storages.held b ++ (x ∷ []))
        → (x : Segment) (s : Stage S B K) (fits : Bool) → room (storages.held s.storage) (storages.capacity s.storage) ≡ fits
        → perform sinks storages hosts n (stores x ∷ run_by_run F nib pattern (storages.held s.storage ++ (x ∷ [])) es) (record s { stop = None }) ≡ rest_of (perform sinks storages hosts n (stores x ∷ []) (record s { stop = None }))
    unfolding perform
    stored_leads grows x s true fits =
        let at : Stage S B K = record s { stop = None } in
        let on : Bool → Stage S B K = λ t. cond t (record at { storage = storages.pushed s.storage x }) (record at { stop = Some StorageFull }) in
        ap (λ t. perform sinks storages hosts n (run_by_run F nib pattern (storages.held s.storage ++ (x ∷ [])) es) (on t)) fits
        ∙ ap (λ ys. perform sinks storages hosts n (run_by_run F nib pattern ys es) (on true)) (sym (grows s.storage x (subst T (sym fits) tt)))
        ∙ ap (λ t. rest_of (on t)) (sym fits)
    stored_leads grows x s false fits =
        let at : Stage S B K = record s { stop = None } in
        let on : Bool → Stage S B K = λ t. cond t (record at { storage = storages.pushed s.storage x }) (record at { stop = Some StorageFull }) in
        ap (λ t. perform sinks storages hosts n (run_by_run F nib pattern (storages.held s.storage ++ (x ∷ [])) es) (on t)) fits
        ∙ perform_stopped sinks storages hosts n (run_by_run F nib pattern (storages.held s.storage ++ (x ∷ [])) es) StorageFull (on false) refl
        ∙ sym (perform_stopped sinks storages hosts n (run_by_run F nib pattern (storages.held s.storage) es) StorageFull (on false) refl)
        ∙ ap (λ t. rest_of (on t)) (sym fits)

    cleared_leads : ((b : B) → storages.held (storages.cleared b) ≡ []) → (stop : Option Reason) (e : Stage S B K) → e.stop ≡ stop
        → perform sinks storages hosts n (run_by_run F nib pattern [] es) (act_on sinks storages hosts n stop clears e) ≡ rest_of (act_on sinks storages hosts n stop clears e)
    cleared_leads empties None e is = ap (λ ys. perform sinks storages hosts n (run_by_run F nib pattern ys es) (record e { storage = storages.cleared e.storage })) (sym (empties e.storage))
    cleared_leads empties (Some why) e is =
        perform_stopped sinks storages hosts n (run_by_run F nib pattern [] es) why e is ∙ sym (perform_stopped sinks storages hosts n (run_by_run F nib pattern (storages.held e.storage) es) why e is)

    end_leads : ((b : B) → storages.held (storages.cleared b) ≡ []) → (now : List Action) (s : Stage S B K)
        → perform sinks storages hosts n (now ++ (clears ∷ run_by_run F nib pattern [] es)) s ≡ rest_of (perform sinks storages hosts n (now ++ (clears ∷ [])) s)
    unfolding perform
    end_leads empties now s =
        let e = perform sinks storages hosts n now s in
        perform_append sinks storages hosts n now (clears ∷ run_by_run F nib pattern [] es) s ∙ cleared_leads empties e.stop e refl
        ∙ ap rest_of (sym (perform_append sinks storages hosts n now (clears ∷ []) s))

  -- what is left where one thing more was given
  pub taking_leads : ((b : B) → storages.held (storages.cleared b) ≡ []) → ((b : B) (x : Segment) → HasRoom storages b → storages.held (storages.pushed b x) ≡ storages.held b ++ (x ∷ []))
      → (pattern : Option Dashes) (given : Functions → List drawings.Event) (x : Segment) (b : Stroker S B K)
      → work sinks storages hosts (runs_left pattern (λ F. gives x ∷ given F)) (stroking hosts b None) ≡ work sinks storages hosts (runs_left pattern given) (work sinks storages hosts (taking pattern x) (stroking hosts b None))
  unfolding do_all run_by_run
  taking_leads empties grows pattern given (Line i l) b =
      let d = stroking hosts b None in
      ap (λ (s : Stage S B K). record d { stage = s }) (stored_leads b.steps.budget d.by.functions b.nib pattern (given d.by.functions) grows (Line i l) d.stage (room (storages.held b.storage.now) (storages.capacity b.storage.now)) refl)
  taking_leads empties grows pattern given (Curve i k) b =
      let d = stroking hosts b None in
      ap (λ (s : Stage S B K). record d { stage = s }) (stored_leads b.steps.budget d.by.functions b.nib pattern (given d.by.functions) grows (Curve i k) d.stage (room (storages.held b.storage.now) (storages.capacity b.storage.now)) refl)
  taking_leads empties grows pattern given (End closed) b =
      let d = stroking hosts b None in
      ap (λ (s : Stage S B K). record d { stage = s }) (end_leads b.steps.budget d.by.functions b.nib pattern (given d.by.functions) empties (ends ∷ run_actions d.by.functions b.nib pattern closed (storages.held b.storage.now)) d.stage)

  -- ---- the questions before it

  asks_lead : (n : ℕ) (F : Functions) (nib : Nib) (pattern : Option Dashes) (xs : List Segment) (qs : List Question) (es : List drawings.Event) (s : Stage S B K)
      → perform sinks storages hosts n (run_by_run F nib pattern xs (map asks qs ++ es)) (record s { stop = None }) ≡ perform sinks storages hosts n (run_by_run F nib pattern xs es) (record s { host = all_asked hosts.asked s.host qs; stop = None })
  unfolding perform run_by_run
  asks_lead n F nib pattern xs [] es s = refl
  asks_lead n F nib pattern xs (q ∷ qs) es s = asks_lead n F nib pattern xs qs es (record s { host = hosts.asked s.host q.0 q.1 })

  -- the cursor was asked: what it gave, if anything, is the first of what is left
  pub record Given (pattern : Option Dashes) (T : Stroking S B K) (b : Stroker S B K) (x : Option Segment) (given : Functions → List drawings.Event) : Type 0 where
    pub leads : work sinks storages hosts (runs_left pattern (λ F. map gives (option_to_list x) ++ given F)) (stroking hosts b None) ≡ T
    pub last : x ≡ None → given (hosts.functions b.host.now) ≡ []

  pub asks_next : ((k : K) (f : Function) (x : Float) → hosts.functions (hosts.asked k f x) ≡ hosts.functions k)
      → (pattern : Option Dashes) (T : Stroking S B K) (p : ℕ) (cs : List Command) (b : Stroker S B K) {k' : K} {m m' : Machine} {o : Option Segment} {p' : ℕ}
      → work sinks storages hosts (runs_left pattern (λ F. still F m (drop p cs))) (stroking hosts b None) ≡ T
      → record { gave = o; after = m'; place = p'; host = k' } ≡ done hosts.asked p b.host.now (next_of (hosts.functions b.host.now) m (drop p cs)) → GivesHead (hosts.functions b.host.now) m (drop p cs) o m' (drop p' cs)
      → Given pattern T (record b { host = record b.host { now = k' } }) o (λ F. still F m' (drop p' cs))
  unfolding do_all
  asks_next law pattern T p cs b {k' = k'} {m = m} {m' = m'} {o = o} {p' = p'} leads is h =
      let d = stroking hosts b None in
      let F = hosts.functions b.host.now in
      let n = b.steps.budget in
      let xs = storages.held b.storage.now in
      let qs = (next_of F m (drop p cs)).asked in
      let host : k' ≡ all_asked hosts.asked b.host.now qs = ap (λ (d : Done K). d.host) is in
      let same : hosts.functions k' ≡ F = ap hosts.functions host ∙ asked_same hosts law b.host.now qs in
      let given : Functions → List drawings.Event = λ G. map gives (option_to_list o) ++ still G m' (drop p' cs) in
      record {
        leads = (λ i. record { stage = perform sinks storages hosts n (run_by_run (same i) b.nib pattern xs (given (same i))) (record d.stage { host = k' }); by = record d.by { functions = same i } })
            ∙ (λ i. record d { stage = perform sinks storages hosts n (run_by_run F b.nib pattern xs (given F)) (record d.stage { host = host i }) })
            ∙ ap (λ (s : Stage S B K). record d { stage = s }) (sym (asks_lead n F b.nib pattern xs qs (given F) d.stage))
            ∙ (λ i. record d { stage = perform sinks storages hosts n (run_by_run F b.nib pattern xs (sym h.head i)) d.stage }) ∙ leads;
        last = λ none. ap (λ G. still G m' (drop p' cs)) same ∙ h.last none;
      }

  -- ---- the commands

  pub starts : ((b : B) → storages.held (storages.cleared b) ≡ []) → (pattern : Option Dashes) (cs : List Command) (s : Segments) (a : Stroker S B K) (e : Stroking S B K) → seen s ≡ fresh true → s.place ≡ 0
      → e ≡ work sinks storages hosts (acting clears) (stroking hosts a None) → work sinks storages hosts (runs_left pattern (still_given s cs)) e ≡ work sinks storages hosts (whole pattern cs) (stroking hosts a None)
  unfolding do_all perform
  starts empties pattern cs s a e machine place cleared =
      let d = stroking hosts a None in
      let F = hosts.functions a.host.now in
      ap (work sinks storages hosts (runs_left pattern (still_given s cs))) cleared
      ∙ (λ i. record d { stage = perform sinks storages hosts a.steps.budget (run_by_run F a.nib pattern (empties a.storage.now i) (fresh_gives F cs s machine place i)) (record d.stage { storage = storages.cleared a.storage.now }) })

  pub cleared_ended : (a c : Stroker S B K) → stroking hosts c None ≡ work sinks storages hosts (acting clears) (stroking hosts a None) → c.ended ≡ a.ended
  unfolding do_all perform
  cleared_ended a c cleared = ap (λ (d : Stroking S B K). d.stage.ended) cleared

  -- a segment was taken, or its refusal ends all
  pub taken_on : ((b : B) → storages.held (storages.cleared b) ≡ []) → ((b : B) (x : Segment) → HasRoom storages b → storages.held (storages.pushed b x) ≡ storages.held b ++ (x ∷ []))
      → (pattern : Option Dashes) (T e : Stroking S B K) (b : Stroker S B K) (x : Segment) {o : Option Segment} {given : Functions → List drawings.Event} → Given pattern T b o given → o ≡ Some x
      → e ≡ work sinks storages hosts (taking pattern x) (stroking hosts b None) → work sinks storages hosts (runs_left pattern given) e ≡ T
  taken_on empties grows pattern T e b x {given = given} g is took =
      ap (work sinks storages hosts (runs_left pattern given)) took ∙ sym (taking_leads empties grows pattern given x b)
      ∙ ap (λ o. work sinks storages hosts (runs_left pattern (λ F. map gives (option_to_list o) ++ given F)) (stroking hosts b None)) (sym is) ∙ g.leads

  pub taken_off : ((b : B) → storages.held (storages.cleared b) ≡ []) → ((b : B) (x : Segment) → HasRoom storages b → storages.held (storages.pushed b x) ≡ storages.held b ++ (x ∷ []))
      → (pattern : Option Dashes) (T : Stroking S B K) (b c : Stroker S B K) (x : Segment) (why : Reason) {o : Option Segment} {given : Functions → List drawings.Event} → Given pattern T b o given → o ≡ Some x
      → stroking hosts c (Some why) ≡ work sinks storages hosts (taking pattern x) (stroking hosts b None) → stroking hosts c (Some why) ≡ T
  taken_off empties grows pattern T b c x why {given = given} g is took =
      let e = stroking hosts c (Some why) in
      sym (do_stopped sinks storages hosts (run_by_run e.by.functions e.by.nib pattern (storages.held e.stage.storage) (given e.by.functions)) why e refl) ∙ taken_on empties grows pattern T e b x g is took

  -- the commands end
  pub ran_out : (pattern : Option Dashes) (T e : Stroking S B K) (b : Stroker S B K) {o : Option Segment} {given : Functions → List drawings.Event} → Given pattern T b o given → o ≡ None
      → e ≡ work sinks storages hosts (run_work pattern false) (stroking hosts b None) → e ≡ T
  unfolding run_by_run
  ran_out pattern T e b {given = given} g none drew =
      drew ∙ ap (λ es. do_all sinks storages hosts (run_by_run (hosts.functions b.host.now) b.nib pattern (storages.held b.storage.now) es) (stroking hosts b None)) (sym (g.last none))
      ∙ ap (λ o. work sinks storages hosts (runs_left pattern (λ F. map gives (option_to_list o) ++ given F)) (stroking hosts b None)) (sym none) ∙ g.leads

  -- the budget stays
  pub same_budget : (W V : Work) (a b : Stroker S B K) → work sinks storages hosts W (stroking hosts b None) ≡ work sinks storages hosts V (stroking hosts a None) → b.steps.budget ≡ a.steps.budget
  unfolding do_all
  same_budget W V a b is = ap (λ (d : Stroking S B K). d.by.budget) is
