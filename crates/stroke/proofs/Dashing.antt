-- What a stroker does along the walk of a dasher.
use Rattle.std.proofs.Common.{◌≡◌, ℕ, zero, suc, ◌+◌, ◌<◌, ◌≤◌, ◌^◌, Bool, true, false, cond, List, [], ◌∷◌, ◌++◌, flat_map, length, is_err, IsErrAnd, Some, None, Option, Ok, Err, Result, sym, refl, ap, ◌∙◌, nat_le, nat_lt, ◌&&◌, not, arith}
use Rattle.std.proofs.lemmas.Bool.{leb-true}
use Rattle.maths.specs.Functions.{Functions, HostActs}
use Rattle.path.specs.declared.refusal.Reason.{Reason}
use Rattle.path.specs.declared.refusal.Reason.TheVariants.{StepsSpent}
use Rattle.segments.specs.declared.segment.Segment.{Segment}
use Rattle.sinks.specs.Meaning.{SinkActs}
use Rattle.storage.specs.Meaning.{StorageActs}
use Rattle.pen.specs.declared.nib.Nib.{Nib}
use Rattle.dashes.specs.declared.dasher.DashOp.{DashOp}
use Rattle.dashes.specs.declared.dasher.DashOp.TheVariants.{Done, Continue, Emit, Stroke}
use Rattle.dashes.specs.declared.dasher.Dasher.{Dasher}
use Rattle.dashes.specs.declared.dasher.walk.Walk.{Walk}
use Rattle.dashes.specs.Dashers.{seeks, sought, next_of, begun, goes_on as on_the_run, one_taken, taken_by, stays}
use Rattle.dashes.specs.PatternValues.{values}
use Rattle.dashes.specs.Patterns.{Dashes}
use Rattle.dashes.specs.StepCounts.{most_steps}
use Rattle.dashes.specs.Walks.{GivesWithin, walking, seeking, dash_walk}
use Rattle.stroke.specs.declared.stroker.Stroker.{Stroker}
use Rattle.stroke.specs.Calls.{steps, dash_actions, run_actions}
use Rattle.stroke.specs.Strokers.{Stroking, stroking, stop_of, do_all, Work, work, run_work, op_actions, goes_on, next_op, walked_on, Drawable, dash_step}
use Rattle.stroke.proofs.Performing.{do_none, do_next, do_stopped, step_taken, then_work}

-- the reason of a refusal that is passed on
pub passed_on : {X : Type 0} (r : Result X Reason) (why : Reason) → is_err r ≡ true → IsErrAnd r (λ (e : Reason). e ≡ why) → stop_of r ≡ Some why
passed_on (Ok x) why wrong same = absurd cc
passed_on (Err e) why refused same = ap Some same

-- a run that is not empty
dashed_run : (F : Functions) (nib : Nib) (p : Dashes) (closed : Bool) (xs : List Segment) → 0 < length xs → run_actions F nib (Some p) closed xs ≡ flat_map (dash_actions F nib xs) (seeking most_steps p xs (seeks p (begun p closed)) (begun p closed))
dashed_run F nib p closed [] some = absurd (omega (arith, some))
dashed_run F nib p closed (x ∷ xs) some = refl

-- an empty run does nothing
pub no_run : (F : Functions) (nib : Nib) (pattern : Option Dashes) (closed : Bool) (xs : List Segment) → length xs ≡ 0 → run_actions F nib pattern closed xs ≡ []
no_run F nib pattern closed [] none = refl
no_run F nib pattern closed (x ∷ xs) none = absurd (omega (arith, none))

-- dashes are given only of a run that can be counted from both ends
short_enough : (n : ℕ) (op : DashOp) → n < 2 ^ 63 → GivesWithin n op → Drawable n op
short_enough n Done few given = tt
short_enough n Continue few given = tt
short_enough n (Emit r) few given = (given, few)
short_enough n Stroke few given = tt

last_true : (done on few : Bool) → (not done && (on && few)) ≡ true → few ≡ true
last_true true on few is = absurd cc
last_true false false few is = absurd cc
last_true false true few is = is

few_on_the_run : (n : ℕ) (w : Walk) → on_the_run n w ≡ true → n < 2 ^ 63
few_on_the_run n w is = omega (arith, leb-true n 0x7FFF_FFFF_FFFF_FFFF (last_true w.done (nat_lt w.cur n) (nat_le n 0x7FFF_FFFF_FFFF_FFFF) is))

pub drawable : (d : Dasher) (xs : List Segment) {op : DashOp} → op ≡ next_op d xs → GivesWithin (length xs) op → Drawable (length xs) op
drawable d xs {op = op} said given = on (on_the_run (length xs) d.walk) refl
  where
    done : (op : DashOp) → op ≡ Done → Drawable (length xs) op
    done Done _ = tt
    done Continue _ = tt
    done (Emit r) wrong = absurd cc
    done Stroke _ = tt

    on : (b : Bool) → on_the_run (length xs) d.walk ≡ b → Drawable (length xs) op
    on true few = short_enough (length xs) op (few_on_the_run (length xs) d.walk few) given
    on false over =
        let p = values d.pattern in
        done op (said ∙ ap (λ t. (cond t (one_taken p xs d.walk (taken_by p d.walk)) (stays d.walk)).op) over)

-- ---- what a walk still does, with n steps more

abbrev pub seek_left : Dasher → ℕ → Work
seek_left d n F nib xs = flat_map (dash_actions F nib xs) (dash_walk n d xs)

abbrev pub walk_left : Dasher → ℕ → Work
walk_left d n F nib xs = flat_map (dash_actions F nib xs) (walking n (values d.pattern) xs Continue d.walk)

-- after a step of it
abbrev pub step_left : Dasher → ℕ → Work
step_left d n F nib xs = cond (goes_on (next_op d xs)) (walk_left (walked_on d xs) n F nib xs) []

op_left : (n : ℕ) (p : Dashes) (w : Walk) (op : DashOp) (F : Functions) (nib : Nib) (xs : List Segment)
    → flat_map (dash_actions F nib xs) (walking n p xs op w) ≡ op_actions op F nib xs ++ cond (goes_on op) (flat_map (dash_actions F nib xs) (walking n p xs Continue w)) []
unfolding walking
op_left zero p w Done F nib xs = refl
op_left zero p w Continue F nib xs = refl
op_left zero p w (Emit r) F nib xs = refl
op_left zero p w Stroke F nib xs = refl
op_left (suc n) p w Done F nib xs = refl
op_left (suc n) p w Continue F nib xs = refl
op_left (suc n) p w (Emit r) F nib xs = refl
op_left (suc n) p w Stroke F nib xs = refl

-- What is left begins with a step, and with what the step gives: then with one step fewer.
pub record Steps (op : List Segment → DashOp) (before after : ℕ → Work) : Type 0 where
  pub last : (F : Functions) (nib : Nib) (xs : List Segment) → before 0 F nib xs ≡ steps ∷ []
  pub more : (n : ℕ) (F : Functions) (nib : Nib) (xs : List Segment) → before (suc n) F nib xs ≡ (steps ∷ op_actions (op xs) F nib xs) ++ after n F nib xs

pub seek_steps : (d : Dasher) {d' : Dasher} (due : Bool) → due ≡ seeks (values d.pattern) d.walk → due ≡ true → d' ≡ record { pattern = d.pattern; walk = sought (values d.pattern) d.walk } → Steps (λ xs. Continue) (seek_left d) (seek_left d')
unfolding seeking
seek_steps d due said is after = record {
  last = λ F nib xs. ap (λ t. flat_map (dash_actions F nib xs) (seeking 0 (values d.pattern) xs t d.walk)) (sym said ∙ is);
  more = λ n F nib xs. ap (λ t. flat_map (dash_actions F nib xs) (seeking (suc n) (values d.pattern) xs t d.walk)) (sym said ∙ is) ∙ ap (λ (e : Dasher). steps ∷ seek_left e n F nib xs) (sym after);
}

pub walk_steps : (d : Dasher) → Steps (next_op d) (walk_left d) (step_left d)
unfolding walking
walk_steps d = record {
  last = λ F nib xs. refl;
  more = λ n F nib xs. ap (λ l. steps ∷ l) (op_left n (values d.pattern) (next_of (values d.pattern) xs d.walk).after (next_op d xs) F nib xs);
}

sought_walk : (n : ℕ) (p : Dashes) (xs : List Segment) (w : Walk) → seeking n p xs false w ≡ walking n p xs Continue w
unfolding seeking
sought_walk zero p xs w = refl
sought_walk (suc n) p xs w = refl

module _ {S B K : Type 0} (sinks : SinkActs S) (storages : StorageActs B) (hosts : HostActs K) where
  -- Along a walk: from here what is left comes to the end T, with n steps more, which is as many as the budget admits.
  pub record Along (left : ℕ → Work) (T : Stroking S B K) (b : Stroker S B K) : Type 0 where
    pub n : ℕ
    pub enough : b.steps.budget ≤ b.steps.taken + n
    pub leads : work sinks storages hosts (left n) (stroking hosts b None) ≡ T

  step_on : (op : List Segment → DashOp) {before after : ℕ → Work} → Steps op before after → (n : ℕ) (d : Stroking S B K) → d.stage.stop ≡ None → d.by.budget ≤ d.stage.taken + n
      → (m : ℕ) × (n ≤ m + 1) × (work sinks storages hosts (before n) d ≡ work sinks storages hosts (after m) (work sinks storages hosts (λ F nib xs. steps ∷ op_actions (op xs) F nib xs) d))
  unfolding do_all
  step_on op {before = before} {after = after} s zero d going enough =
      let F = d.by.functions in
      let nib = d.by.nib in
      let xs = storages.held d.stage.storage in
      let none = step_taken sinks storages hosts d.by.budget (op xs) F nib xs d.stage going in
      let last = step_taken sinks storages hosts d.by.budget Done F nib xs d.stage going in
      let e = work sinks storages hosts (λ F nib xs. steps ∷ op_actions (op xs) F nib xs) d in (
        0,
        omega arith,
        ap (λ l. do_all sinks storages hosts l d) (s.last F nib xs) ∙ (λ i. record d { stage = last.spent (omega (arith, enough)) i }) ∙ (λ i. record d { stage = sym (none.spent (omega (arith, enough))) i })
            ∙ sym (do_stopped sinks storages hosts (after 0 F nib (storages.held e.stage.storage)) StepsSpent e (λ i. (none.spent (omega (arith, enough)) i).stop)),
      )
  step_on op {before = before} {after = after} s (suc m) d going enough =
      let F = d.by.functions in
      let nib = d.by.nib in
      let xs = storages.held d.stage.storage in
      let taken = step_taken sinks storages hosts d.by.budget (op xs) F nib xs d.stage going in
      let e = work sinks storages hosts (λ F nib xs. steps ∷ op_actions (op xs) F nib xs) d in (
        m,
        omega arith,
        ap (λ l. do_all sinks storages hosts l d) (s.more m F nib xs) ∙ do_next sinks storages hosts (steps ∷ op_actions (op xs) F nib xs) (after m F nib xs) d
            ∙ (λ i. do_all sinks storages hosts (after m F nib (storages.held (sym taken.stored i))) e),
      )

  -- a step was taken
  pub record Stepped (b c : Stroker S B K) : Type 0 where
    pub room : b.steps.taken < b.steps.budget
    pub taken : c.steps.taken ≡ b.steps.taken + 1
    pub budget : c.steps.budget ≡ b.steps.budget
    pub stored : c.storage.now ≡ b.storage.now

  pub stepped : (op : List Segment → DashOp) (b c : Stroker S B K) → stroking hosts c None ≡ work sinks storages hosts (λ F nib xs. steps ∷ op_actions (op xs) F nib xs) (stroking hosts b None) → Stepped b c
  unfolding do_all
  stepped op b c is =
      let d = stroking hosts b None in
      let xs = storages.held b.storage.now in
      let t = step_taken sinks storages hosts b.steps.budget (op xs) d.by.functions d.by.nib xs d.stage refl in
      let counted = t.counted (ap (λ (e : Stroking S B K). e.stage.stop) (sym is)) in
      record {
        room = counted.0;
        taken = ap (λ (e : Stroking S B K). e.stage.taken) is ∙ counted.1;
        budget = ap (λ (e : Stroking S B K). e.by.budget) is;
        stored = ap (λ (e : Stroking S B K). e.stage.storage) is ∙ t.stored;
      }

  pub step_along : (op : List Segment → DashOp) {before after : ℕ → Work} → Steps op before after → (T : Stroking S B K) (b c : Stroker S B K) → Along before T b
      → stroking hosts c None ≡ work sinks storages hosts (λ F nib xs. steps ∷ op_actions (op xs) F nib xs) (stroking hosts b None) → Along after T c
  step_along op {after = after} s T b c along is =
      let k = stepped op b c is in
      let on = step_on op s along.n (stroking hosts b None) refl along.enough in
      record {
        n = on.0;
        enough = omega (arith, along.enough, on.1, k.room, k.taken, k.budget);
        leads = ap (work sinks storages hosts (after on.0)) is ∙ sym on.2 ∙ along.leads;
      }

  pub step_refused : (op : List Segment → DashOp) {before after : ℕ → Work} → Steps op before after → (T : Stroking S B K) (b c : Stroker S B K) (why : Reason) → Along before T b
      → stroking hosts c (Some why) ≡ work sinks storages hosts (λ F nib xs. steps ∷ op_actions (op xs) F nib xs) (stroking hosts b None) → stroking hosts c (Some why) ≡ T
  step_refused op {after = after} s T b c why along is =
      let e = stroking hosts c (Some why) in
      let on = step_on op s along.n (stroking hosts b None) refl along.enough in
      sym (do_stopped sinks storages hosts (after on.0 e.by.functions e.by.nib (storages.held e.stage.storage)) why e refl)
      ∙ ap (work sinks storages hosts (after on.0)) is ∙ sym on.2 ∙ along.leads

  -- before the first step
  pub walk_begins : (p : Dashes) (closed : Bool) (d : Dasher) (a : Stroker S B K) → 0 < length (storages.held a.storage.now) → a.steps.budget ≤ most_steps → values d.pattern ≡ p → d.walk ≡ begun p closed
      → Along (seek_left d) (work sinks storages hosts (run_work (Some p) closed) (stroking hosts a None)) a
  walk_begins p closed d a some admitted pattern walk =
      let F = hosts.functions a.host.now in
      let xs = storages.held a.storage.now in
      record {
        n = most_steps;
        enough = omega (arith, admitted);
        leads = ap (λ l. do_all sinks storages hosts l (stroking hosts a None))
            ((λ i. flat_map (dash_actions F a.nib xs) (seeking most_steps (pattern i) xs (seeks (pattern i) (walk i)) (walk i))) ∙ sym (dashed_run F a.nib p closed xs some));
      }

  -- where the offset was found
  pub seek_done : (d : Dasher) (T : Stroking S B K) (b : Stroker S B K) (due : Bool) → due ≡ seeks (values d.pattern) d.walk → due ≡ false → Along (seek_left d) T b → Along (walk_left d) T b
  seek_done d T b due said is along =
      let F = hosts.functions b.host.now in
      let xs = storages.held b.storage.now in
      record {
        n = along.n;
        enough = along.enough;
        leads = ap (λ l. do_all sinks storages hosts (flat_map (dash_actions F b.nib xs) l) (stroking hosts b None)) (sym (sought_walk along.n (values d.pattern) xs d.walk) ∙ ap (λ t. seeking along.n (values d.pattern) xs t d.walk) (sym is ∙ said))
            ∙ along.leads;
      }

  -- the walk goes on, or is over
  pub walks_on : (d d' : Dasher) (T : Stroking S B K) (b : Stroker S B K) (more : Bool) → d' ≡ walked_on d (storages.held b.storage.now) → more ≡ goes_on (next_op d (storages.held b.storage.now)) → more ≡ true → Along (step_left d) T b → Along (walk_left d') T b
  walks_on d d' T b more after says is along =
      let F = hosts.functions b.host.now in
      let xs = storages.held b.storage.now in
      record {
        n = along.n;
        enough = along.enough;
        leads = (λ i. do_all sinks storages hosts (walk_left (after i) along.n F b.nib xs) (stroking hosts b None))
            ∙ (λ i. do_all sinks storages hosts (cond (sym (sym says ∙ is) i) (walk_left (walked_on d xs) along.n F b.nib xs) []) (stroking hosts b None)) ∙ along.leads;
      }

  pub walk_over : (d : Dasher) (T : Stroking S B K) (b : Stroker S B K) (more : Bool) → more ≡ goes_on (next_op d (storages.held b.storage.now)) → more ≡ false → Along (step_left d) T b → stroking hosts b None ≡ T
  walk_over d T b more says is along =
      let F = hosts.functions b.host.now in
      let xs = storages.held b.storage.now in
      sym (do_none sinks storages hosts (stroking hosts b None))
      ∙ (λ i. do_all sinks storages hosts (cond (sym (sym says ∙ is) i) (walk_left (walked_on d xs) along.n F b.nib xs) []) (stroking hosts b None)) ∙ along.leads

  -- a step leaves the run as it is
  step_keeps : (d : Stroking S B K) → d.stage.stop ≡ None → (do_all sinks storages hosts (steps ∷ []) d).stage.storage ≡ d.stage.storage
  unfolding do_all
  step_keeps d going = (step_taken sinks storages hosts d.by.budget Done d.by.functions d.by.nib [] d.stage going).stored

  pub same_run : (d e : Stroking S B K) → d.stage.stop ≡ None → e ≡ do_all sinks storages hosts (steps ∷ []) d → storages.held e.stage.storage ≡ storages.held d.stage.storage
  same_run d e going is = ap (λ (x : Stroking S B K). storages.held x.stage.storage) is ∙ ap storages.held (step_keeps d going)

  -- a step, and then what the dasher gives
  pub step_then_op : (d0 : Dasher) (op : DashOp) (d e f : Stroking S B K) → d.stage.stop ≡ None → e ≡ do_all sinks storages hosts (steps ∷ []) d → op ≡ next_op d0 (storages.held e.stage.storage)
      → f ≡ work sinks storages hosts (op_actions op) e → f ≡ work sinks storages hosts (dash_step d0) d
  step_then_op d0 op d e f going is said after =
      then_work sinks storages hosts (steps ∷ []) (λ F nib xs. op_actions (next_op d0 xs) F nib xs) d e f is (step_keeps d going) (after ∙ (λ i. work sinks storages hosts (op_actions (said i)) e))
