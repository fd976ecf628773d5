-- A stroker at its start, and the call as it is seen from outside.
use Rattle.std.proofs.Common.{◌≡◌, ℕ, true, cond, List, [], ◌∷◌, Option, Result, Ok, Err, Some, None, is_ok, nat_lt, sym, refl, ap, ◌∙◌}
use denote.Ref.{MutBor}
use lib.Ieee.{Float}
use Rattle.std.proofs.lemmas.Bool.{cond_both}
use Rattle.maths.specs.declared.host.Function.{Function}
use Rattle.storage.specs.Meaning.{room}
use Rattle.maths.specs.Functions.{HostActs}
use Rattle.path.specs.declared.command.Command.{Command}
use Rattle.path.specs.declared.style.Stroke.{Stroke}
use Rattle.path.specs.declared.refusal.Reason.{Reason}
use Rattle.path.specs.declared.refusal.Refusal.{Refusal}
use Rattle.cursor.specs.Drawings.{drawn_whole}
use Rattle.pen.specs.declared.nib.Nib.{Nib}
use Rattle.pen.specs.Nibs.{nib_of}
use Rattle.dashes.specs.Patterns.{Dashes, pattern_of}
use Rattle.dashes.specs.StepCounts.{none_taken}
use Rattle.sinks.specs.Meaning.{SinkActs}
use Rattle.storage.specs.Meaning.{StorageActs}
use Rattle.stroke.specs.declared.stroker.Stroker.{Stroker}
use Rattle.stroke.specs.Events.{asks, sends}
use Rattle.stroke.specs.Calls.{Action, clears, stores, ends, steps, draws, run_by_run, stroke_actions}
use Rattle.stroke.specs.Counts.{counted}
use Rattle.stroke.specs.declared.tally.Tally.{Tally}
use Rattle.stroke.specs.Outcomes.{Stage, Outcome, Request, admitted_request, request_actions, answered, act_on, outcome, perform, at_start, stroked}
use Rattle.stroke.specs.Strokers.{Stroking, stroking, stop_of, do_all, work, whole}

abbrev pub fresh : {S B K : Type 0} → Nib → ℕ → MutBor S → MutBor B → MutBor K → Stroker S B K
fresh nib budget sink storage host = record { sink = sink; host = host; nib = nib; storage = storage; steps = none_taken budget; ended = 0 }

-- what a stroker did from its start, with what it was lent
module _ {S B K : Type 0} (sinks : SinkActs S) (storages : StorageActs B) (hosts : HostActs K) (cs : List Command) (style : Stroke) (dashes : List Float)
    {nib : Nib} {budget : ℕ} {sink : MutBor S} {storage : MutBor B} {host : MutBor K} {pattern : Option Dashes} {s : Stroker S B K} (t : Stroker S B K) (a : Result (Unit {0}) Reason)
    (is : s ≡ fresh nib budget sink storage host) (nibbed : nib ≡ nib_of style) (patterned : pattern ≡ pattern_of dashes style.offset)
    (drew : stroking hosts t (stop_of a) ≡ work sinks storages hosts (whole pattern cs) (stroking hosts s None)) where
  pub same_references : (t.sink.ghost_name ≡ sink.ghost_name) × (t.storage.ghost_name ≡ storage.ghost_name) × (t.host.ghost_name ≡ host.ghost_name)
  unfolding do_all
  same_references =
      let names = ap (λ (d : Stroking S B K). d.by.names) drew in (
        ap (λ (n : ℕ × ℕ × ℕ). n.0) names ∙ ap (λ (u : Stroker S B K). u.sink.ghost_name) is,
        ap (λ (n : ℕ × ℕ × ℕ). n.1) names ∙ ap (λ (u : Stroker S B K). u.storage.ghost_name) is,
        ap (λ (n : ℕ × ℕ × ℕ). n.2) names ∙ ap (λ (u : Stroker S B K). u.host.ghost_name) is,
      )

  pub drawn_from_start : {n : ℕ} {s' : S} {b' : B} {k' : K} → n ≡ t.steps.taken → s' ≡ t.sink.now → b' ≡ t.storage.now → k' ≡ t.host.now
      → ◌≡◌ {A = Stage S B K} (record { sink = s'; storage = b'; host = k'; taken = n; ended = t.ended; stop = stop_of a })
      (perform sinks storages hosts budget (stroke_actions (hosts.functions host.now) cs style dashes) (at_start sink.now storage.now host.now))
  unfolding do_all
  drawn_from_start taken sunk stored hosted =
      let F = hosts.functions host.now in
      (λ i. record { sink = sunk i; storage = stored i; host = hosted i; taken = taken i; ended = t.ended; stop = stop_of a })
      ∙ ap (λ (d : Stroking S B K). d.stage) drew ∙ ap (λ (u : Stroker S B K). (work sinks storages hosts (whole pattern cs) (stroking hosts u None)).stage) is
      ∙ (λ i. perform sinks storages hosts budget (clears ∷ run_by_run F (nibbed i) (patterned i) [] (drawn_whole F true cs)) (at_start sink.now storage.now host.now))

module _ {S B K : Type 0} (sinks : SinkActs S) (storages : StorageActs B) (hosts : HostActs K) (q : Request) (s : S) (b : B) (k : K) where
  -- a call that was refused at once did nothing
  pub refused_call : {e : Refusal} {a : Result Tally Refusal} → admitted_request q ≡ Err e → a ≡ Err e → record { answer = a; sink = s; storage = b; host = k } ≡ stroked sinks storages hosts q s b k
  unfolding stroked perform
  refused_call {e = e} refused is =
      (λ i. record { answer = is i; sink = s; storage = b; host = k })
      ∙ (λ i. let o = outcome (perform (counted sinks) storages hosts q.budget (cond (is_ok (sym refused i)) (stroke_actions (hosts.functions k) q.commands q.style q.dashes) []) (at_start (s, 0) b k)) in record o { answer = answered (sym refused i) o.answer })

  -- and one that was admitted drew
  pub admitted_call : {x : Unit {0}} {o : Outcome S B K} → admitted_request q ≡ Ok x → o ≡ outcome (perform (counted sinks) storages hosts q.budget (stroke_actions (hosts.functions k) q.commands q.style q.dashes) (at_start (s, 0) b k)) → o ≡ stroked sinks storages hosts q s b k
  unfolding stroked
  admitted_call admitted drew =
      drew ∙ (λ i. let o = outcome (perform (counted sinks) storages hosts q.budget (cond (is_ok (sym admitted i)) (stroke_actions (hosts.functions k) q.commands q.style q.dashes) []) (at_start (s, 0) b k)) in record o { answer = answered (sym admitted i) o.answer })

  -- no call alters the functions of its host
  module _ (same : (k : K) (f : Function) (x : Float) → hosts.functions (hosts.asked k f x) ≡ hosts.functions k) where
    act_same : (n : ℕ) (stop : Option Reason) (a : Action) (d : Stage (S × ℕ) B K) → hosts.functions (act_on (counted sinks) storages hosts n stop a d).host ≡ hosts.functions d.host
    act_same n (Some why) a d = refl
    act_same n None clears d = refl
    act_same n None (stores x) d = cond_both (room (storages.held d.storage) (storages.capacity d.storage)) _ _ (λ (e : Stage (S × ℕ) B K). hosts.functions e.host ≡ hosts.functions d.host) (λ _. refl) (λ _. refl)
    act_same n None ends d = refl
    act_same n None steps d = cond_both (nat_lt d.taken n) _ _ (λ (e : Stage (S × ℕ) B K). hosts.functions e.host ≡ hosts.functions d.host) (λ _. refl) (λ _. refl)
    act_same n None (draws (asks e)) d = same d.host e.0 e.1
    act_same n None (draws (sends c)) d = refl

    all_same : (n : ℕ) (todo : List Action) (d : Stage (S × ℕ) B K) → hosts.functions (perform (counted sinks) storages hosts n todo d).host ≡ hosts.functions d.host
    unfolding perform
    all_same n [] d = refl
    all_same n (a ∷ todo) d = all_same n todo (act_on (counted sinks) storages hosts n d.stop a d) ∙ act_same n d.stop a d

    pub functions_kept : {o : Outcome S B K} → o ≡ stroked sinks storages hosts q s b k → hosts.functions o.host ≡ hosts.functions k
    unfolding stroked
    functions_kept whole = ap (λ (o : Outcome S B K). hosts.functions o.host) whole ∙ all_same q.budget (request_actions (hosts.functions k) q) (at_start (s, 0) b k)
