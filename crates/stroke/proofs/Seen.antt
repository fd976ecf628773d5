-- A stroke in one world of sinks, storages and hosts, seen from another, is a stroke there.
use Rattle.std.proofs.Common.{◌≡◌, ℕ, suc, ◌+◌, Bool, true, false, cond, T, List, [], ◌∷◌, ◌++◌, length, is_ok, Some, None, Option, Result, sym, refl, ap, ◌∙◌}
use Rattle.std.specs.Prelude.{Float}
use Rattle.maths.specs.declared.host.Function.{Function}
use Rattle.maths.specs.Functions.{Functions, HostActs, no_host, restricted}
use Rattle.path.specs.declared.command.Command.{Command}
use Rattle.path.specs.declared.refusal.Reason.{Reason}
use Rattle.path.specs.declared.refusal.Reason.TheVariants.{StorageFull, StepsSpent}
use Rattle.path.specs.declared.refusal.Refusal.{Refusal}
use Rattle.segments.specs.declared.segment.Segment.{Segment}
use Rattle.sinks.specs.Meaning.{Meaning, SinkActs, takes, joined, verdict, meaning_acts}
use Rattle.storage.specs.Meaning.{StorageActs, HasRoom, Held, held_acts, held_by, empty_held, room}
use Rattle.cursor.specs.Drawings.{drawn_whole}
use Rattle.pen.specs.Nibs.{nib_of}
use Rattle.dashes.specs.Patterns.{pattern_of}
use Rattle.stroke.specs.Events.{asks, sends}
use Rattle.stroke.specs.Counts.{counted}
use Rattle.stroke.specs.Calls.{Action, clears, stores, ends, steps, draws, run_by_run}
use Rattle.stroke.specs.Outcomes.{Stage, Outcome, Request, admitted_request, request_actions, answered, outcome, why_not, act, act_on, perform, at_start, stroked}
use Rattle.stroke.specs.Histories.{call, Promised}
use Rattle.stroke.specs.declared.tally.Tally.{Tally}

-- what is seen of either of two things
seen_either : {X Y : Type 0} (see : X → Y) (t : Bool) (x x' : X) {y y' : Y} → (T t → see x ≡ y) → see x' ≡ y' → see (cond t x x') ≡ cond t y y'
seen_either see true x x' taken left = taken tt
seen_either see false x x' taken left = left

-- how sinks, storages and hosts are seen as others
abbrev pub stage_seen : {S B K S' B' K' : Type 0} → (S → S') → (B → B') → (K → K') → Stage S B K → Stage S' B' K'
stage_seen f g h d = record { sink = f d.sink; storage = g d.storage; host = h d.host; taken = d.taken; ended = d.ended; stop = d.stop }

-- Two worlds, and how those of the first are seen in the second.
module _ {S B K S' B' K' : Type 0} (sinks : SinkActs S) (storages : StorageActs B) (hosts : HostActs K) (sinks' : SinkActs S') (storages' : StorageActs B') (hosts' : HostActs K') (f : S → S') (g : B → B') (h : K → K') where
  -- All that is done in the first is done alike in the second, as long as a sink is one that so many commands can be sent to.
  pub record Sees (many : ℕ → S → Type 0) : Type 0 where
    pub means : (s : S) → sinks'.meaning (f s) ≡ sinks.meaning s
    pub takes_alike : (n : ℕ) (s : S) (c : Command) → many (suc n) s → T (takes (sinks.meaning s) c) → (f (sinks.took s c) ≡ sinks'.took (f s) c) × many n (sinks.took s c)
    pub fewer : (n : ℕ) (s : S) → many (suc n) s → many n s
    pub holds : (b : B) → storages'.held (g b) ≡ storages.held b
    pub capable : (b : B) → storages'.capacity (g b) ≡ storages.capacity b
    pub clears_alike : (b : B) → g (storages.cleared b) ≡ storages'.cleared (g b)
    pub pushes_alike : (b : B) (x : Segment) → HasRoom storages b → g (storages.pushed b x) ≡ storages'.pushed (g b) x
    pub asks_alike : (k : K) (q : Function) (x : Float) → h (hosts.asked k q x) ≡ hosts'.asked (h k) q x

  -- in both, and still one for so many
  pub record Alike (many : ℕ → S → Type 0) (n : ℕ) (d : Stage S B K) (d' : Stage S' B' K') : Type 0 where
    pub seen : stage_seen f g h d ≡ d'
    pub enough : many n d.sink

  module _ (many : ℕ → S → Type 0) (see : Sees many) (budget : ℕ) where
    sent_alike : (n : ℕ) (t : Bool) (s : S) (c : Command) → many (suc n) s → (T t → (f (sinks.took s c) ≡ sinks'.took (f s) c) × many n (sinks.took s c))
        → (f (cond t (sinks.took s c) s) ≡ cond t (sinks'.took (f s) c) (f s)) × many n (cond t (sinks.took s c) s)
    sent_alike n true s c enough taken = taken tt
    sent_alike n false s c enough taken = (refl, see.fewer n s enough)

    either_many : (n : ℕ) (t : Bool) (d e : Stage S B K) → many n d.sink → many n e.sink → many n (cond t d e).sink
    either_many n true d e p q = p
    either_many n false d e p q = q

    act_alike : (n : ℕ) (a : Action) (d : Stage S B K) → many (suc n) d.sink → Alike many n (act sinks storages hosts budget a d) (act sinks' storages' hosts' budget a (stage_seen f g h d))
    act_alike n clears d enough = record { seen = λ i. record (stage_seen f g h d) { storage = see.clears_alike d.storage i }; enough = see.fewer n d.sink enough }
    act_alike n (stores x) d enough = record {
      seen = seen_either (stage_seen f g h) (room (storages.held d.storage) (storages.capacity d.storage)) _ _ (λ fits. ap (λ (b : B'). record (stage_seen f g h d) { storage = b }) (see.pushes_alike d.storage x fits)) refl
          ∙ (λ i. cond (room (sym (see.holds d.storage) i) (sym (see.capable d.storage) i)) (record (stage_seen f g h d) { storage = storages'.pushed (g d.storage) x }) (record (stage_seen f g h d) { stop = Some StorageFull }));
      enough = either_many n (room (storages.held d.storage) (storages.capacity d.storage)) (record d { storage = storages.pushed d.storage x }) (record d { stop = Some StorageFull }) (see.fewer n d.sink enough) (see.fewer n d.sink enough);
    }
    act_alike n ends d enough = record { seen = refl; enough = see.fewer n d.sink enough }
    act_alike n steps d enough = record {
      seen = seen_either (stage_seen f g h) _ _ _ (λ _. refl) refl;
      enough = either_many n _ (record d { taken = d.taken + 1 }) (record d { stop = Some StepsSpent }) (see.fewer n d.sink enough) (see.fewer n d.sink enough);
    }
    act_alike n (draws (asks q)) d enough = record { seen = λ i. record (stage_seen f g h d) { host = see.asks_alike d.host q.0 q.1 i; stop = None }; enough = see.fewer n d.sink enough }
    act_alike n (draws (sends c)) d enough =
        let sent = sent_alike n (takes (sinks.meaning d.sink) c) d.sink c enough (see.takes_alike n d.sink c enough) in
        record {
          seen = (λ i. record (stage_seen f g h d) { sink = sent.0 i; stop = why_not (verdict (sinks.meaning d.sink) c) })
              ∙ (λ i. record (stage_seen f g h d) { sink = cond (takes (sym (see.means d.sink) i) c) (sinks'.took (f d.sink) c) (f d.sink); stop = why_not (verdict (sym (see.means d.sink) i) c) });
          enough = sent.1;
        }

    act_on_alike : (n : ℕ) (stop : Option Reason) (a : Action) (d : Stage S B K) → many (suc n) d.sink
        → Alike many n (act_on sinks storages hosts budget stop a d) (act_on sinks' storages' hosts' budget stop a (stage_seen f g h d))
    act_on_alike n None a d enough = act_alike n a d enough
    act_on_alike n (Some why) a d enough = record { seen = refl; enough = see.fewer n d.sink enough }

    pub perform_alike : (todo : List Action) (d : Stage S B K) → many (length todo) d.sink
        → Alike many 0 (perform sinks storages hosts budget todo d) (perform sinks' storages' hosts' budget todo (stage_seen f g h d))
    unfolding perform
    perform_alike [] d enough = record { seen = refl; enough = enough }
    perform_alike (a ∷ more) d enough =
        let one = act_on_alike (length more) d.stop a d enough in
        let rest = perform_alike more (act_on sinks storages hosts budget d.stop a d) one.enough in
        record { seen = rest.seen ∙ ap (perform sinks' storages' hosts' budget more) one.seen; enough = rest.enough }

-- ---- whole calls

-- where any number can be sent
abbrev pub Any : {S : Type 0} → ℕ → S → Type 0
Any n s = Unit {0}

abbrev pub outcome_seen : {S B K S' B' K' : Type 0} → (S → S') → (B → B') → (K → K') → Outcome S B K → Outcome S' B' K'
outcome_seen f g h o = record { answer = o.answer; sink = f o.sink; storage = g o.storage; host = h o.host }

module _ {S B K S' B' K' : Type 0} (sinks : SinkActs S) (storages : StorageActs B) (hosts : HostActs K) (sinks' : SinkActs S') (storages' : StorageActs B') (hosts' : HostActs K') (f : S → S') (g : B → B') (h : K → K') where
  -- a call in the first world is that call in the second
  pub seen_stroked : Sees sinks storages hosts sinks' storages' hosts' f g h Any → (r : Request) (s : S) (b : B) (k : K) → hosts'.functions (h k) ≡ hosts.functions k
      → outcome_seen f g h (stroked sinks storages hosts r s b k) ≡ stroked sinks' storages' hosts' r (f s) (g b) (h k)
  unfolding stroked
  seen_stroked see r s b k same =
      let both : Sees (counted sinks) storages hosts (counted sinks') storages' hosts' (λ x. (f x.0, x.1)) g h Any = record {
        means = λ x. see.means x.0;
        takes_alike = λ n x c enough fits. ((λ i. ((see.takes_alike n x.0 c enough fits).0 i, x.1 + 1)), tt);
        fewer = λ n x enough. tt;
        holds = see.holds;
        capable = see.capable;
        clears_alike = see.clears_alike;
        pushes_alike = see.pushes_alike;
        asks_alike = see.asks_alike;
      } in
      let ends : Stage (S' × ℕ) B' K' → Outcome S' B' K' = λ d. record (outcome d) { answer = answered (admitted_request r) (outcome d).answer } in
      ap ends (perform_alike (counted sinks) storages hosts (counted sinks') storages' hosts' (λ x. (f x.0, x.1)) g h Any both r.budget (request_actions (hosts.functions k) r) (at_start (s, 0) b k) tt).seen
      ∙ (λ i. ends (perform (counted sinks') storages' hosts' r.budget (request_actions (sym same i) r) (at_start (f s, 0) (g b) (h k))))

-- The laws of a sink and of a storage.
abbrev pub Grows : {S : Type 0} → SinkActs S → Type 0
Grows {S = S} sinks = (s : S) (c : Command) → T (takes (sinks.meaning s) c) → sinks.meaning (sinks.took s c) ≡ joined (sinks.meaning s) c

pub record StorageLaws {B : Type 0} (storages : StorageActs B) : Type 0 where
  pub empties : (b : B) → storages.held (storages.cleared b) ≡ []
  pub same_cleared : (b : B) → storages.capacity (storages.cleared b) ≡ storages.capacity b
  pub grows : (b : B) (x : Segment) → HasRoom storages b → storages.held (storages.pushed b x) ≡ storages.held b ++ (x ∷ [])
  pub same_pushed : (b : B) (x : Segment) → HasRoom storages b → storages.capacity (storages.pushed b x) ≡ storages.capacity b

-- what a call tells on a meaning is the same for an empty storage, since the storage is emptied first
emptied_first : (go : Bool) (F : Functions) (n : ℕ) (more : List Action) (m : Meaning) (b : Held) → let end : Held → Outcome Meaning Held (Unit {0}) = λ x. outcome (perform (counted meaning_acts) held_acts (no_host F) n (cond go (clears ∷ more) []) (at_start (m, 0) x tt)) in
    ((end b).answer ≡ (end (empty_held b.capacity)).answer) × ((end b).sink ≡ (end (empty_held b.capacity)).sink)
unfolding perform
emptied_first true F n more m b = (refl, refl)
emptied_first false F n more m b = (refl, refl)

module _ {S B K : Type 0} (sinks : SinkActs S) (storages : StorageActs B) (hosts : HostActs K) (laws : StorageLaws storages) (r : Request) (s : S) (b : B) (k : K) where
  -- A call with any storage is that call with a storage in values.
  pub stroked_held : outcome_seen (λ s. s) (held_by storages) (λ k. k) (stroked sinks storages hosts r s b k) ≡ stroked sinks held_acts hosts r s (held_by storages b) k
  stroked_held = seen_stroked sinks storages hosts sinks held_acts hosts (λ s. s) (held_by storages) (λ k. k)
      (record {
        means = λ s. refl;
        takes_alike = λ n s c enough fits. (refl, tt);
        fewer = λ n s enough. tt;
        holds = λ b. refl;
        capable = λ b. refl;
        clears_alike = λ b i. record { segments = laws.empties b i; capacity = laws.same_cleared b i };
        pushes_alike = λ b x fits i. record { segments = laws.grows b x fits i; capacity = laws.same_pushed b x fits i };
        asks_alike = λ k q x. refl;
      })
      r s b k refl

  -- and on a sink it is that call on what the sink means
  stroked_meant : Grows sinks → outcome_seen sinks.meaning (held_by storages) (λ k. tt {0}) (stroked sinks storages hosts r s b k) ≡ stroked meaning_acts held_acts (no_host (hosts.functions k)) r (sinks.meaning s) (held_by storages b) tt
  stroked_meant grows = seen_stroked sinks storages hosts meaning_acts held_acts (no_host (hosts.functions k)) sinks.meaning (held_by storages) (λ k. tt)
      (record {
        means = λ s. refl;
        takes_alike = λ n s c enough fits. (grows s c fits, tt);
        fewer = λ n s enough. tt;
        holds = λ b. refl;
        capable = λ b. refl;
        clears_alike = λ b i. record { segments = laws.empties b i; capacity = laws.same_cleared b i };
        pushes_alike = λ b x fits i. record { segments = laws.grows b x fits i; capacity = laws.same_pushed b x fits i };
        asks_alike = λ k q x. refl;
      })
      r s b k refl

  -- So the answer of a call and the sink it left keep what the call in values promises.
  pub promised_by : {a : Result Tally Refusal} {s' : S} {b' : B} {k' : K} → Grows sinks → record { answer = a; sink = s'; storage = b'; host = k' } ≡ stroked sinks storages hosts r s b k → restricted (hosts.functions k) ≡ hosts.functions k
      → Promised (call r.commands r.style r.dashes (hosts.functions k) (storages.capacity b) r.budget a) (sinks.meaning s) (sinks.meaning s')
  unfolding stroked
  promised_by grows whole narrow =
      let is = ap (outcome_seen sinks.meaning (held_by storages) (λ k. tt {0})) whole ∙ stroked_meant grows in
      let F = hosts.functions k in
      let same = emptied_first (is_ok (admitted_request r)) F r.budget (run_by_run F (nib_of r.style) (pattern_of r.dashes r.style.offset) [] (drawn_whole F true r.commands)) (sinks.meaning s) (held_by storages b) in
      record {
        answer = ap (λ (o : Outcome Meaning Held (Unit {0})). o.answer) is ∙ ap (answered (admitted_request r)) same.0;
        sink = ap (λ (o : Outcome Meaning Held (Unit {0})). o.sink) is ∙ same.1;
        narrow = narrow;
      }
