-- Where a u64 can count all that is done, no count is cut off.
use Rattle.std.proofs.Common.{◌≡◌, ℕ, suc, ◌+◌, ◌^◌, ◌<◌, ◌≤◌, List, length, Result, refl, ap, ◌∙◌, arith}
use Rattle.std.specs.Prelude.{Float}
use Rattle.maths.specs.Functions.{Functions, HostActs}
use Rattle.path.specs.declared.command.Command.{Command}
use Rattle.path.specs.declared.refusal.Refusal.{Refusal}
use Rattle.path.specs.declared.style.Stroke.{Stroke}
use Rattle.sinks.specs.Meaning.{SinkActs}
use Rattle.storage.specs.Meaning.{StorageActs}
use Rattle.stroke.specs.declared.counted.Counted.{Counted}
use Rattle.stroke.specs.declared.tally.Tally.{Tally}
use Rattle.stroke.specs.Counts.{one_more, counting, counted}
use Rattle.stroke.specs.Calls.{Action, stroke_actions}
use Rattle.stroke.specs.Outcomes.{Stage, perform, at_start, answer_of, outcome}
use Rattle.stroke.proofs.Lengths.{actions_few}
use Rattle.stroke.proofs.Seen.{stage_seen, Sees, Alike, perform_alike}

-- a sink that counts, with its count as a number
abbrev pub seen : {S : Type 0} → Counted S → S × ℕ
seen s = (s.sink.now, s.sent)

-- so many more can be counted, and the reference is this one
pub record Countable {S : Type 0} (name n : ℕ) (s : Counted S) : Type 0 where
  pub few : s.sent + n < 2 ^ 64
  pub same : s.sink.ghost_name ≡ name

one_counted : (n m : ℕ) → m + suc n < 2 ^ 64 → one_more m ≡ m + 1
one_counted n m few = omega (arith, few)

module _ {S B K : Type 0} (sinks : SinkActs S) (storages : StorageActs B) (hosts : HostActs K) where
  sees : (name : ℕ) → Sees (counting sinks) storages hosts (counted sinks) storages hosts seen (λ b. b) (λ k. k) (Countable name)
  sees name = record {
    means = λ s. refl;
    takes_alike = λ n s c enough fits. (
      (λ i. (sinks.took s.sink.now c, one_counted n s.sent enough.few i)),
      record { few = omega (arith, enough.few, one_counted n s.sent enough.few); same = enough.same },
    );
    fewer = λ n s enough. record { few = omega (arith, enough.few); same = enough.same };
    holds = λ b. refl;
    capable = λ b. refl;
    clears_alike = λ b. refl;
    pushes_alike = λ b x fits. refl;
    asks_alike = λ k q x. refl;
  }

  pub exact : (budget : ℕ) (todo : List Action) (d : Stage (Counted S) B K) → d.sink.sent + length todo < 2 ^ 64
      → Alike (counting sinks) storages hosts (counted sinks) storages hosts seen (λ b. b) (λ k. k) (Countable d.sink.sink.ghost_name) 0
      (perform (counting sinks) storages hosts budget todo d) (perform (counted sinks) storages hosts budget todo (stage_seen seen (λ b. b) (λ k. k) d))
  exact budget todo d few = perform_alike (counting sinks) storages hosts (counted sinks) storages hosts seen (λ b. b) (λ k. k) (Countable d.sink.sink.ghost_name) (sees d.sink.sink.ghost_name) budget todo d (record { few = few; same = refl })

  -- a whole drawing, from no count on
  pub exact_call : (F : Functions) (cs : List Command) (style : Stroke) (dashes : List Float) (budget : ℕ) (s : Counted S) (b : B) (k : K) {s0 t : S} {d : Stage (Counted S) B K} {r : Result Tally Refusal} → length cs ≤ 4096 → s.sink.now ≡ s0 → s.sent ≡ 0
      → d ≡ perform (counting sinks) storages hosts budget (stroke_actions F cs style dashes) (at_start s b k) → r ≡ answer_of d.sink.sent d.taken d.ended d.stop → t ≡ d.sink.sink.now
      → record { answer = r; sink = t; storage = d.storage; host = d.host } ≡ outcome (perform (counted sinks) storages hosts budget (stroke_actions F cs style dashes) (at_start (s0, 0) b k))
  exact_call F cs style dashes budget s b k {d = d} few start none drew answered sunk =
      let todo = stroke_actions F cs style dashes in
      let all = exact budget todo (at_start s b k) (omega (arith, none, actions_few F cs style dashes few)) in
      (λ i. record { answer = answered i; sink = sunk i; storage = d.storage; host = d.host })
      ∙ ap (λ e. outcome (stage_seen seen (λ b. b) (λ k. k) e)) drew ∙ ap outcome all.seen
      ∙ (λ i. outcome (perform (counted sinks) storages hosts budget todo (at_start (start i, none i) b k)))

  -- and the reference to the sink stays
  pub same_sink : (F : Functions) (cs : List Command) (style : Stroke) (dashes : List Float) (budget : ℕ) (s : Counted S) (b : B) (k : K) {d : Stage (Counted S) B K} → length cs ≤ 4096 → s.sent ≡ 0
      → d ≡ perform (counting sinks) storages hosts budget (stroke_actions F cs style dashes) (at_start s b k) → d.sink.sink.ghost_name ≡ s.sink.ghost_name
  same_sink F cs style dashes budget s b k few none drew =
      ap (λ (e : Stage (Counted S) B K). e.sink.sink.ghost_name) drew ∙ (exact budget (stroke_actions F cs style dashes) (at_start s b k) (omega (arith, none, actions_few F cs style dashes few))).enough.same
