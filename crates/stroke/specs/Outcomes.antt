-- What comes of a stroke in a sink, a storage and a host: all that it does up to the first refusal, and the answer.
use Rattle.std.specs.Prelude.{ℕ, ◌+◌, if◌then◌else◌, List, [], ◌∷◌, Some, None, Option, Ok, Err, Result, is_ok, nat_lt, Float}
use Rattle.maths.specs.Functions.{Functions, HostActs}
use Rattle.path.specs.declared.command.Command.{Command}
use Rattle.path.specs.declared.refusal.Reason.{Reason}
use Rattle.path.specs.declared.refusal.Reason.TheVariants.{StorageFull, StepsSpent, SinkRefused}
use Rattle.path.specs.declared.refusal.Refusal.{Refusal}
use Rattle.path.specs.declared.style.Stroke.{Stroke}
use Rattle.sinks.specs.Meaning.{SinkActs}
use Rattle.sinks.specs.declared.sink.Refused.{Refused}
use Rattle.storage.specs.Meaning.{StorageActs, room}
use Rattle.stroke.specs.Limits.{admitted}
use Rattle.stroke.specs.Counts.{counted}
use Rattle.stroke.specs.Events.{Drawing, one}
use Rattle.stroke.specs.Calls.{Action, clears, stores, ends, steps, draws, stroke_actions}
use Rattle.stroke.specs.declared.tally.Tally.{Tally}

-- A stroke under way: what it was lent, the steps taken and the ends read so far, and why it stopped, if it did.
pub record Stage (S B K : Type 0) : Type 0 where
  pub sink : S
  pub storage : B
  pub host : K
  pub taken : ℕ
  pub ended : ℕ
  pub stop : Option Reason

abbrev pub at_start : {S B K : Type 0} → S → B → K → Stage S B K
at_start s b k = record { sink = s; storage = b; host = k; taken = 0; ended = 0; stop = None }

-- why a stroke stops where its sink answers so
abbrev pub why_not : Result (Unit {0}) Refused → Option Reason
why_not (Ok x) = None
why_not (Err r) = Some SinkRefused

abbrev pub drawing_of : {S B K : Type 0} → Stage S B K → Drawing S K
drawing_of d = record { sink = d.sink; host = d.host; answer = Ok tt }

abbrev pub drawn : {S B K : Type 0} → Stage S B K → Drawing S K → Stage S B K
drawn d x = record d { sink = x.sink; host = x.host; stop = why_not x.answer }

-- sinks S, storages B and hosts K, with what they do
module _ {S B K : Type 0} (sinks : SinkActs S) (storages : StorageActs B) (hosts : HostActs K) where
  -- one action of a stroke that goes on, within a budget of steps
  abbrev pub act : ℕ → Action → Stage S B K → Stage S B K
  act budget clears d = record d { storage = storages.cleared d.storage }
  act budget (stores x) d =
      if room (storages.held d.storage) (storages.capacity d.storage) then record d { storage = storages.pushed d.storage x } else record d { stop = Some StorageFull }
  act budget ends d = record d { ended = d.ended + 1 }
  act budget steps d = if nat_lt d.taken budget then record d { taken = d.taken + 1 } else record d { stop = Some StepsSpent }
  act budget (draws e) d = drawn d (one sinks hosts e (drawing_of d))

  abbrev pub act_on : ℕ → Option Reason → Action → Stage S B K → Stage S B K
  act_on budget None a d = act budget a d
  act_on budget (Some why) a d = d

  -- all that is done up to the first refusal
  unfoldable pub perform : ℕ → List Action → Stage S B K → Stage S B K
  perform budget [] d = d
  perform budget (a ∷ more) d = perform budget more (act_on budget d.stop a d)

-- What a call asks for.
pub record Request : Type 0 where
  pub commands : List Command
  pub style : Stroke
  pub dashes : List Float
  pub budget : ℕ

abbrev pub request : List Command → Stroke → List Float → ℕ → Request
request commands style dashes budget = record { commands = commands; style = style; dashes = dashes; budget = budget }

abbrev pub admitted_request : Request → Result (Unit {0}) Refusal
admitted_request r = admitted r.commands r.style r.dashes r.budget

-- a request that is refused before anything is done alters nothing
abbrev pub request_actions : Functions → Request → List Action
request_actions F r = if is_ok (admitted_request r) then stroke_actions F r.commands r.style r.dashes else []

-- An answer, with all that the call was lent.
pub record Outcome (S B K : Type 0) : Type 0 where
  pub answer : Result Tally Refusal
  pub sink : S
  pub storage : B
  pub host : K

-- a refusal tells how many ends were read and how many commands were taken before
abbrev pub answer_of : ℕ → ℕ → ℕ → Option Reason → Result Tally Refusal
answer_of sent taken ended None = Ok (record { sent = sent; steps = taken })
answer_of sent taken ended (Some why) = Err (record { reason = why; place = ended; sent = sent })

abbrev pub outcome : {S B K : Type 0} → Stage (S × ℕ) B K → Outcome S B K
outcome d = record { answer = answer_of d.sink.1 d.taken d.ended d.stop; sink = d.sink.0; storage = d.storage; host = d.host }

-- what the first questions refuse, or else the answer
abbrev pub answered : Result (Unit {0}) Refusal → Result Tally Refusal → Result Tally Refusal
answered (Ok x) answer = answer
answered (Err r) answer = Err r

-- A whole call, with its sink counted.
unfoldable pub stroked : {S B K : Type 0} → SinkActs S → StorageActs B → HostActs K → Request → S → B → K → Outcome S B K
stroked sinks storages hosts r s b k =
    let o = outcome (perform (counted sinks) storages hosts r.budget (request_actions (hosts.functions k) r) (at_start (s, 0) b k)) in
    record o { answer = answered (admitted_request r) o.answer }
