-- What drawing does, event by event, and what comes of it in a sink and a host.
use Rattle.std.specs.Prelude.{ℕ, if◌then◌else◌, List, [], ◌∷◌, ◌++◌, map, is_ok, Result}
use Rattle.maths.specs.Functions.{Functions, HostActs}
use Rattle.maths.specs.Questions.{Question}
use Rattle.path.specs.declared.command.Command.{Command}
use Rattle.pen.specs.declared.nib.Nib.{Nib}
use Rattle.sinks.specs.Meaning.{SinkActs, verdict, after}
use Rattle.sinks.specs.declared.sink.Refused.{Refused}

infixr 3 ◌⨾◌
-- a question to the host, or a command to the sink
pub data Event : Type 0 where
  asks : Question → Event
  sends : Command → Event

-- A part of an outline: its events, by the functions of the host and by the nib.
abbrev pub Plan : Type 0
Plan = Functions → Nib → List Event

-- commands alone
abbrev pub commands : List Command → Plan
commands cs F nib = map sends cs

-- questions first, and then commands
abbrev pub asked_then_sent : (Functions → Nib → List Question) → (Functions → Nib → List Command) → Plan
asked_then_sent qs cs F nib = map asks (qs F nib) ++ map sends (cs F nib)

-- one part and then another
abbrev pub ◌⨾◌ : Plan → Plan → Plan
◌⨾◌ E E' F nib = E F nib ++ E' F nib

-- a part that goes by the nib
abbrev pub by_nib : (Nib → Plan) → Plan
by_nib E F nib = E nib F nib

-- A drawing under way: the sink, the host, and what the sink answered last.
pub record Drawing (S K : Type 0) : Type 0 where
  pub sink : S
  pub host : K
  pub answer : Result (Unit {0}) Refused

-- With what stays as it is: the functions that the host answers by, the nib, and the names of the references to sink and host.
pub record Standing (S K : Type 0) : Type 0 where
  pub drawing : Drawing S K
  pub functions : Functions
  pub nib : Nib
  pub names : ℕ × ℕ

-- sinks S and hosts K, with what they do
module _ {S K : Type 0} (sinks : SinkActs S) (hosts : HostActs K) where
  abbrev pub one : Event → Drawing S K → Drawing S K
  one (asks q) d = record d { host = hosts.asked d.host q.0 q.1 }
  one (sends c) d = record d { sink = after sinks d.sink c; answer = verdict (sinks.meaning d.sink) c }

  -- one event of a drawing that goes on: it stops at a command that the sink refuses
  abbrev pub go_on : Event → Drawing S K → Drawing S K
  go_on e d = if is_ok d.answer then one e d else d

  -- all events up to the first refusal
  unfoldable pub play : List Event → Drawing S K → Drawing S K
  play [] d = d
  play (e ∷ es) d = play es (go_on e d)

  -- a part of an outline
  unfoldable pub draw : Plan → Standing S K → Standing S K
  draw E d = record d { drawing = play (E d.functions d.nib) d.drawing }
