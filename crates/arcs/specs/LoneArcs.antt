-- An arc by itself: its curves, sent one after the other.
use Rattle.std.specs.Prelude.{◌≡◌, ℕ, ◌+◌, ◌≤◌, Bool, true, false, cond, ◌||◌, List, [], ◌∷◌, ◌++◌, map, take, Ok, Err, Result, IfOk}
use Rattle.std.specs.Float.Ieee.{eq}
use Rattle.numbers.specs.Arithmetic.{zero}
use Rattle.maths.specs.Functions.{Functions, HostActs}
use Rattle.maths.specs.Questions.{all_asked}
use Rattle.path.specs.declared.command.Command.{Command}
use Rattle.path.specs.declared.refusal.Reason.{Reason}
use Rattle.path.specs.declared.refusal.Reason.TheVariants.{SinkRefused, ZeroRadius}
use Rattle.path.specs.declared.refusal.Refusal.{Refusal}
use Rattle.arcs.specs.declared.arc_to.ArcTo.{ArcTo}
use Rattle.arcs.specs.Curves.{arc_questions}
use Rattle.arcs.specs.Ends.{curves_of}
use Rattle.arcs.specs.Laws.{ReachesEnd, FiniteIfEnds}
use Rattle.sinks.specs.Meaning.{Meaning, SinkActs, takes}

-- a radius is 0 or minus 0
abbrev pub zero_radius : ArcTo → Bool
zero_radius a = eq a.rx zero || eq a.ry zero

-- an arc has no place of its own
abbrev pub refused : Reason → ℕ → Refusal
refused reason n = record { reason = reason; place = 0; sent = n }

-- Commands on their way to a sink: the sink, how many it took, and whether it took all so far.
pub record Sending (S : Type 0) : Type 0 where
  pub sink : S
  pub sent : ℕ
  pub going : Bool

abbrev pub sent_answer : {S : Type 0} → Sending S → Result ℕ Refusal
sent_answer d = cond d.going (Ok d.sent) (Err (refused SinkRefused d.sent))

-- sinks S, with what they do
module _ {S : Type 0} (sinks : SinkActs S) where
  -- commands in order, up to the first that the sink refuses, after n that it took
  unfoldable pub sending : List Command → S → ℕ → Sending S
  sending [] s n = record { sink = s; sent = n; going = true }
  sending (c ∷ cs) s n = cond (takes (sinks.meaning s) c) (sending cs (sinks.took s c) (n + 1)) (record { sink = s; sent = n; going = false })

  abbrev pub drawn : Functions → ArcTo → S → Sending S
  drawn F a s = sending (curves_of F true a) s 0

  -- a zero radius is asked first, and then nothing is sent
  abbrev pub arc_answer : Functions → ArcTo → S → Result ℕ Refusal
  arc_answer F a s = cond (zero_radius a) (Err (refused ZeroRadius 0)) (sent_answer (drawn F a s))

  abbrev pub arc_sink : Functions → ArcTo → S → S
  arc_sink F a s = cond (zero_radius a) s (drawn F a s).sink

-- all questions of the arc are asked before the first curve is sent
abbrev pub arc_host : {K : Type 0} → HostActs K → Functions → ArcTo → K → K
arc_host hosts F a h = cond (zero_radius a) h (all_asked hosts.asked h (arc_questions F true a))

-- an accepted arc sends one to four curves, or none where its ends are one point; a refused one at most three
abbrev pub Few : Bool → Result ℕ Refusal → Type 0
Few true (Ok n) = n ≡ 0
Few false (Ok n) = (1 ≤ n) × (n ≤ 4)
Few point (Err r) = r.sent ≤ 3

-- how many curves the sink took
abbrev pub taken : Result ℕ Refusal → ℕ
taken (Ok n) = n
taken (Err r) = r.sent

-- that many of the curves, from the first on, joined the sink's list, each through its map
abbrev pub Joined : Meaning → Result ℕ Refusal → List Command → Meaning → Type 0
Joined before answer curves now = now.list ≡ before.list ++ map before.map (take (taken answer) curves)

-- what an accepted arc sends ends at the arc's end, and all that is sent is finite where both ends are
abbrev pub ReachesIfDrawn : ArcTo → Result ℕ Refusal → List Command → Type 0
ReachesIfDrawn a answer curves = IfOk answer (λ n. ReachesEnd a (take n curves))

abbrev pub SentFinite : ArcTo → Result ℕ Refusal → List Command → Type 0
SentFinite a answer curves = FiniteIfEnds a (take (taken answer) curves)
