-- A job's bytes read and stroked onto others.
use Rattle.std.specs.Prelude.{◌≡◌, ℕ, List, [], length, Ok, Err, Result}
use denote.Ref.{MutBor}
use Rattle.maths.specs.Functions.{Functions, no_host}
use Rattle.path.specs.declared.command.Command.{Command}
use Rattle.path.specs.declared.refusal.Refusal.{Refusal}
use Rattle.sinks.specs.Meaning.{Meaning, meaning_acts, as_they_came}
use Rattle.job.specs.Sayings.{Said, said_by}
use Rattle.stroke.specs.declared.tally.Tally.{Tally}
use Rattle.stroke.specs.Outcomes.{Outcome, request, stroked}
use Rattle.job.specs.ByteSinks.{overwritten, over}
use Rattle.job.specs.Decoding.{records}
use Rattle.job.specs.Tapes.{price}
use Rattle.job.specs.declared.byte_sink.ByteSink.{ByteSink}
use Rattle.stroke_export.specs.declared.answer.Answer.{Answer}
use Rattle.stroke_export.specs.Answers.{told}
use Rattle.storage.specs.Meaning.{held_acts, Held, empty_held}

-- the answer, and what the sink means after it
pub record Drawn : Type 0 where
  pub answer : Result Tally Refusal
  pub sink : Meaning

abbrev pub seen : Outcome Meaning Held (Unit {0}) → Drawn
seen o = record { answer = o.answer; sink = o.sink }

-- by five functions, with a storage of so many segments and the greatest budget
abbrev pub stroke_drawn : Functions → ℕ → Said → Meaning → Drawn
stroke_drawn F segments j m = seen (stroked meaning_acts held_acts (no_host F) (request j.commands j.style j.dashes 65536) m (empty_held segments) tt)

abbrev pub drawn_by : Functions → ℕ → Result (Unit {0}) Refusal → Said → Meaning → Drawn
drawn_by F segments (Ok x) j m = stroke_drawn F segments j m
drawn_by F segments (Err r) j m = record { answer = Err r; sink = m }

-- a job that is refused is not stroked
abbrev pub said_drawn : Functions → ℕ → Said → Meaning → Drawn
said_drawn F segments j m = drawn_by F segments j.answer j m

-- so many bytes that took nothing
abbrev pub untouched : ℕ → Meaning
untouched n = as_they_came price n []

-- a job of at most 4,096 commands and 32 dashes, onto so many bytes
abbrev pub job_drawn : Functions → ℕ → List ℕ → ℕ → Drawn
job_drawn F segments job room = said_drawn F segments (said_by 4096 32 job) (untouched room)

-- in numbers
abbrev pub told_of : Drawn → Answer
told_of d = told (length (records d.sink.list)) d.answer

-- the commands' records, and then what the bytes held
abbrev pub bytes_of : Drawn → List ℕ → List ℕ
bytes_of d bytes = overwritten bytes d.sink.list

-- a sink that took nothing is only written with records
abbrev pub Writes : ByteSink → ByteSink → Type 0
Writes before after = (b : MutBor (List ℕ)) → before ≡ over b [] → (cs : List Command) × (after ≡ over b cs)
