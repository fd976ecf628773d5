-- A stroke writes nothing but records.
use Rattle.std.proofs.Common.{◌≡◌, ℕ, List, [], ◌∷◌, ◌++◌, Result, length, ◌-◌, refl, ap, ◌∙◌, sym, arith}
use denote.Ref.{MutBor}
use lib.Ieee.{Float}
use Rattle.maths.specs.Functions.{Functions, HostActs}
use Rattle.path.specs.declared.command.Command.{Command}
use Rattle.path.specs.declared.refusal.Refusal.{Refusal}
use Rattle.path.specs.declared.style.Stroke.{Stroke}
use Rattle.stroke.specs.declared.tally.Tally.{Tally}
use Rattle.stroke.specs.Outcomes.{Outcome, Request, stroked}
use Rattle.stroke.proofs.Seen.{seen_stroked}
use Rattle.job.specs.ByteSinks.{over, spelling, byte_acts}
use Rattle.job.specs.Tapes.{price}
use Rattle.job.specs.declared.byte_sink.ByteSink.{ByteSink}
use Rattle.job.proofs.Overs.{over_grows}
use Rattle.std.specs.Borrow.{Bor}
use Rattle.job.specs.declared.whole.Job.{Job}
use Rattle.job.specs.Jobs.{empty_job}
use Rattle.job.specs.Readers.{start}
use Rattle.job.specs.Sayings.{Said, said, said_by, AsMany}
use Rattle.job.specs.Whole.{whole}
use Rattle.job.proofs.Alikes.{says_in, same_many}
use Rattle.stroke_export.specs.Drawings.{Drawn, Writes, said_drawn, untouched}
use Rattle.storage.specs.Meaning.{StorageActs}
use Rattle.sinks.specs.Meaning.{SinkActs}

-- the commands alone, over bytes that are lent
abbrev commands_over : MutBor (List ℕ) → SinkActs (List Command)
commands_over bytes = record { meaning = λ ds. spelling (over bytes ds); took = λ ds d. ds ++ (d ∷ []) }

pub stroke_writes : {B K : Type 0} (storages : StorageActs B) (hosts : HostActs K) (q : Request) (s : ByteSink) (b : B) (k : K) {r : Result Tally Refusal} {s' : ByteSink} {b' : B} {k' : K}
    → ◌≡◌ {A = Outcome ByteSink B K} (record { answer = r; sink = s'; storage = b'; host = k' }) (stroked byte_acts storages hosts q s b k) → Writes s s'
stroke_writes storages hosts q s b k e bytes is =
    let plainly = stroked (commands_over bytes) storages hosts q [] b k in
    let same = seen_stroked (commands_over bytes) storages hosts byte_acts storages hosts (over bytes) (λ c. c) (λ c. c)
    (record { means = λ ds. refl; takes_alike = λ n ds d enough fits. (over_grows bytes ds d, tt); fewer = λ n ds enough. tt; holds = λ c. refl; capable = λ c. refl; clears_alike = λ c. refl; pushes_alike = λ c x fits. refl; asks_alike = λ c q x. refl })
    q [] b k refl in
    (plainly.sink, ap (λ (o : Outcome ByteSink _ _). o.sink) (e ∙ ap (λ t. stroked byte_acts storages hosts q t b k) is ∙ sym same))

-- as records of the commands that it drew
module _ (F : Functions) (segments : ℕ) (j : Said) (s s' : ByteSink) (fresh : s ≡ over s.bytes []) where
  means_untouched : spelling s ≡ untouched (length s.bytes.now)
  means_untouched =
      let units : length s.bytes.now - 0 ≡ length s.bytes.now = omega arith in
      ap spelling fresh ∙ (λ i. record { list = []; units = units i; price = price; map = λ c. c })

  pub drawn_untouched : said_drawn F segments j (spelling s) ≡ said_drawn F segments j (untouched (length s.bytes.now))
  drawn_untouched = ap (said_drawn F segments j) means_untouched

  pub all_written : spelling s' ≡ (said_drawn F segments j (spelling s)).sink → Writes s s' → s' ≡ over s.bytes (said_drawn F segments j (untouched (length s.bytes.now))).sink.list
  all_written means writes =
      let w = writes s.bytes fresh in
      w.1 ∙ ap (over s.bytes) (sym (ap (λ (t : ByteSink). t.taken.commands) w.1) ∙ ap (λ m. m.list) means ∙ ap (λ (d : Drawn). d.sink.list) drawn_untouched)

-- a job in lists of 4,096 and 32 places
pub says_by : (job : Bor (List ℕ)) (commands : MutBor (List Command)) (dashes : MutBor (List Float)) {j : Job} → j ≡ empty_job commands dashes → AsMany job.now (length commands.now) 4096 → length dashes.now ≡ 32
    → said (whole (start job) j) ≡ said_by 4096 32 job.now
says_by job commands dashes is many few = ap (λ k. said (whole (start job) k)) is ∙ says_in job commands dashes 4096 32 many (same_many job.now _ _ few)
