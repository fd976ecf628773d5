-- Commands are read one by one.
use Rattle.std.proofs.Common.{◌≡◌, ℕ, zero, suc, List, [], ◌∷◌, Some, None, Ok, Err, Option, Result, drop, refl, ap, ◌∙◌, subst, sym}
use Rattle.std.specs.List.{slice_get}
use Rattle.path.specs.declared.command.Command.{Command}
use Rattle.path.specs.declared.refusal.Refusal.{Refusal}
use Rattle.job.specs.declared.item.Item.{Item}
use Rattle.job.specs.declared.item.Item.TheVariants.{Path}
use Rattle.job.specs.Reading.{first}
use Rattle.job.specs.declared.reader.JobReader.{JobReader}
use Rattle.job.specs.Readers.{answer_by, reader_by, next_answer, next_reader}
use Rattle.job.specs.Laws.{ReadsSpelled}
use Rattle.job.specs.Decoding.{records, command_of}
use Rattle.job.specs.ReadBack.{Before, ReadsNext}

abbrev pub next_of : Result (Option Item) Refusal → Option Command
next_of (Ok None) = None
next_of (Ok (Some i)) = command_of i
next_of (Err e) = None

pub reads_next : (r : JobReader) (after : JobReader) {answer : Result (Option Item) Refusal} → answer ≡ next_answer r → after ≡ next_reader r → ReadsSpelled r answer after
    → ReadsNext r (next_of answer) after
reads_next r after answers moves spelled [] before = (
  ap next_of (answers ∙ ap (λ bytes. answer_by (first bytes) r) before.spelled),
  subst (λ s. Before s []) (sym (moves ∙ ap (λ bytes. reader_by (first bytes) r) before.spelled)) before,
)
reads_next r after answers moves spelled (c ∷ cs) before =
    let s = spelled (Path c) (records cs) before.fitting.0 before.spelled in
    (ap next_of s.0, record { spelled = s.2; fitting = before.fitting.1 })

pub get_dropped : (cs : List Command) (n : ℕ) → slice_get (drop n cs) 0 ≡ slice_get cs n
get_dropped cs zero = refl
get_dropped [] (suc n) = refl
get_dropped (c ∷ cs) (suc n) = get_dropped cs n
