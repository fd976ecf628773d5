-- A reader at an item that is spelled there.
use Rattle.std.proofs.Common.{◌≡◌, ℕ, length, drop, Option, Result, sym, refl, ap, ◌∙◌}
use Rattle.std.proofs.lemmas.List.{drop_at, drop-drop}
use Rattle.path.specs.declared.refusal.Reason.{Reason}
use Rattle.job.specs.declared.item.Item.{Item}
use Rattle.job.specs.Spelling.{spelled}
use Rattle.job.specs.Reading.{first}
use Rattle.job.proofs.Round.{read_first}
use Rattle.job.specs.declared.reader.JobReader.{JobReader}
use Rattle.job.specs.Readers.{left}
use Rattle.job.specs.Laws.{FindsSpelled}

pub finds_spelled : (r : JobReader) {o : Result (Option (Item × ℕ)) Reason} → o ≡ first (left r) → FindsSpelled r o
finds_spelled r e i rest fitting is = (
  e ∙ ap first is ∙ read_first i rest fitting,
  sym (drop-drop (length (spelled i)) r.place r.bytes.now) ∙ ap (drop (length (spelled i))) is ∙ drop_at (spelled i) rest (length (spelled i)) refl,
)
