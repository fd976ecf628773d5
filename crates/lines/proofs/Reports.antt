-- What is said of a job that was read into new lists.
use Rattle.std.proofs.Common.{◌≡◌, ℕ, List, length, ap, ◌∙◌}
use Rattle.std.specs.Borrow.{Bor}
use denote.Ref.{MutBor}
use lib.Ieee.{Float}
use Rattle.path.specs.declared.command.Command.{Command}
use Rattle.job.specs.declared.reader.JobReader.{JobReader}
use Rattle.job.specs.declared.whole.Job.{Job}
use Rattle.job.specs.Jobs.{empty_job}
use Rattle.job.specs.Readers.{start}
use Rattle.job.specs.Sayings.{said, said_by}
use Rattle.job.specs.Whole.{Outcome, whole}
use Rattle.job.proofs.Alikes.{says_in, same_many}

-- by how many places there are
pub says_of : (bytes : Bor (List ℕ)) (commands : MutBor (List Command)) (dashes : MutBor (List Float)) (m n : ℕ) {r : JobReader} {j : Job} {o : Outcome (Unit {0})}
    → r ≡ start bytes → j ≡ empty_job commands dashes → length commands.now ≡ m → length dashes.now ≡ n → o ≡ whole r j → said o ≡ said_by m n bytes.now
says_of bytes commands dashes m n {j = j} new is many few read =
    ap said read ∙ ap (λ t. said (whole t j)) new ∙ ap (λ k. said (whole (start bytes) k)) is ∙ says_in bytes commands dashes m n (same_many bytes.now _ _ many) (same_many bytes.now _ _ few)
