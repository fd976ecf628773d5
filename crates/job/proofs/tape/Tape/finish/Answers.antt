use Rattle.std.proofs.Common.{◌∙◌, subst}
use Rattle.job.specs.Tapes.{Written}
use Rattle.job.specs.ReadBack.{ReadsBack}
use Rattle.job.proofs.Backs.{reads_back}
use Rattle.job.proofs.tape.Tape.finish.Goals as goal

pub returns-clause-job : goal.returns-clause-job
returns-clause-job c =
    subst (λ (w : Written). ReadsBack w.commands c.front.result) c.self.view_is
    (reads_back c.front.result _ c.self.invariant.1.fitting (c.front.ensures ∙ c.self.invariant.1.whole))
