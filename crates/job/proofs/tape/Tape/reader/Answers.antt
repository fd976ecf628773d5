use Rattle.std.proofs.Common.{◌<◌, ◌^◌, length, ap, subst, arith}
use Rattle.job.specs.Tapes.{Written}
use Rattle.job.proofs.Decodings.{shorter_in}
use Rattle.job.proofs.tape.Tape.reader.Goals as goal

pub returns-clause-short : goal.returns-clause-short
returns-clause-short c =
    subst (λ (w : Written). length w.commands < 2 ^ 64) c.self.view_is (omega (arith, shorter_in _ c.self.invariant.1, c.front.type_inv.0, ap length c.front.ensures))
