use Rattle.std.proofs.Common.{Ok, Err, ap, ◌∙◌}
use Rattle.std.proofs.lemmas.Result.{err_from_is_err_and}
use Rattle.job.specs.Whole.{Outcome}
use Rattle.job.proofs.Stores.{stores_spelled}
use Rattle.job.proofs.Turns.{goes_on, ends, refused}
use Rattle.job.proofs.reader.JobReader.read.Goals as goal

pub loop-preserved : goal.loop-preserved
loop-preserved c = goes_on c.loop.self c.loop.job c.loop.invariant (simp c.if-branch.true at c.in_ok-step.ensures)

pub returns : goal.returns
returns c =
    let o : Outcome (Unit {0}) = record { answer = Ok tt; reader = c.step.new.self; job = c.step.new.job } in
    let e = ends c.loop.self c.loop.job c.loop.invariant (simp c.if-branch.false at c.in_ok-step.ensures) in
    record { whole = e; spelled = stores_spelled c.args.self.now c.args.job.now o e }

pub returns-in_err-step : goal.returns-in_err-step
returns-in_err-step c =
    let x = err_from_is_err_and c.from_residual.result c.from_residual.ensures.1 in
    let o : Outcome (Unit {0}) = record { answer = c.from_residual.result; reader = c.step.new.self; job = c.step.new.job } in
    let e = ap (λ a. record { answer = a; reader = c.step.new.self; job = c.step.new.job }) (x.1 ∙ ap Err x.2)
    ∙ refused c.loop.self c.loop.job _ c.loop.invariant c.in_err-step.ensures in
    record { whole = e; spelled = stores_spelled c.args.self.now c.args.job.now o e }
