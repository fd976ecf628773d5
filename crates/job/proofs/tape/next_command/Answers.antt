use Rattle.std.proofs.Common.{Ok, Option, ap, ◌∙◌, subst, sym}
use Rattle.path.specs.declared.command.Command.{Command}
use Rattle.job.specs.ReadBack.{ReadsNext}
use Rattle.job.proofs.Nexts.{next_of, reads_next}
use Rattle.job.proofs.tape.next_command.Goals as goal

pub returns-in-Ok-Some : goal.returns-in-Ok-Some
returns-in-Ok-Some c =
    subst (λ (o : Option Command). ReadsNext c.args.reader.now o c.next.new.self) (ap next_of c.in-Ok-Some.is ∙ ap (λ o. next_of (Ok o)) c.in-Ok-Some.field-0-is ∙ sym c.command_of.ensures)
    (reads_next c.args.reader.now c.next.new.self c.next.ensures.answer c.next.ensures.after c.next.ensures.spelled)

pub returns-in-Ok-None : goal.returns-in-Ok-None
returns-in-Ok-None c =
    subst (λ (o : Option Command). ReadsNext c.args.reader.now o c.next.new.self) (ap next_of c.in-Ok-None.is ∙ ap (λ o. next_of (Ok o)) c.in-Ok-None.field-0-is)
    (reads_next c.args.reader.now c.next.new.self c.next.ensures.answer c.next.ensures.after c.next.ensures.spelled)

pub returns-in-Err : goal.returns-in-Err
returns-in-Err c =
    subst (λ (o : Option Command). ReadsNext c.args.reader.now o c.next.new.self) (ap next_of c.in-Err.is)
    (reads_next c.args.reader.now c.next.new.self c.next.ensures.answer c.next.ensures.after c.next.ensures.spelled)
