use Rattle.std.proofs.Common.{◌∙◌, ap, subst, IfSome}
use Rattle.job.specs.declared.item.Item.TheVariants.{Path}
use Rattle.job.specs.Spelling.{Fitting}
use Rattle.sinks.specs.Meaning.{after}
use Rattle.job.specs.Tapes.{tape_acts}
use Rattle.job.proofs.Taking.{taken, after_taken}
use Rattle.job.proofs.tape.TapeSink.send.Goals as goal

pub invariant_of-self-2 : goal.invariant_of-self-2
invariant_of-self-2 c =
    let fitting : Fitting (Path c.args.c) = subst (λ o. IfSome o (λ n. Fitting (Path c.args.c))) c.in_ok-size.ensures.ok_part c.write_command.ensures.fitting in
    (taken c.self.inside.bytes.now c.self.inside.count c.args.c c.in_ok-size.size c.in_ok-size.ensures.ok_part c.write_command.ensures.answer c.write_command.ensures.after c.self.invariant fitting).holds

pub returns-clause-after : goal.returns-clause-after
returns-clause-after c =
    let fitting : Fitting (Path c.args.c) = subst (λ o. IfSome o (λ n. Fitting (Path c.args.c))) c.in_ok-size.ensures.ok_part c.write_command.ensures.fitting in
    let t = taken c.self.inside.bytes.now c.self.inside.count c.args.c c.in_ok-size.size c.in_ok-size.ensures.ok_part c.write_command.ensures.answer c.write_command.ensures.after c.self.invariant fitting in
    after_taken c.self.inside.bytes c.self.inside.count c.args.c c.in_ok-size.size c.self.invariant t ∙ ap (λ w. after tape_acts w c.args.c) c.self.view_is
