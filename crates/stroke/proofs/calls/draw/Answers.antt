use Rattle.std.proofs.Common.{rules, ◌∙◌}
use Rattle.stroke.proofs.Calling.{same_references, drawn_from_start}
use Rattle.stroke.proofs.calls.draw.Goals as goal

pub returns : goal.returns
returns g c =
    let nib = c.nib-nib.ensures.value ∙ c.new.ensures in
    let stay = same_references g.S.Sink.acts g.B.Storage.acts g.K.MathsHost.acts c.args.commands.now c.args.style c.args.dashes.now c.stroke-answer.new.self c.stroke-answer.result
    c.new-stroker.ensures nib c.new-pattern.ensures.pattern c.stroke-answer.ensures in
    drawn_from_start g.S.Sink.acts g.B.Storage.acts g.K.MathsHost.acts c.args.commands.now c.args.style c.args.dashes.now c.stroke-answer.new.self c.stroke-answer.result
    c.new-stroker.ensures nib c.new-pattern.ensures.pattern c.stroke-answer.ensures c.taken.ensures (search (rules, stay.0)) (search (rules, stay.1)) (search (rules, stay.2))
