use Rattle.std.proofs.Common.{sym, refl, ap, ◌∙◌}
use Rattle.maths.specs.Questions.{all_asked}
use Rattle.path.specs.declared.command.Command.TheVariants.{MoveTo, LineTo, CurveTo, QuadTo, Close}
use Rattle.cursor.specs.Cursors.{seen}
use Rattle.cursor.specs.Machines.{curved, curve_questions}
use Rattle.cursor.proofs.Steps.{goes_to_piece, goes_to_command, goes_nowhere}
use Rattle.cursor.proofs.walk.Segments.step.Goals as goal

pub returns-in-false-Some-default : goal.returns-in-false-Some-default
returns-in-false-Some-default g c =
    let at = c.in-false-Some-default in
    let F = g.K.MathsHost.acts.functions c.args.host.now in
    goes_to_piece g.K.MathsHost.acts.asked F c.args.self.now c.args.commands.now c.args.host.now c.element.ensures c.as_slice.ensures.value at.is-0 at.is-1 c.later_piece.ensures

pub returns-in-false-None-Some-MoveTo : goal.returns-in-false-None-Some-MoveTo
returns-in-false-None-Some-MoveTo g c =
    let at = c.in-false-None-Some-MoveTo in
    let F = g.K.MathsHost.acts.functions c.args.host.now in
    goes_to_command g.K.MathsHost.acts.asked F c.args.self.now c.args.commands.now c.args.host.now c.element.ensures c.as_slice.ensures.value at.is-0 (MoveTo at.to) at.is-1 (cc at.ensures') c.move_to.ensures refl

pub returns-in-false-None-Some-LineTo : goal.returns-in-false-None-Some-LineTo
returns-in-false-None-Some-LineTo g c =
    let at = c.in-false-None-Some-LineTo in
    let F = g.K.MathsHost.acts.functions c.args.host.now in
    goes_to_command g.K.MathsHost.acts.asked F c.args.self.now c.args.commands.now c.args.host.now c.element.ensures c.as_slice.ensures.value at.is-0 (LineTo at.to) at.is-1 (cc at.ensures') c.line_to.ensures refl

pub returns-in-false-None-Some-CurveTo : goal.returns-in-false-None-Some-CurveTo
returns-in-false-None-Some-CurveTo g c =
    let at = c.in-false-None-Some-CurveTo in
    let F = g.K.MathsHost.acts.functions c.args.host.now in
    let made = c.curve_to.ensures.machine ∙ ap (λ k. curved F (seen c.args.self.now) k at.to) c.new.ensures in
    let asks = c.curve_to.ensures.host ∙ ap (λ k. all_asked g.K.MathsHost.acts.asked c.args.host.now (curve_questions F (seen c.args.self.now) k)) c.new.ensures in
    goes_to_command g.K.MathsHost.acts.asked F c.args.self.now c.args.commands.now c.args.host.now c.element.ensures c.as_slice.ensures.value at.is-0 (CurveTo at.b at.c at.to) at.is-1 (cc at.ensures') made asks

pub returns-in-false-None-Some-QuadTo : goal.returns-in-false-None-Some-QuadTo
returns-in-false-None-Some-QuadTo g c =
    let at = c.in-false-None-Some-QuadTo in
    let F = g.K.MathsHost.acts.functions c.args.host.now in
    let made = c.curve_to-in-false-None-Some-QuadTo.ensures.machine ∙ ap (λ k. curved F (seen c.args.self.now) k at.to) c.from_quadratic.ensures in
    let asks = c.curve_to-in-false-None-Some-QuadTo.ensures.host ∙ ap (λ k. all_asked g.K.MathsHost.acts.asked c.args.host.now (curve_questions F (seen c.args.self.now) k)) c.from_quadratic.ensures in
    goes_to_command g.K.MathsHost.acts.asked F c.args.self.now c.args.commands.now c.args.host.now c.element.ensures c.as_slice.ensures.value at.is-0 (QuadTo at.b at.to) at.is-1 (cc at.ensures') made asks

pub returns-in-false-None-Some-Close : goal.returns-in-false-None-Some-Close
returns-in-false-None-Some-Close g c =
    let at = c.in-false-None-Some-Close in
    let F = g.K.MathsHost.acts.functions c.args.host.now in
    goes_to_command g.K.MathsHost.acts.asked F c.args.self.now c.args.commands.now c.args.host.now c.element.ensures c.as_slice.ensures.value at.is-0 Close at.is-1 (cc at.ensures') c.close.ensures refl

pub returns-in-false-None-None : goal.returns-in-false-None-None
returns-in-false-None-None g c =
    let at = c.in-false-None-None in
    let F = g.K.MathsHost.acts.functions c.args.host.now in
    goes_nowhere g.K.MathsHost.acts.asked F c.args.self.now c.args.commands.now c.args.host.now c.element.ensures c.as_slice.ensures.value at.is-0 at.is-1 (sym c.element-2.ensures ∙ at.is-2)
