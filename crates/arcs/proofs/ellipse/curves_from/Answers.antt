use Rattle.std.proofs.Common.{rules, ◌≡◌, ◌<◌, [], ◌∷◌, ◌++◌, length, sym, ap, ◌∙◌, arith}
use Rattle.std.proofs.lemmas.Bool.{cond_below}
use Rattle.numbers.specs.Arithmetic.{◌⊕◌}
use Rattle.maths.specs.Functions.{Functions}
use Rattle.maths.proofs.Asking.{asked_same}
use Rattle.lists.specs.Fixed.{grown}
use Rattle.arcs.specs.Curves.{curve_at, curve_questions}
use Rattle.arcs.proofs.Round.{curves_first, questions_first, curves_more, questions_more}
use Rattle.arcs.proofs.ellipse.curves_from.Goals as goal

pub loop-i-init : goal.loop-i-init
loop-i-init g c =
    let n = c.args.sweep.count in
    let e = c.args.ellipse in
    let t = c.args.sweep.start in
    let each = c.args.sweep.each in
    let F = g.K.MathsHost.acts.functions c.args.host.now in
    let some : 0 < n = omega (arith, c.requires) in
    let first : c.few-curves.result.items ≡ curve_at F e t (t ⊕ each) ∷ [] = ap (λ p. p.items) c.few-curves.ensures ∙ ap (λ x. x ∷ []) c.first_curve-curve.ensures.answer in
    record {
      same = ap g.K.MathsHost.acts.functions c.first_curve-curve.ensures.host ∙ asked_same g.K.MathsHost.acts g.met.K.MathsHost.same c.args.host.now (curve_questions t (t ⊕ each));
      drawn = curves_first n F e t each some first;
      answered = questions_first g.K.MathsHost.acts.asked n t each c.args.host.now some c.first_curve-curve.ensures.host;
      room = ap (λ p. length p.spare) c.few-curves.ensures;
    }

pub loop-i-preserved : goal.loop-i-preserved
loop-i-preserved g c =
    let e = c.args.ellipse in
    let t = c.loop-i.angle in
    let each = c.args.sweep.each in
    let inv = c.loop-i.invariant in
    let F = g.K.MathsHost.acts.functions c.args.host.now in
    let items = c.loop-i.curves.items in
    let spare = c.loop-i.curves.spare in
    let room : 0 < length spare = omega (arith, inv.room, c.loop-i-test.true, c.requires) in
    let taken : c.push.new.self ≡ grown c.loop-i.curves c.curve_at.result = c.push.ensures.after ∙ sym (cond_below 0 (length spare) _ _ room) in
    let curve : c.curve_at.result ≡ curve_at F e t (t ⊕ each) = c.curve_at.ensures.answer ∙ ap (λ (G : Functions). curve_at G e t (t ⊕ each)) inv.same in
    let drawn : c.push.new.self.items ≡ items ++ (curve_at F e t (t ⊕ each) ∷ []) = (λ i. (taken i).items) ∙ ap (λ x. items ++ (x ∷ [])) curve in
    record {
      same = search rules;
      drawn = curves_more c.args.sweep.count c.loop-i.i F e t each items c.loop-i-test.true drawn inv.drawn;
      answered = questions_more g.K.MathsHost.acts.asked c.args.sweep.count c.loop-i.i t each c.loop-i.host c.loop-i-test.true c.curve_at.ensures.host inv.answered;
      room = search rules;
    }
