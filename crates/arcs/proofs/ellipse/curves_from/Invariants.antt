use Rattle.std.proofs.Common.{◌≡◌, ◌-◌, ◌++◌, length}
use Rattle.maths.specs.Questions.{all_asked}
use Rattle.arcs.specs.Curves.{all_curves, all_questions}
use Rattle.arcs.proofs.ellipse.curves_from.Given as goal

-- the curves so far with those that are left are all of them, and so with the questions
abbrev pub invariant-loop-i : goal.invariant-loop-i
invariant-loop-i g l =
    let functions = g.K.MathsHost.acts.functions in
    let asked = g.K.MathsHost.acts.asked in
    let F = functions l.fn.host in
    let n = l.sweep.count in
    record {
      same : functions l.host ≡ F;
      drawn : l.curves.items ++ all_curves (n - l.i) F l.ellipse l.angle l.sweep.each ≡ all_curves n F l.ellipse l.sweep.start l.sweep.each;
      answered : all_asked asked l.host (all_questions (n - l.i) l.angle l.sweep.each) ≡ all_asked asked l.fn.host (all_questions n l.sweep.start l.sweep.each);
      room : length l.curves.spare ≡ 4 - l.i;
    }
