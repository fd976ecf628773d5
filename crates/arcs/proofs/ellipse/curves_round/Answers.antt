use Rattle.std.proofs.Common.{rules, ◌≡◌, ap, ◌∙◌}
use Rattle.maths.proofs.Asking.{asked_same}
use Rattle.arcs.specs.Sweeps.{sweep_of, sweep_questions}
use Rattle.arcs.specs.Curves.{placed, round_at, all_curves, ellipse}
use Rattle.arcs.proofs.ellipse.curves_round.Goals as goal

pub returns : goal.returns
returns g c =
    let functions = g.K.MathsHost.acts.functions in
    let F = functions c.args.host.now in
    let arc = c.args.turned_arc.arc in
    let questions = sweep_questions F arc c.args.centred in
    let sweep : c.find_sweep-sweep.result ≡ sweep_of F arc c.args.centred = c.find_sweep-sweep.ensures.answer in
    let kept : functions c.find_sweep-sweep.new.host ≡ F = ap functions c.find_sweep-sweep.ensures.host ∙ asked_same g.K.MathsHost.acts g.met.K.MathsHost.same c.args.host.now questions in
    let e = c.new.ensures ∙ ap (ellipse c.args.centred c.args.turned_arc.turned) sweep in
    record {
      start = c.curves_from.ensures.start ∙ (λ i. placed (e i) (round_at (kept i) (sweep i).start));
      answer = c.curves_from.ensures.answer ∙ (λ i. all_curves (sweep i).count (kept i) (e i) (sweep i).start (sweep i).each);
      host = search rules;
    }
