use Rattle.std.proofs.Common.{◌≡◌, true, false, [], ◌++◌, sym, ap, ◌∙◌}
use Rattle.std.proofs.lemmas.Bool.{cond-false}
use Rattle.maths.specs.Questions.{all_asked}
use Rattle.maths.proofs.Asking.{asked_append, asked_same}
use Rattle.arcs.specs.Centres.{half_chord, centred}
use Rattle.arcs.specs.Curves.{round_questions, no_chord, turned_of, centred_of, round_curves, round_all_questions, arc_questions}
use Rattle.arcs.specs.Ends.{start_round, landing}
use Rattle.arcs.proofs.Reached.{by_both, none_at_a_point}
use Rattle.arcs.proofs.ellipse.curves_of.Goals as goal

pub returns-then-has_no_chord-clause-answer : goal.returns-then-has_no_chord-clause-answer
returns-then-has_no_chord-clause-answer g c =
    let arc = c.args.arc in
    let F = g.K.MathsHost.acts.functions c.args.host.now in
    let half = c.half_chord-half.ensures ∙ ap (half_chord arc) c.turned.ensures.answer in
    let none : no_chord (half_chord arc (turned_of F arc.angle)) ≡ true = sym (ap no_chord half) ∙ sym c.has_no_chord.ensures ∙ c.if-has_no_chord.true in
    ap (λ p. p.items) c.few.ensures ∙ sym (none_at_a_point F c.args.alone arc none)

pub returns : goal.returns
unfolding arc_questions
returns g c =
    let functions = g.K.MathsHost.acts.functions in
    let asked = g.K.MathsHost.acts.asked in
    let host = c.args.host.now in
    let arc = c.args.arc in
    let alone = c.args.alone in
    let F = functions host in
    let chord = half_chord arc (turned_of F arc.angle) in
    let turned : c.turned.result ≡ turned_of F arc.angle = c.turned.ensures.answer in
    let half : c.half_chord-half.result ≡ chord = c.half_chord-half.ensures ∙ ap (half_chord arc) turned in
    let some : no_chord chord ≡ false = sym (ap no_chord half) ∙ sym c.has_no_chord.ensures ∙ c.if-has_no_chord.false in
    let centre : c.find_centre-centred.result ≡ centred_of F alone arc = c.find_centre-centred.ensures ∙ (λ i. centred arc (turned i) (half i) alone) in
    let after = c.turned.ensures.host in
    let kept : functions c.turned.new.host ≡ F = ap functions after ∙ asked_same g.K.MathsHost.acts g.met.K.MathsHost.same host (round_questions arc.angle) in
    let rest = round_all_questions F arc (centred_of F alone arc) in
    let start = c.curves_round-curves.ensures.start ∙ (λ i. start_round (kept i) arc (turned i) (centre i)) in
    let row = c.curves_round-curves.ensures.answer ∙ (λ i. round_curves (kept i) arc (turned i) (centre i)) in
    record {
      answer = c.landing.ensures ∙ (λ i. landing arc (turned i) (half i) alone (start i) (row i)) ∙ sym (by_both F alone arc some);
      host = c.curves_round-curves.ensures.host ∙ (λ i. all_asked asked (after i) (round_all_questions (kept i) arc (centre i))) ∙ sym (asked_append asked host (round_questions arc.angle) rest)
          ∙ ap (λ qs. all_asked asked host (round_questions arc.angle ++ qs)) (sym (cond-false (no_chord chord) [] rest some));
    }
