use Rattle.std.proofs.Common.{◌∙◌, ◌≡◌, sym, subst}
use Rattle.arcs.specs.Centres.{half_chord}
use Rattle.arcs.specs.Curves.{no_chord, turned_of, OneToFour}
use Rattle.arcs.specs.Ends.{curves_of}
use Rattle.arcs.specs.Laws.{CountedAs, NothingAtAPoint, ReachesEnd, FiniteIfEnds}
use Rattle.arcs.proofs.Reached.{few, counted, reaches, finite}
use Rattle.arcs.proofs.Points.{nothing}
use Rattle.arcs.proofs.Turns.{turns, radii_fit}
use Rattle.arcs.proofs.Unsigned.{same_unsigned}
use Rattle.arcs.proofs.ellipse.arc_curves.Goals as goal

pub returns : goal.returns
returns g c =
    let arc = c.args.arc in
    let alone = c.args.alone in
    let F = g.K.MathsHost.acts.functions c.args.host.now in
    let row : c.curves_of.result.items ≡ curves_of F alone arc = c.curves_of.ensures.answer in
    record {
      answer = row;
      host = c.curves_of.ensures.host;
      few = subst (OneToFour (no_chord (half_chord arc (turned_of F arc.angle)))) (sym row) (few F alone arc);
      needed = subst (CountedAs F alone arc) (sym row) (counted F (g.met.K.MathsHost.ranged c.args.host.now) alone arc);
      point = subst (NothingAtAPoint F arc) (sym row) (nothing F alone arc);
      turns = turns F (g.met.K.MathsHost.ranged c.args.host.now) alone arc;
      grow = radii_fit F alone arc;
      unsigned = row ∙ sym (same_unsigned F alone arc);
      reaches = λ yes. subst (ReachesEnd arc) (sym row) (reaches F alone arc yes);
      finite = λ yes. subst (FiniteIfEnds arc) (sym row) (finite F alone arc yes);
    }
