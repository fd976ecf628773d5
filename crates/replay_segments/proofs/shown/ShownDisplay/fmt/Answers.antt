use Rattle.std.proofs.Common.{ℕ, [], ◌∷◌, ◌++◌, codes, decimal, sym, ap, ◌∙◌}
use Rattle.std.proofs.Output.{has_written_of_eq}
use Rattle.lines.specs.Text.{spaced}
use Rattle.replay_segments.specs.Text.{coordinates, segment_text}
use Rattle.replay_segments.proofs.shown.ShownDisplay.fmt.Goals as goal

pub returns-in-Curve-clause-writes : goal.returns-in-Curve-clause-writes
returns-in-Curve-clause-writes g c plain ok =
    let k = c.in-Curve.curve in
    let marked = ap (λ (n : ℕ). codes "C" ++ spaced (decimal n ∷ coordinates (k.a ∷ k.b ∷ k.c ∷ k.d ∷ []))) c.from-in-Curve.ensures in
    has_written_of_eq g.W.Write.write_str_gives _ _ _ _ (marked ∙ ap segment_text (sym c.in-Curve.is)) (c.write-in-Curve.ensures.writes plain ok)
