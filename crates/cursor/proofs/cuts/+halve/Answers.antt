use Rattle.std.proofs.Common.{◌≡◌, ◌-◌, true, ◌++◌, sym, ap, ◌∙◌, append_assoc, arith}
use Rattle.curves.specs.declared.curve.Curve.{Curve}
use Rattle.curves.specs.Curves.{needs_split}
use Rattle.cursor.specs.Cuts.{halved}
use Rattle.cursor.proofs.Halving.{halved_split}
use Rattle.cursor.proofs.cuts.+halve.Goals as goal

pub returns-then-needs_split-clause-more : goal.returns-then-needs_split-clause-more
returns-then-needs_split-clause-more t c =
    let done = c.args.pieces.now.items in
    let left = c.args.times - 1 in
    let cut : needs_split c.args.curve ≡ true = sym c.needs_split.ensures ∙ c.if-needs_split.true in
    c.halve-then-needs_split.ensures.more ∙ ap (λ l. l ++ halved left c.split.result.1) c.halve.ensures.more
    ∙ append_assoc done (halved left c.split.result.0) (halved left c.split.result.1)
    ∙ ap (λ (h : Curve × Curve). done ++ (halved left h.0 ++ halved left h.1)) c.split.ensures
    ∙ ap (λ l. done ++ l) (sym (halved_split c.args.times c.args.curve (omega arith) cut))
