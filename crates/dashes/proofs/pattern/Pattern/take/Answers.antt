use Rattle.std.proofs.Common.{◌≡◌, false, true≢false, sym, ap, ◌∙◌}
use Rattle.std.specs.Float.Ieee.{eq}
use Rattle.numbers.specs.Arithmetic.{zero}
use Rattle.dashes.specs.Patterns.{Taken, empty_gap, length_at, odd_number}
use Rattle.dashes.proofs.Whole.{joined_whole, single_whole}
use Rattle.dashes.proofs.pattern.Pattern.take.Goals as goal
use Rattle.dashes.proofs.pattern.Pattern.take.Goals.{else-on-via-then-on+else-self, else-on-via-else-on}

pub returns-then-self-clause-whole : goal.returns-then-self-clause-whole
returns-then-self-clause-whole c = λ on place.
    let xs = c.args.self.now.lengths.now in
    ap (λ (d : Taken). eq (length_at xs d.next) zero) c.joined.ensures ∙ joined_whole xs c.args.i (length_at xs c.args.i) c.args.self.now.room place

pub returns-else-on-clause-whole : goal.returns-else-on-clause-whole
returns-else-on-clause-whole c = λ on place.
    elim c.else-on.branch [
      | else-on-via-then-on+else-self w ↦
          let xs = c.args.self.now.lengths.now in
          let none : empty_gap (odd_number xs) false xs ≡ false = sym c.args.self.now.told ∙ w.if-self.false in
          ap (λ j. eq (length_at xs j) zero) c.following.ensures ∙ single_whole xs c.args.i none place
      | else-on-via-else-on w ↦ absurd (true≢false (sym on ∙ w.if-on.false))
    ]
