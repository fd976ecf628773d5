use Rattle.std.proofs.Common.{sym, subst}
use Rattle.dashes.specs.declared.dasher.walk.Next.{Next}
use Rattle.dashes.specs.Dashers.{InPlace, IsJoined}
use Rattle.dashes.specs.PatternValues.{values}
use Rattle.dashes.proofs.InPlace.{next_in_place, next_joined}
use Rattle.dashes.proofs.Whole.{all_whole}
use Rattle.dashes.proofs.Ranges.{next_within}
use Rattle.dashes.proofs.dasher.Dasher.next.Goals as goal

pub returns-clause-within : goal.returns-clause-within
returns-clause-within g c = rw c.next-next.ensures (next_within (values c.args.self.now.pattern) (g.B.Storage.acts.held c.args.storage.now) c.args.self.now.walk)

pub returns-clause-in_place : goal.returns-clause-in_place
returns-clause-in_place g c = λ before.
    let p = values c.args.self.now.pattern in
    subst (λ (x : Next). InPlace p x.after) (sym c.next-next.ensures) (next_in_place p (g.B.Storage.acts.held c.args.storage.now) c.args.self.now.walk before)

pub returns-clause-joined : goal.returns-clause-joined
returns-clause-joined g c = λ before joined.
    let d = c.args.self.now.pattern in
    let p = values d in
    subst (λ (x : Next). IsJoined p x.after) (sym c.next-next.ensures) (next_joined p (g.B.Storage.acts.held c.args.storage.now) c.args.self.now.walk (all_whole p d.room d.told) before joined)
