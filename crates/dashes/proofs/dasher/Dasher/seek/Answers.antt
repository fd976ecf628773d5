use Rattle.std.proofs.Common.{sym, subst}
use Rattle.dashes.specs.declared.dasher.walk.Walk.{Walk}
use Rattle.dashes.specs.Dashers.{InPlace, IsJoined}
use Rattle.dashes.specs.PatternValues.{values}
use Rattle.dashes.proofs.InPlace.{sought_in_place, sought_joined}
use Rattle.dashes.proofs.Whole.{all_whole}
use Rattle.dashes.proofs.dasher.Dasher.seek.Goals as goal

pub returns-clause-in_place : goal.returns-clause-in_place
returns-clause-in_place c = λ before.
    let p = values c.args.self.now.pattern in subst (λ (w : Walk). InPlace p w) (sym c.seek-self.ensures) (sought_in_place p c.args.self.now.walk before)

pub returns-clause-joined : goal.returns-clause-joined
returns-clause-joined c = λ first before.
    let d = c.args.self.now.pattern in
    let p = values d in
    subst (λ (w : Walk). IsJoined p w) (sym c.seek-self.ensures) (sought_joined p c.args.self.now.walk (all_whole p d.room d.told) first before)
