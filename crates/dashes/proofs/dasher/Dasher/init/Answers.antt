use Rattle.std.proofs.Common.{sym, subst}
use Rattle.dashes.specs.declared.dasher.walk.Walk.{Walk}
use Rattle.dashes.specs.Dashers.{InPlace, IsJoined}
use Rattle.dashes.specs.PatternValues.{values}
use Rattle.dashes.proofs.InPlace.{begun_in_place, begun_joined}
use Rattle.dashes.proofs.Whole.{all_whole}
use Rattle.dashes.proofs.Ranges.{seeking_within}
use Rattle.dashes.proofs.dasher.Dasher.init.Goals as goal

pub returns-clause-within : goal.returns-clause-within
returns-clause-within c = λ xs n. seeking_within n _ xs _ _

pub returns-clause-in_place : goal.returns-clause-in_place
returns-clause-in_place c =
    let p = values c.args.pattern in subst (λ (w : Walk). InPlace p w) (sym c.begin.ensures) (begun_in_place p c.args.closed c.args.pattern.number.0)

pub returns-clause-joined : goal.returns-clause-joined
returns-clause-joined c =
    let p = values c.args.pattern in
    subst (λ (w : Walk). IsJoined p w) (sym c.begin.ensures) (begun_joined p c.args.closed (all_whole p c.args.pattern.room c.args.pattern.told) c.args.pattern.number.0)
