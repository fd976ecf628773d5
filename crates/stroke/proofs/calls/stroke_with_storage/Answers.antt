use Rattle.std.proofs.Common.{ap, ◌∙◌}
use Rattle.storage.specs.Meaning.{held_by}
use Rattle.stroke.specs.Outcomes.{request}
use Rattle.stroke.proofs.Added.{took_by}
use Rattle.stroke.proofs.Calling.{functions_kept}
use Rattle.stroke.proofs.Lawfully.{law_of_call}
use Rattle.stroke.proofs.Seen.{stroked_held, outcome_seen, promised_by}
use Rattle.stroke.proofs.calls.stroke_with_storage.Goals as goal

pub returns-clause-seen : goal.returns-clause-seen
returns-clause-seen g c =
    let b = g.met.B.Storage in
    let e = ap (outcome_seen (λ s. s) (held_by g.B.Storage.acts) (λ k. k)) c.admit_and_draw.ensures
    ∙ stroked_held g.S.Sink.acts g.B.Storage.acts g.K.MathsHost.acts (record { empties = b.empties; same_cleared = b.same_cleared; grows = b.grows; same_pushed = b.same_pushed })
    (request c.args.commands.now c.args.style c.args.dashes.now c.args.budget) c.args.sink.now c.args.storage.now c.args.host.now in
    ((λ i. (e i).answer), (λ i. (e i).sink), (λ i. (e i).host))

pub returns-clause-functions : goal.returns-clause-functions
returns-clause-functions g c =
    functions_kept g.S.Sink.acts g.B.Storage.acts g.K.MathsHost.acts (request c.args.commands.now c.args.style c.args.dashes.now c.args.budget) c.args.sink.now c.args.storage.now c.args.host.now
    g.met.K.MathsHost.same c.admit_and_draw.ensures

pub returns-clause-promised : goal.returns-clause-promised
returns-clause-promised g c =
    let b = g.met.B.Storage in
    promised_by g.S.Sink.acts g.B.Storage.acts g.K.MathsHost.acts (record { empties = b.empties; same_cleared = b.same_cleared; grows = b.grows; same_pushed = b.same_pushed })
    (request c.args.commands.now c.args.style c.args.dashes.now c.args.budget) c.args.sink.now c.args.storage.now c.args.host.now
    g.met.S.Sink.grows c.admit_and_draw.ensures (g.met.K.MathsHost.narrow c.args.host.now)

pub returns-clause-took : goal.returns-clause-took
returns-clause-took g c =
    took_by g.S.Sink.acts g.B.Storage.acts g.K.MathsHost.acts
    (request c.args.commands.now c.args.style c.args.dashes.now c.args.budget) c.args.sink.now c.args.storage.now c.args.host.now c.admit_and_draw.ensures

pub returns-clause-lawful : goal.returns-clause-lawful
returns-clause-lawful g c =
    let b = g.met.B.Storage in
    law_of_call g.S.Sink.acts g.B.Storage.acts g.K.MathsHost.acts (record { empties = b.empties; same_cleared = b.same_cleared; grows = b.grows; same_pushed = b.same_pushed })
    (request c.args.commands.now c.args.style c.args.dashes.now c.args.budget) c.args.sink.now c.args.storage.now c.args.host.now
    g.met.S.Sink.kept g.met.S.Sink.grows (g.met.K.MathsHost.narrow c.args.host.now) c.admit_and_draw.ensures
