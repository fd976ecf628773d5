use Rattle.std.proofs.Common.{refl, ap, ◌∙◌}
use Rattle.maths.specs.declared.table.TableHost.{TableHost}
use Rattle.maths.specs.Functions.{HostActs}
use Rattle.maths.specs.Tables.{tabled, rows_of}
use Rattle.maths.proofs.Asking.{asked_same}
use Rattle.cursor.specs.Cursors.{seen, rest}
use Rattle.cursor.specs.Giving.{next_of}
use Rattle.cursor.specs.Machines.{Done}
use Rattle.replay_segments.specs.Coming.{to_come}
use Rattle.replay_segments.proofs.Gathered.{yields, progress}
use Rattle.replay_segments.proofs.given.GivenIterator.next.Goals as goal

pub returns : goal.returns
returns c =
    let self = c.args.self.now in
    let hosts : HostActs TableHost = record { functions = λ h. tabled (rows_of h.rows); asked = λ h f x. h } in
    let asks = (next_of (hosts.functions self.host) (seen self.cursor) (rest self.cursor self.commands.now)).asked in
    let same = ap (λ (d : Done TableHost). hosts.functions d.host) c.next.ensures.whole ∙ asked_same hosts (λ s f x. refl) self.host asks in
    let steps = yields same c.next.ensures.head in
    record { steps = steps; goes = progress _ to_come (λ t. tt) steps }
