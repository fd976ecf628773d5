use Rattle.std.proofs.Common.{ap, ◌∙◌}
use Rattle.std.proofs.lemmas.Iterator.{items_from_collect}
use Rattle.std.proofs.lemmas.Iterator.Consumers.{YieldsList-from_first}
use Rattle.maths.specs.declared.table.TableHost.{TableHost}
use Rattle.maths.specs.Tables.{tabled, rows_of}
use Rattle.cursor.specs.Cursors.{seen, rest}
use Rattle.cursor.specs.Drawings.{given_by, still}
use Rattle.replay_segments.specs.Coming.{to_come}
use Rattle.replay_segments.proofs.Gathered.{none_yet}
use Rattle.replay_segments.proofs.given.segments_of.Goals as goal

pub returns : goal.returns
returns c =
    let cursor = c.new.result in
    let commands = c.args.commands.now in
    let host = ap (λ (h : TableHost). given_by (still (tabled (rows_of h.rows)) (seen cursor) (rest cursor commands))) c.new-2.ensures in
    let all = host ∙ none_yet (tabled c.args.rows.now) c.args.split commands c.new.ensures.machine c.new.ensures.place in
    items_from_collect _ c.collect.ensures.ran (YieldsList-from_first (λ x. x) to_come _ all)
