use Rattle.std.proofs.Common.{◌∙◌}
use Rattle.lists.proofs.Filling.{fills}
use Rattle.lists.proofs.fixed.FixedList.filled.Goals as goal

pub returns : goal.returns
returns g c = fills g.row.N c.min-count.result c.args.blank c.args.items.now c.copy_from_slice.new.self c.min-count.ensures (c.copy_from_slice.ensures.after ∙ c.front.ensures)
