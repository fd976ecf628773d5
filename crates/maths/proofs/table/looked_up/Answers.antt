use Rattle.std.proofs.Common.{ap, ◌∙◌}
use Rattle.maths.specs.Tables.{answered, rows_of}
use Rattle.maths.proofs.Rows.{tabled_answer}
use Rattle.maths.proofs.table.looked_up.Goals as goal

pub returns : goal.returns
returns c = c.answered.ensures ∙ ap (answered c.args.f) c.first_match.ensures ∙ tabled_answer (rows_of c.args.rows) c.args.f c.args.x
