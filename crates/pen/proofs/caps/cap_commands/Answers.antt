use Rattle.pen.proofs.Leading.{square_leads}
use Rattle.pen.proofs.caps.cap_commands.Goals as goal

pub returns-in-Square-clause-leads : goal.returns-in-Square-clause-leads
returns-in-Square-clause-leads g c = rw c.in-Square.is (square_leads c.args.radius c.args.turn c.square.ensures)
