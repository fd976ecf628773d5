use Rattle.cursor.proofs.Whole.{lawful}
use Rattle.cursor.proofs.walk.Segments.new.Goals as goal

pub returns-clause-lawful : goal.returns-clause-lawful
returns-clause-lawful c F cs = lawful F c.args.split cs
