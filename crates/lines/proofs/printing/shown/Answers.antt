use Rattle.lines.proofs.Shown.{text_shown}
use Rattle.lines.proofs.printing.shown.Goals as goal

pub returns : goal.returns
returns g c = text_shown (g.D.Display.output c.args.value) _ _ c.new-text.ensures c.in_ok-writeln.ensures.writes
