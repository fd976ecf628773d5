use Rattle.std.proofs.Common.{map}
use Rattle.lines.specs.Listing.{command_line}
use Rattle.lines.proofs.Growing.{first_failed, lines_after}
use Rattle.stroke_lines.proofs.drawn.print_drawn.Goals as goal

pub returns-in_err-print_all : goal.returns-in_err-print_all
returns-in_err-print_all g c =
    first_failed _ _ (map command_line c.args.commands.now) _ _ c.from_residual.ensures.0 c.in_err-print_all.ensures

pub returns : goal.returns
returns g c =
    lines_after _ _ _ (map command_line c.args.commands.now) _ _ c.in_ok-print_all.ensures (rw c.answer_line.ensures at c.print.ensures)
