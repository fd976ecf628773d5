use Rattle.std.proofs.Common.{map}
use Rattle.lists.specs.Lent.{items}
use Rattle.lines.specs.Listing.{style_lines, dash_line, command_line}
use Rattle.lines.proofs.Growing.{first_failed, lines_after}
use Rattle.lines.proofs.listing.print_job.Goals as goal

pub returns-in_err-print_all : goal.returns-in_err-print_all
returns-in_err-print_all g c =
    first_failed _ _ (style_lines c.args.job.now.style) _ _ c.from_residual.ensures.0 (rw c.style_lines.ensures at c.in_err-print_all.ensures)

pub returns-in_err-print_all-2 : goal.returns-in_err-print_all-2
returns-in_err-print_all-2 g c =
    let style = rw c.style_lines.ensures at c.in_ok-print_all.ensures in
    let dashes = rw c.as_slice.ensures at c.in_err-print_all-2.ensures in
    lines_after _ _ _ (style_lines c.args.job.now.style) _ _ style
    (first_failed _ _ (map dash_line (items c.args.job.now.dashes)) _ _ c.from_residual-in_err-print_all-2.ensures.0 dashes)

pub returns-in_err-print_all-3 : goal.returns-in_err-print_all-3
returns-in_err-print_all-3 g c =
    let style = rw c.style_lines.ensures at c.in_ok-print_all.ensures in
    let dashes = rw c.as_slice.ensures at c.in_ok-print_all-2.ensures in
    let path = rw c.as_slice-2.ensures at c.in_err-print_all-3.ensures in
    lines_after _ _ _ (style_lines c.args.job.now.style) _ _ style
    (lines_after _ _ _ (map dash_line (items c.args.job.now.dashes)) _ _ dashes
    (first_failed _ _ (map command_line (items c.args.job.now.commands)) _ _ c.from_residual-in_err-print_all-3.ensures.0 path))

pub returns : goal.returns
returns g c =
    let style = rw c.style_lines.ensures at c.in_ok-print_all.ensures in
    let dashes = rw c.as_slice.ensures at c.in_ok-print_all-2.ensures in
    let path = rw c.as_slice-2.ensures at c.in_ok-print_all-3.ensures in
    lines_after _ _ _ (style_lines c.args.job.now.style) _ _ style
    (lines_after _ _ _ (map dash_line (items c.args.job.now.dashes)) _ _ dashes
    (lines_after _ _ _ (map command_line (items c.args.job.now.commands)) _ _ path (rw c.total.ensures at c.print.ensures)))
