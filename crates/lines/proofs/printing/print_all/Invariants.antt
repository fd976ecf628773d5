use Rattle.std.proofs.Common.{map, take}
use Rattle.std.specs.Io.KnownBytes.{Appends}
use Rattle.lines.specs.Printing.{text_of}
use Rattle.lines.proofs.printing.print_all.Given as goal

-- the lines so far
abbrev pub invariant-loop-x : goal.invariant-loop-x
invariant-loop-x g l = Appends (g.W.Write.contents l.fn.writer) (g.W.Write.contents l.writer) (text_of (map g.T.AsLine.line_of (take l.x-index l.row)))
