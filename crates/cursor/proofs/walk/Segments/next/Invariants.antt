use Rattle.cursor.specs.Cursors.{seen, rest}
use Rattle.cursor.specs.Giving.{left, next_of}
use Rattle.cursor.specs.Machines.{done}
use Rattle.cursor.proofs.Going.{Going}
use Rattle.cursor.proofs.walk.Segments.next.Given as goal

abbrev pub invariant-loop-given : goal.invariant-loop-given
invariant-loop-given g l =
    let hosts = g.K.MathsHost.acts in
    let all = done hosts.asked l.initial.self.place l.initial.host (next_of (hosts.functions l.initial.host) (seen l.initial.self) (rest l.initial.self l.commands)) in
    Going hosts (hosts.functions l.initial.host) l.commands (seen l.self) l.self.place l.host all

abbrev pub decreases-loop-given : goal.decreases-loop-given
decreases-loop-given g l = left (seen l.self) (rest l.self l.commands)
