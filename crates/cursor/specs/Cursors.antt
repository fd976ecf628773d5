-- What a cursor means.
use Rattle.std.specs.Prelude.{Bool, false, List, [], drop}
use Rattle.numbers.specs.Arithmetic.{zero}
use Rattle.path.specs.declared.command.Command.{Command}
use Rattle.path.specs.Vectors.{vector}
use Rattle.segments.specs.Marks.{marked}
use Rattle.cursor.specs.declared.walk.Segments.{Segments}
use Rattle.cursor.specs.declared.walk.machine.Machine.{Machine as State}
use Rattle.cursor.specs.Subpaths.{begun}
use Rattle.cursor.specs.Machines.{Machine, machine}

-- the machine, whatever the places hold that its pieces do not fill
abbrev pub state : State → Machine
state m = machine m.split m.id m.subpath (drop m.piece m.pieces.items) m.close

abbrev pub seen : Segments → Machine
seen s = state s.machine

-- the commands that are still to be read
abbrev pub rest : Segments → List Command → List Command
rest s cs = drop s.place cs

-- before the first command
abbrev pub fresh : Bool → Machine
fresh split = machine split (marked 0) (begun (vector zero zero)) [] false
