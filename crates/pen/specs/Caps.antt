-- The commands of a cap.
use Rattle.std.specs.Prelude.{List, [], ◌∷◌, Float}
use Rattle.std.specs.Float.Ieee.{neg}
use Rattle.maths.specs.Functions.{Functions}
use Rattle.maths.specs.Questions.{Question}
use Rattle.path.specs.declared.command.Command.{Command}
use Rattle.path.specs.declared.command.Command.TheVariants.{LineTo}
use Rattle.path.specs.declared.style.Cap.{Cap}
use Rattle.path.specs.declared.style.Cap.TheVariants.{Butt, Square, Round}
use Rattle.path.specs.declared.geometry.Vector.{Vector}
use Rattle.path.specs.Vectors.{vector, sum, multiple}
use Rattle.pen.specs.declared.corner.Turn.{Turn}
use Rattle.pen.specs.Joins.{EndsIn, round_commands, round_questions}

-- out beyond the end by the radius, across, and back
abbrev pub square_cap : Float → Turn → List Command
square_cap r t = let out = multiple (vector (neg t.from_normal.y) t.from_normal.x) r in
    LineTo (sum t.from out) ∷ LineTo (sum t.to out) ∷ LineTo t.to ∷ []

abbrev pub cap_commands : Functions → Cap → Float → Turn → List Command
cap_commands F Butt r t = LineTo t.to ∷ []
cap_commands F Square r t = square_cap r t
cap_commands F Round r t = round_commands F r t

abbrev pub cap_questions : Functions → Cap → Float → Turn → List Question
cap_questions F Butt r t = []
cap_questions F Square r t = []
cap_questions F Round r t = round_questions F r t

-- A cap that is not round ends where the next side begins.
abbrev pub CapLeadsTo : Vector → Cap → List Command → Type 0
CapLeadsTo to Butt cs = EndsIn (LineTo to) cs
CapLeadsTo to Square cs = EndsIn (LineTo to) cs
CapLeadsTo to Round cs = Unit {0}
