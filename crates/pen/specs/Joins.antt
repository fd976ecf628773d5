-- The commands of a join.
use Rattle.std.specs.Prelude.{◌≡◌, false, cond, List, [], ◌∷◌, ◌++◌, Float}
use Rattle.numbers.specs.Arithmetic.{zero}
use Rattle.maths.specs.Functions.{Functions}
use Rattle.maths.specs.Questions.{Question}
use Rattle.path.specs.declared.command.Command.{Command}
use Rattle.path.specs.declared.command.Command.TheVariants.{LineTo}
use Rattle.path.specs.declared.geometry.Vector.{Vector}
use Rattle.path.specs.Vectors.{near}
use Rattle.pen.specs.declared.nib.Nib.{Nib}
use Rattle.pen.specs.declared.corner.Corner.{Corner}
use Rattle.pen.specs.declared.corner.Corner.TheVariants.{Meet, Inner, Bevel, Round, NegativeDot, PastLimit, Miter}
use Rattle.pen.specs.Corners.{clockwise, corner_of, miter_point}
use Rattle.arcs.specs.declared.arc_to.ArcTo.{ArcTo}
use Rattle.arcs.specs.declared.arc_to.ArcSize.TheVariants.{Small}
use Rattle.arcs.specs.declared.arc_to.ArcSweep.TheVariants.{Positive}
use Rattle.arcs.specs.Curves.{arc_curves, arc_questions}
use Rattle.pen.specs.declared.corner.Turn.{Turn}

-- the arc of a round join or cap: small, with growing angles, of a circle
abbrev pub half_circle : Float → Turn → ArcTo
half_circle r t = record { from = t.from; rx = r; ry = r; angle = zero; size = Small; sweep = Positive; to = t.to }

abbrev pub round_commands : Functions → Float → Turn → List Command
round_commands F r t = arc_curves F false (half_circle r t)

abbrev pub round_questions : Functions → Float → Turn → List Question
round_questions F r t = arc_questions F false (half_circle r t)

-- some commands, and the last of them
abbrev pub EndsIn : Command → List Command → Type 0
EndsIn last cs = (before : List Command) × (cs ≡ before ++ last ∷ [])

-- what a corner is drawn by
abbrev pub shaped : Functions → Corner → Nib → Turn → List Command
shaped F Meet nib t = []
shaped F Inner nib t = LineTo t.pivot ∷ LineTo t.to ∷ []
shaped F Bevel nib t = LineTo t.to ∷ []
shaped F Round nib t = round_commands F nib.radius t
shaped F NegativeDot nib t = LineTo t.to ∷ []
shaped F PastLimit nib t = LineTo t.to ∷ []
shaped F Miter nib t = LineTo (miter_point nib t) ∷ LineTo t.to ∷ []

abbrev pub shaped_questions : Functions → Corner → Nib → Turn → List Question
shaped_questions F Meet nib t = []
shaped_questions F Inner nib t = []
shaped_questions F Bevel nib t = []
shaped_questions F Round nib t = round_questions F nib.radius t
shaped_questions F NegativeDot nib t = []
shaped_questions F PastLimit nib t = []
shaped_questions F Miter nib t = []

abbrev pub join_commands : Functions → Nib → Turn → List Command
join_commands F nib t = shaped F (corner_of nib t) nib t

abbrev pub join_questions : Functions → Nib → Turn → List Question
join_questions F nib t = shaped_questions F (corner_of nib t) nib t

-- between two pieces of one curve
abbrev pub split_corner : Turn → Corner
split_corner t = cond (near t.from t.to) Meet (cond (clockwise t.from_normal t.to_normal) Round Inner)

-- What leads from one side to the next: a join that is not round ends where the next side begins, and where the two ends meet nothing is drawn. A round one ends where its arc does.
abbrev pub LeadsTo : Vector → Corner → List Command → Type 0
LeadsTo to Meet cs = cs ≡ []
LeadsTo to Inner cs = EndsIn (LineTo to) cs
LeadsTo to Bevel cs = EndsIn (LineTo to) cs
LeadsTo to Round cs = Unit {0}
LeadsTo to NegativeDot cs = EndsIn (LineTo to) cs
LeadsTo to PastLimit cs = EndsIn (LineTo to) cs
LeadsTo to Miter cs = EndsIn (LineTo to) cs
