-- The curves of an arc.
use Rattle.std.specs.Prelude.{◌≡◌, ℕ, zero, suc, ◌≤◌, Bool, true, false, cond, ◌&&◌, T, pos, List, [], ◌∷◌, ◌++◌, length, Float}
use Rattle.std.specs.Float.{binary32}
use Rattle.std.specs.Float.Ieee.{le, eq, of_int}
use Rattle.numbers.specs.Arithmetic.{◌⊕◌, ◌⊖◌, ◌⊗◌}
use Rattle.numbers.specs.Arithmetic.{zero as zeroᶠ}
use Rattle.maths.specs.Functions.{Functions}
use Rattle.maths.specs.Questions.{Question}
use Rattle.maths.specs.declared.host.Function.TheVariants.{Sine, Cosine}
use Rattle.path.specs.declared.geometry.Vector.{Vector}
use Rattle.path.specs.declared.command.Command.{Command}
use Rattle.path.specs.declared.command.Command.TheVariants.{CurveTo}
use Rattle.path.specs.Vectors.{vector, sum}
use Rattle.arcs.specs.declared.arc_to.ArcTo.{ArcTo}
use Rattle.arcs.specs.declared.centre.Turned.{Turned}
use Rattle.arcs.specs.declared.centre.Centred.{Centred}
use Rattle.arcs.specs.declared.sweep.Sweep.{Sweep}
use Rattle.arcs.specs.declared.ellipse.Ellipse.{Ellipse}
use Rattle.arcs.specs.Centres.{to_ellipse, turn, half_chord, centred}
use Rattle.arcs.specs.Sweeps.{four, curves_needed, sweep_of, sweep_questions}

-- a point by its place on the circle of radius 1
abbrev pub placed : Ellipse → Vector → Vector
placed e v = sum e.centre (turn e.turned (to_ellipse e.radii v))

abbrev pub curve_between : Ellipse → Vector → Vector → Command
curve_between e p q = let a = e.bulge in
    CurveTo (placed e (vector (p.x ⊖ p.y ⊗ a) (p.y ⊕ p.x ⊗ a))) (placed e (vector (q.x ⊕ q.y ⊗ a) (q.y ⊖ q.x ⊗ a))) (placed e q)

-- on the circle, at an angle
abbrev pub round_at : Functions → Float → Vector
round_at F t = vector (F.cosine t) (F.sine t)

abbrev pub round_questions : Float → List Question
round_questions t = (Sine, t) ∷ (Cosine, t) ∷ []

abbrev pub curve_at : Functions → Ellipse → Float → Float → Command
curve_at F e from to = curve_between e (round_at F from) (round_at F to)

abbrev pub curve_questions : Float → Float → List Question
curve_questions from to = round_questions from ++ round_questions to

-- so many curves one after the other, each as far round as the others
unfoldable pub all_curves : ℕ → Functions → Ellipse → Float → Float → List Command
all_curves zero F e t each = []
all_curves (suc n) F e t each = curve_at F e t (t ⊕ each) ∷ all_curves n F e (t ⊕ each) each

unfoldable pub all_questions : ℕ → Float → Float → List Question
all_questions zero t each = []
all_questions (suc n) t each = curve_questions t (t ⊕ each) ++ all_questions n (t ⊕ each) each

-- the ends are one point
abbrev pub no_chord : Vector → Bool
no_chord p = eq p.x zeroᶠ && eq p.y zeroᶠ

abbrev pub turned_of : Functions → Float → Turned
turned_of F angle = record { sine = F.sine angle; cosine = F.cosine angle }

abbrev pub ellipse : Centred → Turned → Sweep → Ellipse
ellipse c t s = record { centre = c.centre; radii = c.radii; turned = t; bulge = s.bulge }

abbrev pub centred_of : Functions → Bool → ArcTo → Centred
centred_of F scaled a = centred a (turned_of F a.angle) (half_chord a (turned_of F a.angle)) scaled

-- the curves about a centre, and the questions for them
abbrev pub round_curves : Functions → ArcTo → Turned → Centred → List Command
round_curves F a t c = let s = sweep_of F a c in all_curves s.count F (ellipse c t s) s.start s.each

abbrev pub round_all_questions : Functions → ArcTo → Centred → List Question
round_all_questions F a c = let s = sweep_of F a c in sweep_questions F a c ++ all_questions s.count s.start s.each

-- an arc between two points that are one sends nothing
unfoldable pub arc_curves : Functions → Bool → ArcTo → List Command
arc_curves F scaled a = cond (no_chord (half_chord a (turned_of F a.angle))) [] (round_curves F a (turned_of F a.angle) (centred_of F scaled a))

unfoldable pub arc_questions : Functions → Bool → ArcTo → List Question
arc_questions F scaled a = round_questions a.angle
    ++ cond (no_chord (half_chord a (turned_of F a.angle))) [] (round_all_questions F a (centred_of F scaled a))

-- nothing, or one to four
abbrev pub OneToFour : Bool → List Command → Type 0
OneToFour true row = row ≡ []
OneToFour false row = (1 ≤ length row) × (length row ≤ 4)

-- nothing, or as many as the turn needs, which are at most four
abbrev pub AsNeeded : Bool → Float → List Command → Type 0
AsNeeded true t row = row ≡ []
AsNeeded false t row = (of_int binary32 (pos (length row)) ≡ curves_needed t) × T (le (curves_needed t) four)
