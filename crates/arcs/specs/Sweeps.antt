-- The angles of an arc.
use Rattle.std.specs.Prelude.{◌≡◌, ℕ, cond, T, pos, List, [], ◌∷◌, from_bits, Float}
use Rattle.std.specs.Float.Ieee.{neg, lt, le, eq, of_int}
use Rattle.std.specs.Float as Floats
use Rattle.std.specs.Float.{float_max, binary32}
use Rattle.numbers.specs.Arithmetic.{◌⊕◌, ◌⊖◌, ◌⊗◌, ◌⊘◌, zero, one}
use Rattle.numbers.specs.Steps.{kept_within}
use Rattle.maths.specs.Functions.{Functions}
use Rattle.maths.specs.Questions.{Question}
use Rattle.maths.specs.declared.host.Function.TheVariants.{ArcCosine, Tangent}
use Rattle.path.specs.declared.geometry.Vector.{Vector}
use Rattle.path.specs.Vectors.{vector, dot_product}
use Rattle.curves.specs.Curves.{two, three}
use Rattle.arcs.specs.declared.arc_to.ArcTo.{ArcTo}
use Rattle.arcs.specs.declared.arc_to.ArcSize.{ArcSize}
use Rattle.arcs.specs.declared.arc_to.ArcSize.TheVariants.{Small, Large}
use Rattle.arcs.specs.declared.arc_to.ArcSweep.{ArcSweep}
use Rattle.arcs.specs.declared.arc_to.ArcSweep.TheVariants.{Negative, Positive}
use Rattle.arcs.specs.declared.centre.Centred.{Centred}
use Rattle.arcs.specs.declared.sweep.Angle.{Angle}
use Rattle.arcs.specs.declared.sweep.Sweep.{Sweep}
use Rattle.arcs.specs.Centres.{size_of}

-- a whole turn, and a quarter of it
abbrev pub tau : Float
tau = from_bits binary32 0x40C9_0FDB

abbrev pub quarter : Float
quarter = from_bits binary32 0x3FC9_0FDB

abbrev pub four : Float
four = from_bits binary32 0x4080_0000

-- F.6.5.4; the two have length 1 but for rounding
abbrev pub cosine_between : Vector → Vector → Float
cosine_between u v = kept_within (dot_product u v) (neg one) one

abbrev pub sign_between : Vector → Vector → Float
sign_between u v = cond (lt (u.x ⊗ v.y ⊖ u.y ⊗ v.x) zero) (neg one) one

-- by the shorter way round: its sign and its size
abbrev pub vec_angle : Functions → Vector → Vector → Angle
vec_angle F u v = record { sign = sign_between u v; size = F.arc_cosine (cosine_between u v) }

abbrev pub signed_angle : Angle → Float
signed_angle a = a.sign ⊗ a.size

abbrev pub angle_between : Functions → Vector → Vector → Float
angle_between F u v = signed_angle (vec_angle F u v)

-- a whole turn more where it is negative
abbrev pub turned_by : Float → Float
turned_by a = cond (lt a zero) (a ⊕ tau) a

-- F.6.5.6, by the flags: below half a turn or above it, with growing angles or with falling ones
abbrev pub turn_by : ArcSize → ArcSweep → Float → Float → Float
turn_by Small Positive sign angle = turned_by (sign ⊗ angle)
turn_by Small Negative sign angle = neg angle
turn_by Large Positive sign angle = tau ⊖ angle
turn_by Large Negative sign angle = angle ⊖ tau

abbrev pub turn_of : Functions → ArcTo → Centred → Float
turn_of F a c = turn_by a.size a.sweep (sign_between c.start c.end) (F.arc_cosine (cosine_between c.start c.end))

-- in quarters; within 1e-7 of one it is one
abbrev pub ratio_of : Float → Float
ratio_of t = let r = size_of t ⊘ quarter in cond (lt (size_of (one ⊖ r)) (from_bits binary32 0x33D6_BF95)) one r

abbrev pub curves_needed : Float → Float
curves_needed t = float_max (Floats.ceil binary32 (ratio_of t)) one

abbrev pub count_of : Float → ℕ
count_of x = cond (le x one) 1 (cond (le x two) 2 (cond (le x three) 3 4))

-- the count is the number itself, and at most four
abbrev pub Counted : Float → Type 0
Counted x = (of_int binary32 (pos (count_of x)) ≡ x) × T (le x four)

abbrev pub quarter_bulge : Float
quarter_bulge = from_bits binary32 0x3F0D_4A4E

-- how far the control points lie from the ends: four thirds of the tangent of a quarter of the angle
abbrev pub bulge_of : Functions → Float → Float
bulge_of F e = cond (eq e quarter) quarter_bulge (cond (eq e (neg quarter)) (neg quarter_bulge) (four ⊘ three ⊗ F.tangent (e ⊘ four)))

abbrev pub bulge_questions : Float → List Question
bulge_questions e = cond (eq e quarter) [] (cond (eq e (neg quarter)) [] ((Tangent, e ⊘ four) ∷ []))

abbrev pub sweep_by : Functions → Float → Float → Sweep
sweep_by F start turn = let each = turn ⊘ curves_needed turn in
    record { start = start; each = each; bulge = bulge_of F each; count = count_of (curves_needed turn) }

abbrev pub first_axis : Vector
first_axis = vector one zero

abbrev pub sweep_of : Functions → ArcTo → Centred → Sweep
sweep_of F a c = sweep_by F (angle_between F first_axis c.start) (turn_of F a c)

abbrev pub sweep_questions : Functions → ArcTo → Centred → List Question
sweep_questions F a c =
    (ArcCosine, cosine_between first_axis c.start) ∷ (ArcCosine, cosine_between c.start c.end)
    ∷ bulge_questions (turn_of F a c ⊘ curves_needed (turn_of F a c))
