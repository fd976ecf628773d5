-- Joins and caps that are not round end where the next side begins.
use Rattle.std.proofs.Common.{◌≡◌, List, [], ◌∷◌, refl, subst, sym}
use lib.Ieee.{Float, neg}
use Rattle.maths.specs.Functions.{Functions}
use Rattle.path.specs.declared.command.Command.{Command}
use Rattle.path.specs.declared.command.Command.TheVariants.{LineTo}
use Rattle.path.specs.Vectors.{vector, sum, multiple}
use Rattle.pen.specs.declared.nib.Nib.{Nib}
use Rattle.pen.specs.declared.corner.Turn.{Turn}
use Rattle.pen.specs.declared.corner.Corner.{Corner}
use Rattle.pen.specs.declared.corner.Corner.TheVariants.{Meet, Inner, Bevel, Round, NegativeDot, PastLimit, Miter}
use Rattle.pen.specs.Corners.{miter_point}
use Rattle.pen.specs.Joins.{shaped, EndsIn, LeadsTo}
use Rattle.pen.specs.Caps.{square_cap}

shaped_leads : (F : Functions) (c : Corner) (nib : Nib) (t : Turn) → LeadsTo t.to c (shaped F c nib t)
shaped_leads F Meet nib t = refl
shaped_leads F Inner nib t = (LineTo t.pivot ∷ [], refl)
shaped_leads F Bevel nib t = ([], refl)
shaped_leads F Round nib t = tt
shaped_leads F NegativeDot nib t = ([], refl)
shaped_leads F PastLimit nib t = ([], refl)
shaped_leads F Miter nib t = (LineTo (miter_point nib t) ∷ [], refl)

pub joined_leads : (F : Functions) (c : Corner) (nib : Nib) (t : Turn) {cs : List Command} → cs ≡ shaped F c nib t → LeadsTo t.to c cs
joined_leads F c nib t is = subst (λ (cs : List Command). LeadsTo t.to c cs) (sym is) (shaped_leads F c nib t)

pub square_leads : (r : Float) (t : Turn) {cs : List Command} → cs ≡ square_cap r t → EndsIn (LineTo t.to) cs
square_leads r t is =
    let out = multiple (vector (neg t.from_normal.y) t.from_normal.x) r in
    (LineTo (sum t.from out) ∷ LineTo (sum t.to out) ∷ [], is)
