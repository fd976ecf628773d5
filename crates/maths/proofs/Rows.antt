-- Looking a question up row by row.
use Rattle.std.proofs.Common.{◌≡◌, Bool, true, false, cond, Option, Some, List, [], ◌∷◌, refl, ◌∙◌}
use Rattle.std.specs.List.{find}
use lib.Ieee.{Float}
use Rattle.maths.specs.declared.host.Function.{Function}
use Rattle.maths.specs.declared.host.Function.TheVariants.{Sine, Cosine, ArcCosine, Tangent, Power}
use Rattle.maths.specs.declared.table.Row.{Row}
use Rattle.maths.specs.Functions.{apply, gathered}
use Rattle.maths.specs.Tables.{matches, answer_of, answered, looked_up, by_rows}

-- the five functions by their names
gathered_apply : (g : Function → Float → Float) (f : Function) (x : Float) → g f x ≡ apply (gathered g) f x
gathered_apply g Sine x = refl
gathered_apply g Cosine x = refl
gathered_apply g ArcCosine x = refl
gathered_apply g Tangent x = refl
gathered_apply g Power x = refl

chosen : (b : Bool) (r : Row) (f : Function) (o : Option Row) (y : Float) → answered f o ≡ y → answered f (cond b (Some r) o) ≡ cond b (answer_of r f) y
chosen true r f o y h = refl
chosen false r f o y h = h

found : (rs : List Row) (f : Function) (x : Float) → answered f (find (λ r. matches r f x) rs) ≡ looked_up rs f x
found [] f x = refl
found (r ∷ rs) f x = chosen (matches r f x) r f _ _ (found rs f x)

-- a table answers by the first row that matches
pub tabled_answer : (rs : List Row) (f : Function) (x : Float) → answered f (find (λ r. matches r f x) rs) ≡ apply (by_rows rs) f x
tabled_answer rs f x = found rs f x ∙ gathered_apply (looked_up rs) f x
