-- A moved command keeps its kind, so a sink that hands it on takes it as the one below does.
use Rattle.std.specs.Prelude.{◌≡◌, ◌-◌, T, [], ◌∷◌, ◌++◌, nat_le, refl}
use Rattle.std.proofs.Common.{sym, subst}
use Rattle.path.specs.Kinds.{kind}
use Rattle.path.specs.declared.geometry.Vector.{Vector}
use Rattle.path.specs.declared.command.Command.{Command}
use Rattle.path.specs.declared.command.Command.TheVariants.{MoveTo, LineTo, CurveTo, QuadTo, Close}
use Rattle.sinks.specs.Meaning.{Meaning, takes, joined}
use Rattle.sinks.specs.Shifts.{moved, shifted}

pub kind_moved : (by : Vector) (c : Command) → kind (moved by c) ≡ kind c
kind_moved by (MoveTo p) = refl
kind_moved by (LineTo p) = refl
kind_moved by (CurveTo a b p) = refl
kind_moved by (QuadTo a p) = refl
kind_moved by Close = refl

pub shifted_takes : (by : Vector) (m : Meaning) (c : Command) → T (takes (shifted by m) c) → T (takes m (moved by c))
shifted_takes by m c fits = subst (λ k. T (nat_le (m.price k) m.units)) (sym (kind_moved by c)) fits

pub shifted_joined : (by : Vector) (m : Meaning) (c : Command) → shifted by (joined m (moved by c)) ≡ joined (shifted by m) c
shifted_joined by m c =
    λ i. record { list = m.list ++ (m.map (moved by c) ∷ []); units = m.units - m.price (kind_moved by c i); price = m.price; map = λ d. m.map (moved by d) }
