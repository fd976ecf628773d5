-- What is told of a corner.
use Rattle.std.proofs.Common.{◌≡◌, Bool, true, false, true≢false, cond, not, Some, refl, sym, ap}
use Rattle.std.proofs.lemmas.Float.{T_from_true, le_of_lt, le_right}
use lib.Ieee.{lt}
use Rattle.numbers.specs.Arithmetic.{zero}
use Rattle.numbers.proofs.Orders.{at_most}
use Rattle.numbers.proofs.Quotients.{divisor_number, quotient_falls}
use Rattle.path.specs.declared.style.Join.{Join}
use Rattle.path.specs.declared.style.Join.TheVariants.{Bevel as BevelJoin, Miter as MiterJoin, Round as RoundJoin}
use Rattle.path.specs.Vectors.{near}
use Rattle.pen.specs.declared.nib.Nib.{Nib}
use Rattle.pen.specs.declared.corner.Turn.{Turn}
use Rattle.pen.specs.declared.corner.Corner.{Corner}
use Rattle.pen.specs.declared.corner.Corner.TheVariants.{Meet, Inner, Bevel, Round, NegativeDot, PastLimit, Miter}
use Rattle.pen.specs.Corners.{by_join, clockwise, turn_dot, half_turn_sine, corner_of, is_bevel, is_round, miter_corner, IsFirstCause, WithinLimit}

-- by the five tests alone
first_of : (near clockwise : Bool) (join : Join) (negative past : Bool)
    → cond near (Some Meet) (cond (not clockwise) (Some Inner) (cond (is_bevel join) (Some Bevel) (cond (is_round join) (Some Round) (cond negative (Some NegativeDot) (cond past (Some PastLimit) (Some Miter))))))
    ≡ Some (cond near Meet (cond clockwise (by_join join (cond negative NegativeDot (cond past PastLimit Miter))) Inner))
first_of true k j d p = refl
first_of false false j d p = refl
first_of false true BevelJoin d p = refl
first_of false true RoundJoin d p = refl
first_of false true MiterJoin true p = refl
first_of false true MiterJoin false true = refl
first_of false true MiterJoin false false = refl

pub first_cause : (nib : Nib) (t : Turn) → IsFirstCause nib t (corner_of nib t)
first_cause nib t = first_of (near t.from t.to) (clockwise t.from_normal t.to_normal) nib.join (lt (turn_dot t) zero) (lt (half_turn_sine t) nib.inv_miter_limit)

is_miter : Corner → Bool
is_miter Meet = false
is_miter Inner = false
is_miter Bevel = false
is_miter Round = false
is_miter NegativeDot = false
is_miter PastLimit = false
is_miter Miter = true

not_past : (negative past : Bool) → cond negative NegativeDot (cond past PastLimit Miter) ≡ Miter → past ≡ false
unfolding is_miter
not_past n false e = refl
not_past true true e = absurd (true≢false (sym (ap is_miter e)))
not_past false true e = absurd (true≢false (sym (ap is_miter e)))

pub within_limit : (nib : Nib) (t : Turn) → miter_corner nib t ≡ Miter → WithinLimit nib t
within_limit nib t is = λ width limit number.
    let sine = half_turn_sine t in
    let inverse = nib.inv_miter_limit in
    quotient_falls nib.radius sine inverse width limit
    (T_from_true _ (at_most sine inverse (divisor_number nib.radius sine number) (le_right zero inverse (le_of_lt zero inverse limit)) (not_past _ _ is)))
    number
