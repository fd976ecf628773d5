-- Boxes stay in order.
use Rattle.std.proofs.Common.{not, T}
use lib.Ieee.{Float, lt, le, is_nan}
use Rattle.std.proofs.lemmas.Bool.{cond_both}
use Rattle.std.proofs.lemmas.Float.{le_refl, le_left, le_right, le_of_not-lt, T_from_false}
use Rattle.sinks.specs.Boxes.{lower, upper}

-- what is in order is so with a number more
pub widened : (low high x : Float) → T (le low high) → T (not (is_nan x)) → T (le (lower low x) (upper high x))
widened low high x h p =
    cond_both (lt x low) x low (λ v. T (le v (upper high x)))
    (λ e. cond_both (lt high x) x high (λ w. T (le x w)) (λ f. le_refl x p) (λ f. le_of_not-lt high x (le_right low high h) p (T_from_false _ f)))
    (λ e. cond_both (lt high x) x high (λ w. T (le low w)) (λ f. le_of_not-lt x low p (le_left low high h) (T_from_false _ e)) (λ f. h))
