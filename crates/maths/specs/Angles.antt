-- What is kept in the range of the arc cosine is an angle, and so is what a table answers for it.
use Rattle.std.specs.Prelude.{◌≡◌, true, List, [], ◌∷◌, Float}
use Rattle.std.specs.Int.Count.{count_trailing_zeros}
use Rattle.std.specs.Float.{nan, binary32}
use Rattle.std.specs.Float.Ieee.{is_nan, le, lt, eq, of_bits, of_fields, odd, fits}
use Rattle.std.proofs.lemmas.Bool.{cond_both, or_right}
use Rattle.std.proofs.lemmas.Float.{T_from_true}
use Rattle.maths.specs.declared.host.Function.TheVariants.{ArcCosine}
use Rattle.maths.specs.declared.table.Row.{Row}
use Rattle.maths.specs.Functions.{Functions, restricted, Angle, in_range}
use Rattle.maths.specs.Arcs.{kept}
use Rattle.maths.specs.Tables.{matches, lawful, looked_up}

pub nan_angle : Angle nan
unfolding is_nan
nan_angle = tt

pub ranged_angle : (y : Float) → in_range y ≡ true → Angle y
ranged_angle y e = T_from_true _ (or_right (is_nan y) (in_range y) e)

low_angle : Angle (of_bits binary32 0)
unfolding is_nan le lt eq of_bits of_fields odd count_trailing_zeros
low_angle = tt

high_angle : Angle (of_bits binary32 0x4049_0fdb)
unfolding is_nan le lt eq of_bits of_fields odd count_trailing_zeros
high_angle = tt

pub kept_angle : (y : Float) → Angle (kept y)
kept_angle y = cond_both (in_range y) y _ Angle (ranged_angle y)
    (λ _. cond_both (lt y (of_bits binary32 0)) _ _ Angle (λ _. low_angle)
    (λ _. cond_both (lt (of_bits binary32 0x4049_0fdb) y) _ _ Angle (λ _. high_angle) (λ _. nan_angle)))

lawful_angle : (y : Float) → Angle (lawful ArcCosine y)
lawful_angle y = cond_both (in_range y) y nan Angle (ranged_angle y) (λ _. nan_angle)

pub looked_up_angle : (rs : List Row) (x : Float) → Angle (looked_up rs ArcCosine x)
looked_up_angle [] x = nan_angle
looked_up_angle (r ∷ rs) x = cond_both (matches r ArcCosine x) _ _ Angle (λ _. lawful_angle _) (λ _. looked_up_angle rs x)

pub restricted_angle : (fs : Functions) (x : Float) → Angle (fs.arc_cosine x) → Angle ((restricted fs).arc_cosine x)
restricted_angle fs x h = cond_both (fits binary32 x) (fs.arc_cosine x) nan Angle (λ _. h) (λ _. nan_angle)
