-- What a series host answers at special arguments: each is worked out.
use Rattle.std.proofs.Common.{◌≡◌, ℕ, zero, suc, ap, ◌*◌, Bool, true, false, not, ◌&&◌, T, ℤ, pos, refl, sym, subst, ◌∙◌, true≢false, arith}
use lib.Count.{count_trailing_zeros}
use lib.Ieee.{Float, binary32, binary64, fits, is_nan, nan, inf, fin, add, sub, mul, div, rem, neg, eq, lt, le, up, down, round, sum, size, span, climb, units, odd, of_bits, of_fields}
use lib.Ieee.Fits.{and_i, fits_widens}
use Rattle.std.proofs.lemmas.Float.{T_from_true}
use Rattle.std.specs.Float.{round_to_format, sqrt, float_zero, NotNan}
use Rattle.std.proofs.lemmas.Bool.{lt-ltb, ne_eqb, and_left}
use Rattle.numbers.proofs.Patterns.{above_nought, zero_power}
use Rattle.maths.specs.declared.host.Function.{Function}
use Rattle.maths.specs.declared.host.Function.TheVariants.{Sine, Cosine, ArcCosine, Tangent, Power}
use Rattle.maths.specs.Functions.{apply}
use Rattle.maths.specs.Series.{series, series_sine, series_cosine, Special}

power_of_zero : (s : Bool) → series.power (fin s 0 (pos 0)) ≡ float_zero
unfolding mul lt of_bits of_fields odd round_to_format round size span climb units
power_of_zero true = refl
power_of_zero false = refl

power_of_infinity : (s : Bool) → series.power (inf s) ≡ inf false
unfolding mul lt of_bits round_to_format
power_of_infinity true = refl
power_of_infinity false = refl

-- ---- 0, of either sign

not_zero : (s : Bool) (m : ℕ) (e : ℤ) → eq (fin s (suc m) e) float_zero ≡ false
unfolding eq
not_zero s m e = let p = above_nought m e in and_left _ _ (ne_eqb (suc m * up e * 1) (0 * down e) (λ q. omega arith))

canonical : (s : Bool) (e : ℤ) → fits binary32 (fin s 0 e) ≡ true → fin s 0 e ≡ fin s 0 (pos 0)
canonical s e h = ap (λ (k : ℤ). fin s 0 k) (zero_power s e (T_from_true _ h))

at_zeros : (P : Float → Type 0) → P (fin false 0 (pos 0)) → P (fin true 0 (pos 0)) → (x : Float) → fits binary32 x ≡ true → eq x float_zero ≡ true → P x
unfolding eq
at_zeros P p n nan f h = absurd (true≢false (sym h))
at_zeros P p n (inf s) f h = absurd (true≢false (sym h))
at_zeros P p n (fin false zero e) f h = subst P (sym (canonical false e f)) p
at_zeros P p n (fin true zero e) f h = subst P (sym (canonical true e f)) n
at_zeros P p n (fin s (suc m) e) f h = absurd (true≢false (sym h ∙ not_zero s m e))

pub sine_of_zeros : (x : Float) → fits binary32 x ≡ true → eq x (of_bits binary32 0) ≡ true → x ≡ series_sine x
unfolding add sub mul neg lt of_bits of_fields odd round sum size span climb units round_to_format count_trailing_zeros
sine_of_zeros = at_zeros (λ x. x ≡ series_sine x) refl refl

pub cosine_of_zeros : (x : Float) → fits binary32 x ≡ true → eq x (of_bits binary32 0) ≡ true → of_bits binary32 0x3F80_0000 ≡ series_cosine x
unfolding add sub mul neg lt of_bits of_fields odd round sum size span climb units round_to_format count_trailing_zeros
cosine_of_zeros = at_zeros (λ x. of_bits binary32 0x3F80_0000 ≡ series_cosine x) refl refl

number : (x c : Float) → lt (mul binary32 x x) c ≡ true → NotNan x
unfolding mul lt is_nan
number nan c h = absurd (true≢false (sym h))
number (inf s) c h = tt
number (fin s m e) c h = tt

-- so an f64 holds it
pub near_is_number : (x c : Float) → fits binary32 x ≡ true → lt (mul binary32 x x) c ≡ true → T (fits binary64 x && not (is_nan x))
near_is_number x c f h = and_i (fits binary64 x) (not (is_nan x)) (fits_widens x (T_from_true _ f)) (number x c h)

-- ---- infinities, NaN, ends

sine_of_infinity : (s : Bool) → series.sine (inf s) ≡ nan
unfolding add sub mul rem neg lt of_bits of_fields odd count_trailing_zeros round_to_format
sine_of_infinity true = refl
sine_of_infinity false = refl

cosine_of_infinity : (s : Bool) → series.cosine (inf s) ≡ nan
unfolding add sub mul rem neg lt of_bits of_fields odd count_trailing_zeros round_to_format
cosine_of_infinity true = refl
cosine_of_infinity false = refl

tangent_of_infinity : (s : Bool) → series.tangent (inf s) ≡ nan
unfolding add sub mul div rem neg lt of_bits of_fields odd count_trailing_zeros round_to_format
tangent_of_infinity true = refl
tangent_of_infinity false = refl

arc_of_infinity : (s : Bool) → series.arc_cosine (inf s) ≡ nan
unfolding add sub mul neg lt le eq of_bits of_fields odd count_trailing_zeros round_to_format sqrt
arc_of_infinity true = refl
arc_of_infinity false = refl

of_nan : (f : Function) → apply series f nan ≡ nan
unfolding add sub mul div rem neg eq lt le of_bits of_fields odd count_trailing_zeros round_to_format
of_nan Sine = refl
of_nan Cosine = refl
of_nan ArcCosine = refl
of_nan Tangent = refl
of_nan Power = refl

below_zero : (m : ℕ) (e : ℤ) → lt (fin true (suc m) e) float_zero ≡ true
unfolding lt
below_zero m e = let p = above_nought m e in lt-ltb _ _ (omega arith)

power_below_zero : (m : ℕ) (e : ℤ) → series.power (fin true (suc m) e) ≡ nan
unfolding lt of_bits of_fields odd count_trailing_zeros round_to_format
power_below_zero m e = rw (below_zero m e)

pub special : Special
unfolding add sub mul div rem neg eq lt le round sum size span climb units odd of_bits of_fields round_to_format sqrt count_trailing_zeros
special = record {
  cosine_of_zero = refl;
  sine_of_zero = refl;
  sine_of_minus_zero = refl;
  sine_of_infinity = sine_of_infinity;
  cosine_of_infinity = cosine_of_infinity;
  tangent_of_infinity = tangent_of_infinity;
  arc_of_one = refl;
  arc_of_minus_one = refl;
  arc_of_infinity = arc_of_infinity;
  power_of_zero = power_of_zero;
  power_of_infinity = power_of_infinity;
  power_below_zero = power_below_zero;
  of_nan = of_nan;
}
