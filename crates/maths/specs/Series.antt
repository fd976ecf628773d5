-- The functions of a series host: each is worked out in f64 and rounded once to f32.
use Rattle.std.specs.Prelude.{◌≡◌, ℕ, suc, Bool, true, false, ℤ, pos, from_bits, Float}
use Rattle.std.specs.Float.{round_to_format, float_zero, float_one, nan, inf, fin, binary32}
use Rattle.maths.specs.declared.host.Function.{Function}
use Rattle.maths.specs.Functions.{Functions, apply}
use Rattle.maths.specs.Circle.{wide_sine, wide_cosine, wide_tangent}
use Rattle.maths.specs.Arcs.{wide_arc, kept}
use Rattle.maths.specs.Powers.{wide_power}

abbrev pub narrow : Float → Float
narrow y = round_to_format binary32 y

abbrev pub series_sine : Float → Float
series_sine x = narrow (wide_sine x)

abbrev pub series_cosine : Float → Float
series_cosine x = narrow (wide_cosine x)

abbrev pub series_tangent : Float → Float
series_tangent x = narrow (wide_tangent x)

abbrev pub series_arc : Float → Float
series_arc x = kept (narrow (wide_arc x))

abbrev pub series_power : Float → Float
series_power x = narrow (wide_power x)

abbrev pub series : Functions
series = record { sine = series_sine; cosine = series_cosine; arc_cosine = series_arc; tangent = series_tangent; power = series_power }

abbrev pub minus_zero : Float
minus_zero = fin true 0 (pos 0)

-- answers at special arguments
pub record Special : Type 0 where
  pub cosine_of_zero : series.cosine float_zero ≡ float_one
  pub sine_of_zero : series.sine float_zero ≡ float_zero
  pub sine_of_minus_zero : series.sine minus_zero ≡ minus_zero
  pub sine_of_infinity : (s : Bool) → series.sine (inf s) ≡ nan
  pub cosine_of_infinity : (s : Bool) → series.cosine (inf s) ≡ nan
  pub tangent_of_infinity : (s : Bool) → series.tangent (inf s) ≡ nan
  pub arc_of_one : series.arc_cosine float_one ≡ float_zero
  pub arc_of_minus_one : series.arc_cosine (fin true 1 (pos 0)) ≡ from_bits binary32 0x4049_0fdb
  pub arc_of_infinity : (s : Bool) → series.arc_cosine (inf s) ≡ nan
  pub power_of_zero : (s : Bool) → series.power (fin s 0 (pos 0)) ≡ float_zero
  pub power_of_infinity : (s : Bool) → series.power (inf s) ≡ inf false
  pub power_below_zero : (m : ℕ) (e : ℤ) → series.power (fin true (suc m) e) ≡ nan
  pub of_nan : (f : Function) → apply series f nan ≡ nan
