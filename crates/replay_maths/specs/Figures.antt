-- What comes of replaying a table's rows through functions.
use Rattle.std.specs.Prelude.{ℕ, ◌+◌, ◌-◌, ◌^◌, min, max, Bool, true, false, cond, not, ◌&&◌, ◌||◌, List, [], ◌∷◌, ◌==◌, from_bits, Float}
use Rattle.std.specs.Float.Ieee.{le}
use Rattle.std.specs.Float.{float_with_sign, binary32, binary64}
use Rattle.maths.specs.declared.host.Function.{Function}
use Rattle.maths.specs.declared.host.Function.TheVariants.{Sine, Cosine, ArcCosine, Tangent, Power}
use Rattle.maths.specs.declared.table.Row.{Row}
use Rattle.maths.specs.Functions.{Functions, apply, numbered}
use Rattle.replay_maths.specs.declared.figures.Figures.{Figures}
use Rattle.replay_maths.specs.Steps.{steps, same, apart, close}

-- the stated range goes as far as this both ways: 8 for sine and cosine, 1 for the others
abbrev pub reach : Function → Float
reach Sine = from_bits binary32 0x4100_0000
reach Cosine = from_bits binary32 0x4100_0000
reach ArcCosine = from_bits binary32 0x3f80_0000
reach Tangent = from_bits binary32 0x3f80_0000
reach Power = from_bits binary32 0x3f80_0000

-- how far an answer may lie from the stated one there: 2 ^ -16 for sine and cosine, 2 ^ -12 for arc cosine and tangent, 2 ^ -20 for the power
abbrev pub limit : Function → Float
limit Sine = from_bits binary64 0x3ef0_0000_0000_0000
limit Cosine = from_bits binary64 0x3ef0_0000_0000_0000
limit ArcCosine = from_bits binary64 0x3f30_0000_0000_0000
limit Tangent = from_bits binary64 0x3f30_0000_0000_0000
limit Power = from_bits binary64 0x3eb0_0000_0000_0000

abbrev pub in_reach : Function → Float → Bool
in_reach f x = le (float_with_sign false x) (reach f)

abbrev pub no_figures : Figures
no_figures = record { rows = 0; equal = 0; steps = 0; apart = 0; kept = true }

-- one more where b holds; a count stops at the greatest u64
abbrev pub one_more : ℕ → Bool → ℕ
one_more n b = cond b (min (n + 1) (2 ^ 64 - 1)) n

-- with one answer more, to the argument x, where y was expected
abbrev pub counted : Figures → Function → Float → Float → Float → Figures
counted g f x y answer = record {
  rows = one_more g.rows true;
  equal = one_more g.equal (same y answer);
  steps = max g.steps (steps y answer);
  apart = cond (in_reach f x) (max g.apart (apart y answer)) g.apart;
  kept = g.kept && (not (in_reach f x) || close y answer (limit f));
}

-- rows of other functions are passed over
abbrev pub with_row : Functions → Function → Row → Figures → Figures
with_row fs f r g =
    cond (r.function == numbered f) (counted g f (from_bits binary32 r.argument) (from_bits binary32 r.answer) (apply fs f (from_bits binary32 r.argument))) g

-- a step for each row, in their order
abbrev pub over : {S : Type 0} → (Row → S → S) → List Row → S → S
over step [] s = s
over step (r ∷ rs) s = over step rs (step r s)

abbrev pub replayed : Functions → Function → List Row → Figures → Figures
replayed fs f rs g = over (with_row fs f) rs g

-- a host that was asked what a row asks, if it is a row of the function
abbrev pub row_asked : {S : Type 0} → (S → Function → Float → S) → Function → Row → S → S
row_asked asked f r s = cond (r.function == numbered f) (asked s f (from_bits binary32 r.argument)) s
