-- Cuts rise where the roots do.
use Rattle.std.proofs.Common.{T, List, [], ◌∷◌}
use Rattle.std.specs.List.{All}
use Rattle.std.specs.Float.{◌<ᶠ◌}
use lib.Ieee.{Float}
use Rattle.std.proofs.lemmas.Bool.{cond_both}
use Rattle.std.proofs.lemmas.Float.{T_from_true}
use Rattle.std.proofs.lemmas.List.Elements.{All-nil, All-cons}
use Rattle.std.proofs.lemmas.List.Kept.{AllPairs-filter}
use Rattle.maths.specs.Functions.{Functions}
use Rattle.curves.specs.declared.curve.Curve.{Curve}
use Rattle.curves.specs.Bends.{bend, bends}
use Rattle.curves.specs.Roots.{reduced}
use Rattle.curves.proofs.Rising.{roots_rise}
use Rattle.cursor.specs.Cuts.{inside, all_inside, CutsRise}

pub kept_inside : (ts : List Float) → All (λ t. T (inside t)) (all_inside ts)
kept_inside [] = All-nil _
kept_inside (t ∷ ts) = cond_both (inside t) (t ∷ all_inside ts) (all_inside ts) (λ (xs : List Float). All (λ x. T (inside x)) xs)
    (λ e. All-cons (λ x. T (inside x)) t (all_inside ts) (T_from_true _ e) (kept_inside ts))
    (λ e. kept_inside ts)

pub cuts_rise : (F : Functions) (k : Curve) → CutsRise (bends F k)
cuts_rise F k = λ numbers. (
  AllPairs-filter ◌<ᶠ◌ inside (bends F k).items (roots_rise F (reduced (bend k)) numbers).0,
  kept_inside (bends F k).items,
)
