-- Slices between cuts.
use Rattle.std.proofs.Common.{◌≡◌, ◌+◌, ◌≢◌, List, [], ◌∷◌, ◌++◌, length, ap, refl, arith, length-append}
use lib.Ieee.{Float}
use Rattle.numbers.specs.Arithmetic.{zero, one}
use Rattle.curves.specs.declared.curve.Curve.{Curve}
use Rattle.curves.specs.Curves.{slice_of}
use Rattle.cursor.specs.Cuts.{slices, between}

pub slices_long : (k : Curve) (last : Float) (ts : List Float) → length (slices k last ts) ≡ length ts + 1
slices_long k last [] = refl
slices_long k last (t ∷ ts) = omega (arith, slices_long k t ts)

-- one slice so far: there is no cut
pub between_none : (k : Curve) (last : Float) (ts : List Float) (done : List Curve) → length done ≡ 0
    → done ++ (slice_of k last one ∷ []) ≡ slices k zero ts → done ++ (k ∷ []) ≡ between k ts
between_none k last [] [] h e = refl
between_none k last ts (j ∷ done) h e = absurd (omega arith)
between_none k last (t ∷ ts) [] h e = absurd (omega (arith, slices_long k t ts, ap length e))

-- more than one: these are the slices
pub between_some : (k : Curve) (last : Float) (ts : List Float) (done : List Curve) → length done ≢ 0
    → done ++ (slice_of k last one ∷ []) ≡ slices k zero ts → done ++ (slice_of k last one ∷ []) ≡ between k ts
between_some k last [] [] h e = absurd (h refl)
between_some k last [] (j ∷ done) h e = absurd (omega (arith, simp length-append at (ap length e)))
between_some k last (t ∷ ts) done h e = e
