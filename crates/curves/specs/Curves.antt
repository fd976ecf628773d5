-- Cubic curves.
use Rattle.std.specs.Prelude.{ℕ, zero, suc, ◌+◌, Bool, false, if◌then◌else◌, ◌||◌, List, from_bits, nat_le, slice_index_or, Float}
use Rattle.std.specs.Float.Ieee.{lt, le}
use Rattle.std.specs.Float.{float_with_sign, nan, binary32}
use Rattle.numbers.specs.Arithmetic.{◌⊕◌, ◌⊖◌, ◌⊗◌, ◌⊘◌, one}
use Rattle.numbers.specs.Arithmetic.{zero as zeroᶠ}
use Rattle.path.specs.declared.geometry.Vector.{Vector}
use Rattle.path.specs.Vectors.{vector, sum, difference, multiple, dot_product, length_of, near_by, normal_of}
use Rattle.curves.specs.declared.curve.Curve.{Curve}
use Rattle.curves.specs.declared.curve.Walk.{Walk}
use Rattle.curves.specs.declared.line.SegmentTime.{SegmentTime}

abbrev pub two : Float
two = from_bits binary32 0x4000_0000

abbrev pub three : Float
three = from_bits binary32 0x4040_0000

abbrev pub curve : Vector → Vector → Vector → Vector → Curve
curve a b c d = record { a = a; b = b; c = c; d = d }

-- two thirds of the way
abbrev pub two_thirds : Float → Float → Float
two_thirds x y = x ⊕ two ⊘ three ⊗ (y ⊖ x)

abbrev pub from_quadratic : Vector → Vector → Vector → Curve
from_quadratic a b c = curve a
    (vector (two_thirds a.x b.x) (two_thirds a.y b.y))
    (vector (two_thirds c.x b.x) (two_thirds c.y b.y)) c

-- the points, each times its weight, added up
abbrev pub blend : Curve → Float → Float → Float → Float → Vector
blend k w0 w1 w2 w3 = sum (sum (sum (multiple k.a w0) (multiple k.b w1)) (multiple k.c w2)) (multiple k.d w3)

abbrev pub blended : Curve → List Float → Vector
blended k w = blend k (slice_index_or w 0 nan) (slice_index_or w 1 nan) (slice_index_or w 2 nan) (slice_index_or w 3 nan)

-- the polar form at three times
abbrev pub blossom : Curve → Float → Float → Float → Vector
blossom k p q r =
    let u = one ⊖ p in
    let v = one ⊖ q in
    let w = one ⊖ r in
    blend k (u ⊗ v ⊗ w) (p ⊗ v ⊗ w ⊕ u ⊗ q ⊗ w ⊕ u ⊗ v ⊗ r) (p ⊗ q ⊗ w ⊕ u ⊗ q ⊗ r ⊕ p ⊗ v ⊗ r) (p ⊗ q ⊗ r)

-- the part between two times, by its four polar values
abbrev pub slice_of : Curve → Float → Float → Curve
slice_of k s e = curve (blossom k s s s) (blossom k s s e) (blossom k s e e) (blossom k e e e)

abbrev pub reversed : Curve → Curve
reversed k = curve k.d k.c k.b k.a

abbrev pub evaluated : Curve → Float → Vector
evaluated k t = let u = one ⊖ t in blend k (u ⊗ u ⊗ u) (three ⊗ u ⊗ u ⊗ t) (three ⊗ u ⊗ t ⊗ t) (t ⊗ t ⊗ t)

abbrev pub once : Bool → ℕ
once b = if b then 1 else 0

-- two of the three legs are near
abbrev pub two_legs_near : Curve → Float → Bool
two_legs_near k e = nat_le 2 (once (near_by k.a k.b e) + once (near_by k.b k.c e) + once (near_by k.c k.d e))

abbrev pub size : Float → Float
size x = float_with_sign false x

abbrev pub too_curvy : Curve → Float → Bool
too_curvy k e = lt e (size (two ⊗ k.d.x ⊖ three ⊗ k.c.x ⊕ k.a.x)) || (lt e (size (two ⊗ k.d.y ⊖ three ⊗ k.c.y ⊕ k.a.y))
    || (lt e (size (k.d.x ⊖ three ⊗ k.b.x ⊕ two ⊗ k.a.x)) || lt e (size (k.d.y ⊖ three ⊗ k.b.y ⊕ two ⊗ k.a.y))))

-- a chord of 1/64 in time
abbrev pub next_chord : Curve → Walk → Walk
next_chord k w =
    let t = w.t ⊕ from_bits binary32 0x3C80_0000 in
    let at = evaluated k t in
    record { t = t; at = at; len = w.len ⊕ length_of (difference at w.at) }

unfoldable pub chords : ℕ → Curve → Walk → Walk
chords zero k w = w
chords (suc n) k w = chords n k (next_chord k w)

abbrev pub curve_length : Curve → Float
curve_length k = (chords 65 k (record { t = zeroᶠ; at = k.a; len = zeroᶠ })).len

abbrev pub merge_epsilon : Float
merge_epsilon = from_bits binary32 0x3C23_D70A

-- two unit normals are too far apart: half the root of 2 and a tenth bounds their dot product
abbrev pub turns : Vector → Vector → Bool
turns n m = le (dot_product n m) (from_bits binary32 0x3F4E_9E8D)

abbrev pub needs_split : Curve → Bool
needs_split k = near_by k.b k.c merge_epsilon
    || (turns (normal_of k.a k.b) (normal_of k.b k.c) || turns (normal_of k.b k.c) (normal_of k.c k.d))

abbrev pub chord : Curve → Float
chord k = length_of (difference k.d k.a)

-- along the chord, at most to its end
abbrev pub chord_time : Curve → Float → Float → Float × Float
chord_time k distance t =
    if le distance (chord k) then (distance, t ⊗ (distance ⊘ chord k)) else (chord k, t)

abbrev pub half : Float
half = from_bits binary32 0x3F00_0000

-- the second half adds to the first, where that does not reach the distance
abbrev pub both_halves : Float × Float → Float → Float × Float → Float × Float
both_halves first distance second =
    if lt first.0 distance then (first.0 ⊕ second.0, first.1 ⊕ second.1) else first

unfoldable pub timed : ℕ → Curve → Float → Float → Float → Float × Float
timed zero k distance e t = chord_time k distance t
timed (suc n) k distance e t =
    if too_curvy k e then
    (let first = timed n (slice_of k zeroᶠ half) distance e (t ⊗ half) in
    both_halves first distance (timed n (slice_of k half one) (distance ⊖ first.0) e (t ⊗ half)))
    else chord_time k distance t

abbrev pub curve_time : Curve → Float → Float → SegmentTime
curve_time k distance e = let r = timed 5 k distance e one in record { distance = r.0; time = r.1 }
