-- Vectors, step by step in f32.
use Rattle.std.specs.Prelude.{Bool, false, if◌then◌else◌, ◌&&◌, from_bits, Float}
use Rattle.std.specs.Float.Ieee.{neg, lt, eq}
use Rattle.std.specs.Float.{float_with_sign, binary32}
use Rattle.numbers.specs.Arithmetic.{◌⊕◌, ◌⊖◌, ◌⊗◌, ◌⊘◌, root, zero, one}
use Rattle.path.specs.declared.geometry.Vector.{Vector}

abbrev pub vector : Float → Float → Vector
vector x y = record { x = x; y = y }

abbrev pub sum : Vector → Vector → Vector
sum v w = vector (v.x ⊕ w.x) (v.y ⊕ w.y)

abbrev pub difference : Vector → Vector → Vector
difference v w = vector (v.x ⊖ w.x) (v.y ⊖ w.y)

abbrev pub multiple : Vector → Float → Vector
multiple v k = vector (v.x ⊗ k) (v.y ⊗ k)

abbrev pub dot_product : Vector → Vector → Float
dot_product v w = (v.x ⊗ w.x) ⊕ (v.y ⊗ w.y)

abbrev pub length_of : Vector → Float
length_of v = root (dot_product v v)

-- divided by its length, or zero where that is 0
abbrev pub normalized : Vector → Vector
normalized v = if eq (length_of v) zero then vector zero zero else multiple v (one ⊘ length_of v)

-- both differences are below a bound
abbrev pub near_by : Vector → Vector → Float → Bool
near_by v w bound = lt (float_with_sign false (v.x ⊖ w.x)) bound && lt (float_with_sign false (v.y ⊖ w.y)) bound

-- the bound 2^-23
abbrev pub near : Vector → Vector → Bool
near v w = near_by v w (from_bits binary32 0x3400_0000)

-- a quarter turn from the way from start to end, of length 1
abbrev pub normal_of : Vector → Vector → Vector
normal_of start end = normalized (vector (end.y ⊖ start.y) (neg (end.x ⊖ start.x)))
