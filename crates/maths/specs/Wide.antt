-- Sums, products and polynomials of f64.
use Rattle.std.specs.Prelude.{ℕ, from_bits, Float}
use Rattle.std.specs.Float.{binary64}
use Rattle.std.specs.Float.Ieee.{add, sub, mul, div}

infixl 6 ◌⊕◌
infixl 6 ◌⊖◌
infixl 7 ◌⊗◌
infixl 7 ◌⊘◌
abbrev pub ◌⊕◌ : Float → Float → Float
x ⊕ y = add binary64 x y

abbrev pub ◌⊖◌ : Float → Float → Float
x ⊖ y = sub binary64 x y

abbrev pub ◌⊗◌ : Float → Float → Float
x ⊗ y = mul binary64 x y

abbrev pub ◌⊘◌ : Float → Float → Float
x ⊘ y = div binary64 x y

-- a constant by its bits
abbrev pub wide : ℕ → Float
wide b = from_bits binary64 b

-- a + b z + c z² + d z³
abbrev pub cubic : Float → Float → Float → Float → Float → Float
cubic a b c d z = a ⊕ z ⊗ b ⊕ z ⊗ z ⊗ (c ⊕ z ⊗ d)

-- a + b z + c z²
abbrev pub quadratic : Float → Float → Float → Float → Float
quadratic a b c z = a ⊕ z ⊗ b ⊕ z ⊗ z ⊗ c

-- seven terms, by the first four and by the last three over z⁴
abbrev pub sextic : Float → Float → Float → Float
sextic first last z = first ⊕ z ⊗ z ⊗ (z ⊗ z) ⊗ last
