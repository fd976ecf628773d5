-- Whole numbers: the part of a root before the point, and a fraction's nearest whole number.
use Rattle.std.proofs.Common.{◌≡◌, ℕ, zero, suc, ◌+◌, ◌-◌, ◌*◌, ◌/◌, ◌%◌, ◌^◌, ◌<◌, ◌≤◌, Bool, true, false, cond, not, T, eqb, sym, refl, ap, ◌∙◌, subst, lt_of_lt_of_le, mod-lt, mul-le-mul, lt_of_mul-lt-mul_right, lt_of_not-le, div-add-mod', not-le_of_lt, arith, eqb→eq, leb→le, pow_mono, pow-add, eqb-true}
use Prim.Native.Nat.{compare, Ordering}
use lib.Dec.{is_le, compare_is_eq, nleb→lt}
use lib.Ieee.{size, nearest, root_below, root_twice}
use lib.Ieee.Digits.{size-lt, size-le}
use lib.Ieee.Nearest.{closest}
use lib.Ieee.Root.{Root, whole_part}
use Rattle.std.proofs.lemmas.Nat.{mul-pow}
use Rattle.numbers.specs.Roots.{Nearest}

pub lt_of_squares : (a b : ℕ) → a * a < b * b → a < b
lt_of_squares a b h = lt_of_not-le (λ (g : b ≤ a). omega (arith, mul-le-mul g g))

-- ---- twice the root of v, which is odd where the root is not whole

module _ (v : ℕ) where
  abbrev s : ℕ
  s = root_below (size v) v

  is_root : Root s v
  is_root = whole_part v

  pub twice_above : (w : ℕ) → w * w < v → 2 * w < root_twice v
  unfolding root_twice
  twice_above w h = go (eqb (s * s) v) (eqb-true (s * s) v)
    where
      go : (b : Bool) → (b ≡ true → s * s ≡ v) → 2 * w < 2 * s + cond b 0 1
      go false e = omega (arith, lt_of_squares w (s + 1) (omega (arith, is_root)))
      go true e = omega (arith, lt_of_squares w s (omega (arith, e refl)))

  pub twice_below : (w : ℕ) → v < w * w → root_twice v < 2 * w
  unfolding root_twice
  twice_below w h = go (eqb (s * s) v)
    where
      go : (b : Bool) → 2 * s + cond b 0 1 < 2 * w
      go false = omega (arith, lt_of_squares s w (omega (arith, is_root)))
      go true = omega (arith, lt_of_squares s w (omega (arith, is_root)))

  pub twice_from : (w : ℕ) → w * w ≤ v → 2 * w ≤ root_twice v
  unfolding root_twice
  twice_from w h = go (eqb (s * s) v)
    where
      go : (b : Bool) → 2 * w ≤ 2 * s + cond b 0 1
      go false = omega (arith, lt_of_squares w (s + 1) (omega (arith, is_root)))
      go true = omega (arith, lt_of_squares w (s + 1) (omega (arith, is_root)))

-- ---- powers and digits

pub merge : (a b c d : ℕ) → a + b ≡ c + d → 2 ^ a * 2 ^ b ≡ 2 ^ c * 2 ^ d
merge a b c d e = sym (pow-add 2 a b) ∙ ap (λ (k : ℕ). 2 ^ k) e ∙ pow-add 2 c d

pub four : (h : ℕ) → 4 ^ h ≡ 2 ^ h * 2 ^ h
four h = mul-pow 2 2 h

pub size_is : (n j : ℕ) → 2 ^ j ≤ n → n < 2 ^ (j + 1) → size n ≡ j + 1
size_is n j lo hi =
    let more : j < size n = lt_of_not-le (λ (g : size n ≤ j). not-le_of_lt (lt_of_lt_of_le (size-lt n) (pow_mono g)) lo) in
    omega (arith, size-le n (j + 1) hi)

-- ---- q is the whole number nearest to a / b, and a / b is not half way

less : (x y b : ℕ) → x * b < y * b → x < y
less x y b h = lt_of_mul-lt-mul_right b h

-- a is d * b + r
nearest_is : (a b q d r : ℕ) (o : Ordering) → r < b → d * b + r ≡ a → (2 * q - 1) * b < 2 * a → 2 * a < (2 * q + 1) * b
    → (T (is_le o) → r * 2 ≤ b) → (T (not (is_le o)) → b < r * 2) → (T (compare_is_eq o) → r * 2 ≡ b) → nearest d o ≡ q
nearest_is a b q d r Ordering.lt R e x y le gt eq =
    let p = le tt in
    omega (arith, less (2 * q - 1) (2 * d + 1) b (omega arith), less (2 * d) (2 * q + 1) b (omega arith))
nearest_is a b q d r Ordering.eq R e x y le gt eq =
    let p = eq tt in
    omega (arith, less (2 * q - 1) (2 * d + 1) b (omega arith), less (2 * d + 1) (2 * q + 1) b (omega arith))
nearest_is a b q d r Ordering.gt R e x y le gt eq =
    let p = gt tt in
    omega (arith, less (2 * q - 1) (2 * d + 2) b (omega arith), less (2 * d + 1) (2 * q + 1) b (omega arith))

pub closest_is : (a b q : ℕ) → 0 < b → (2 * q - 1) * b < 2 * a → 2 * a < (2 * q + 1) * b → closest a b ≡ q
closest_is a b q B x y =
    nearest_is a b q (a / b) (a % b) (compare (a % b * 2) b) (mod-lt a B) (div-add-mod' a b) x y (leb→le (a % b * 2) b) (nleb→lt (a % b * 2) b) (eqb→eq (a % b * 2) b)

-- ---- the whole number nearest to a root

-- from k, the whole part of the root of 4 * n
half_up : (n k : ℕ) → 0 < n → Root k (4 * n) → (q : ℕ) × Nearest n q
half_up n k N r = go (k / 2) (k % 2) (omega arith) (omega arith)
  where
    at : (p : ℕ) → (2 * p + 1) * (2 * p + 1) < 4 * n → 4 * n < (2 * p + 3) * (2 * p + 3) → (q : ℕ) × Nearest n q
    at p a b = (suc p, record { above = subst (λ (i : ℕ). i * i < 4 * n) {x = 2 * p + 1} {y = 2 * suc p - 1} (omega arith) a; below = omega (arith, b) })

    go : (p b : ℕ) → 2 * p + b ≡ k → b < 2 → (q : ℕ) × Nearest n q
    go zero zero e B = absurd (omega (arith, rw (sym e) at r))
    go (suc p) zero e B = let t = rw (sym e) at r in at p (omega (arith, t)) (omega (arith, t))
    go p (suc b) e B =
        let t : Root (2 * p + 1) (4 * n) = subst (λ (i : ℕ). Root i (4 * n)) {y = 2 * p + 1} (omega arith) r in
        at p (omega (arith, t)) (omega (arith, t))

pub nearest_of : (n : ℕ) → 0 < n → (q : ℕ) × Nearest n q
nearest_of n N = half_up n (root_below (size (4 * n)) (4 * n)) N (whole_part (4 * n))

pub nearest_digits : (n q : ℕ) → Nearest n q → 2 ^ 46 ≤ n → n + 2 ^ 24 ≤ 2 ^ 48 → (2 ^ 23 ≤ q) × (q < 2 ^ 24)
nearest_digits n q near low high = (
  omega (arith, lt_of_squares (2 ^ 24) (2 * q + 1) (omega (arith, near.below))),
  omega (arith, lt_of_squares (2 * q - 1) (2 ^ 25 - 1) (omega (arith, near.above))),
)
