-- Every `f32` above zero is n * 4 ^ h / 4 ^ 98, with an n of 47 or 48 digits.
use Rattle.std.proofs.Common.{◌≡◌, ℕ, zero, suc, ◌+◌, ◌-◌, ◌*◌, ◌/◌, ◌%◌, ◌^◌, ◌<◌, ◌≤◌, T, ℤ, pos, negsuc, false, eqb, ltb, leb, ◌&&◌, sym, refl, ap, inl, inr, lt_of_not-le, mul-le-mul_right, eq-zero-or-pos, arith, ltb→lt, leb→le, pow_mono, pow-add}
use lib.Ieee.{fin, binary32, up, down, size, fits}
use lib.Ieee.Digits.{size-lt, size-le, size_reaches}
use lib.Ieee.Fits.{and_l, and_r}
use Rattle.numbers.specs.Roots.{Scaled}
use Rattle.numbers.proofs.Squares.{four, merge}

-- 24 digits, and a power that the format has
abbrev Within : ℕ → ℤ → Type 0
Within m e = (m < 2 ^ 24) × (down e ≤ 2 ^ 149) × (m * up e < 2 ^ 128 * down e)

within : (m : ℕ) (e : ℤ) → T (fits binary32 (fin false (suc m) e)) → Within (suc m) e
unfolding fits
within m e f =
    let a = eqb (suc m % 2) 1 in
    let b = ltb (suc m) (2 ^ 24) in
    let c = leb (down e) (2 ^ 149) in
    let t = ltb (suc m * up e) (2 ^ 128 * down e) in
    let p = and_l (a && b && c) t f in
    (ltb→lt (suc m) (2 ^ 24) (and_r a b (and_l (a && b) c p)), leb→le (down e) (2 ^ 149) (and_r (a && b) c p), ltb→lt (suc m * up e) (2 ^ 128 * down e) (and_r (a && b && c) t f))

-- 2 ^ e is 2 ^ j / 4 ^ 98
power : (m : ℕ) (e : ℤ) → Within (suc m) e → (j : ℕ) × (47 ≤ j) × (j < 324) × (up e * 4 ^ 98 ≡ 2 ^ j * down e)
power m (pos a) w =
    let l : a < 128 = lt_of_not-le (λ (g : 128 ≤ a). omega (arith, pow_mono g, w.2, mul-le-mul_right {m = 1} {n = suc m} (2 ^ a) (omega arith))) in
    (a + 196, omega arith, omega arith, omega (arith, pow-add 2 a 196))
power m (negsuc a) w =
    let l : a < 149 = lt_of_not-le (λ (g : 149 ≤ a). omega (arith, pow_mono {i = 150} {j = suc a} (omega arith), w.1)) in
    (195 - a, omega arith, omega arith, omega (arith, merge (195 - a) (suc a) 196 0 (omega arith)))

module _ (m j : ℕ) (few : suc m < 2 ^ 24) (J : 47 ≤ j) where
  -- n is suc m with i zeros after it
  abbrev s : ℕ
  s = size (suc m)

  abbrev h : ℕ
  h = (j + s - 47) / 2

  abbrev i : ℕ
  i = j - 2 * h

  some : 0 < s
  some = elim (eq-zero-or-pos s) [ inl z ↦ absurd (omega (arith, rw z at (size-lt (suc m)))) | inr p ↦ p ]

  size_in : s ≤ 24
  size_in = size-le (suc m) 24 few

  low : 2 ^ 46 ≤ suc m * 2 ^ i
  low =
      let p = pow_mono {i = 46} {j = s - 1 + i} (omega (arith, some)) in
      omega (arith, p, pow-add 2 (s - 1) i, mul-le-mul_right (2 ^ i) (size_reaches (suc m) (s - 1) (omega (arith, some))))

  high : suc m * 2 ^ i + 2 ^ 24 ≤ 2 ^ 48
  high = go ((j + s - 47) % 2) (omega (arith, size_in)) (omega arith)
    where
      top : (k : ℕ) → i + s ≡ k → suc (suc m) * 2 ^ i ≤ 2 ^ k
      top k e = omega (arith, merge i s k 0 (omega (arith, e)), mul-le-mul_right (2 ^ i) (size-lt (suc m)))

      go : (b : ℕ) → i + s ≡ 47 + b → b < 2 → suc m * 2 ^ i + 2 ^ 24 ≤ 2 ^ 48
      go zero e B = omega (arith, top 47 e)
      go (suc b) e B = omega (arith, top 48 (omega (arith, e)), pow_mono {i = 24} {j = i} (omega (arith, e, size_in)))

  same : 2 ^ i * 4 ^ h ≡ 2 ^ j
  same = rw (four h, sym (pow-add 2 h h)) (omega (arith, merge i (h + h) j 0 (omega (arith, size_in))))

pub scaled : (m : ℕ) (e : ℤ) → T (fits binary32 (fin false (suc m) e)) → (n : ℕ) × (h : ℕ) × Scaled (fin false (suc m) e) n h × (h < 151)
scaled m e f =
    let w = within m e f in
    let p = power m e w in
    let k = h m p.0 w.0 p.1 in
    let z = i m p.0 w.0 p.1 in (
      suc m * 2 ^ z,
      k,
      record {
        of = (refl, omega (arith, ap (λ (x : ℕ). suc m * x) p.3, ap (λ (x : ℕ). suc m * x * down e) (same m p.0 w.0 p.1)));
        low = low m p.0 w.0 p.1;
        high = high m p.0 w.0 p.1;
      },
      omega (arith, p.2, size_in m p.0 w.0 p.1),
    )
