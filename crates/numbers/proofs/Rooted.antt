-- The root that `Floats.sqrt` rounds is as near as `NearestRoot` says, and no other `f32` is.
use Rattle.std.proofs.Common.{◌≡◌, ℕ, zero, suc, ◌+◌, ◌-◌, ◌*◌, ◌/◌, ◌^◌, ◌<◌, ◌≤◌, true, false, T, ℤ, sym, refl, ap, ◌∙◌, subst, mul-le-mul_right, mul_assoc, div-lt_iff_lt-mul, lt_of_mul-lt-mul_right, mul-lt-mul_of_pos_right, mul-pos, le-div_iff_mul-le, mul_right_comm, mul-div_cancel, arith, ltb→lt, pow_pos, pow_mono, pow-add}
use lib.Ieee.{Float, nan, inf, fin, binary32, up, down, size, round, root_below, root_twice, of_bits, fits}
use lib.Ieee.Bits.{of_bits-to_bits}
use lib.Ieee.Exact.{HasValue}
use lib.Ieee.Fits.{down_pos, and_r, sqrt-fits}
use lib.Ieee.Nearest.{closest}
use lib.Ieee.Order.{drop}
use lib.Ieee.Scale.{grid, round_val}
use Rattle.std.proofs.lemmas.Float.{T_from_true}
use Rattle.std.specs.Float.{sqrt}
use Rattle.numbers.specs.Roots.{Nearest, Scaled, RootBetween, NearestRoot}
use Rattle.numbers.proofs.Squares.{twice_above, twice_below, twice_from, merge, four, size_is, closest_is, nearest_of, nearest_digits}
use Rattle.numbers.proofs.Patterns.{zero_power, bits_of_value}
use Rattle.numbers.proofs.Scales.{scaled}

-- ---- two values of the format that are a steps of the smallest size are one

abbrev Steps : Float → ℕ → Type 0
Steps x a = HasValue x false a (2 ^ 149)

same_steps : (x y : Float) (a : ℕ) → T (fits binary32 x) → T (fits binary32 y) → Steps x a → Steps y a → x ≡ y
same_steps x y a f g h k =
    sym (of_bits-to_bits binary32 x f) ∙ ap (of_bits binary32) (bits_of_value x false a h ∙ sym (bits_of_value y false a k)) ∙ of_bits-to_bits binary32 y g

-- ---- t / c rounded, where it lies between q - 1/2 and q + 1/2 of the unit 2 * w; t is twice a root

module _ (t c w h q : ℕ) (C : 0 < c) (W : 0 < w) (unit : c * 2 ^ (h + 51) ≡ w * 2 ^ 151)
    (over : 2 * ((2 * q - 1) * w) < t) (under : t < 2 * ((2 * q + 1) * w)) (from : 2 * (2 ^ 24 * w) ≤ t) (digits : q < 2 ^ 24) where
  more : (k : ℕ) → 2 ^ (h + 51 + k) * c ≡ w * 2 ^ 151 * 2 ^ k
  more k = ap (λ (x : ℕ). x * c) (pow-add 2 (h + 51) k) ∙ omega (arith, ap (λ (x : ℕ). x * 2 ^ k) unit)

  room : (2 * q + 1) * w ≤ 2 ^ 25 * w
  room = let l : 2 * q + 1 ≤ 2 ^ 25 = omega arith in mul-le-mul_right w l

  size_of : size (t * 2 ^ 149 / c) ≡ h + 51 + 23 + 1
  size_of =
      size_is (t * 2 ^ 149 / c) (h + 51 + 23)
      ((le-div_iff_mul-le C).1 (omega (arith, more 23)))
      ((div-lt_iff_lt-mul C).1 (omega (arith, room, more 24, ap (λ (x : ℕ). 2 ^ x * c) {x = h + 51 + 23 + 1} {y = h + 51 + 24} (omega arith))))

  kept_is : closest (t * 2 ^ 149) (c * 2 ^ (h + 51)) ≡ q
  kept_is = closest_is (t * 2 ^ 149) (c * 2 ^ (h + 51)) q (mul-pos C (pow_pos (h + 51)))
      (rw unit (omega arith))
      (rw unit (omega arith))

  grid_is : grid binary32 t c ≡ q * 2 ^ (h + 51)
  grid_is =
      let d : drop 24 (t * 2 ^ 149) c ≡ h + 51 = omega (arith, size_of) in
      ap (λ (k : ℕ). closest (t * 2 ^ 149) (c * 2 ^ k) * 2 ^ k) d ∙ ap (λ (k : ℕ). k * 2 ^ (h + 51)) kept_is

-- ---- the root of x = n * 4 ^ h / 4 ^ 98

regroup : (n a b : ℕ) → n * (a * a) * (4 * (b * b)) ≡ 4 * n * (a * b * (a * b))
regroup n a b = omega arith

radicand : (x d n h : ℕ) → 0 < d → x * 4 ^ 98 ≡ n * 4 ^ h * d → x * 2 ^ 4542 / d ≡ 4 * n * (2 ^ (h + 2172) * 2 ^ (h + 2172))
radicand x d n h D e =
    ap (λ (k : ℕ). k / d) (sym (mul_assoc x (4 ^ 98) (2 ^ 4346)) ∙ ap (λ (k : ℕ). k * 2 ^ 4346) e ∙ mul_right_comm (n * 4 ^ h) d (2 ^ 4346))
    ∙ mul-div_cancel (n * 4 ^ h * 2 ^ 4346) D
    ∙ ap (λ (k : ℕ). n * k * 2 ^ 4346) (four h)
    ∙ regroup n (2 ^ h) (2 ^ 2172)
    ∙ ap (λ (k : ℕ). 4 * n * (k * k)) (sym (pow-add 2 h 2172))

module _ (n h q : ℕ) (low : 2 ^ 46 ≤ n) (near : Nearest n q) (small : q < 2 ^ 24) (fine : q * 2 ^ (h + 51) < 2 ^ 277) where
  abbrev w : ℕ
  w = 2 ^ (h + 2172)

  abbrev v : ℕ
  v = 4 * n * (w * w)

  W : 0 < w
  W = pow_pos (h + 2172)

  above : 2 * ((2 * q - 1) * w) < root_twice v
  above = twice_above v ((2 * q - 1) * w) (omega (arith, mul-lt-mul_of_pos_right near.above (mul-pos W W)))

  below : root_twice v < 2 * ((2 * q + 1) * w)
  below = twice_below v ((2 * q + 1) * w) (omega (arith, mul-lt-mul_of_pos_right near.below (mul-pos W W)))

  at_least : 2 * (2 ^ 24 * w) ≤ root_twice v
  at_least = twice_from v (2 ^ 24 * w) (omega (arith, mul-le-mul_right (w * w) low))

  rounded : Steps (round binary32 false (root_twice v) (2 ^ 2272)) (q * 2 ^ (h + 51))
  rounded =
      let e = grid_is (root_twice v) (2 ^ 2272) w h q (pow_pos 2272) W (merge 2272 (h + 51) (h + 2172) 151 (omega arith)) above below at_least small in
      subst (λ (k : ℕ). Steps (round binary32 false (root_twice v) (2 ^ 2272)) k) e
      (round_val binary32 (root_twice v) (2 ^ 2272) (subst (λ (k : ℕ). k < 2 ^ 277) (sym e) fine))

-- ---- the answer, in the format's smallest steps

in_units : (x : Float) (q h : ℕ) → Steps x (q * 2 ^ (h + 51)) → HasValue x false (q * 2 ^ h) (2 ^ 98)
in_units nan q h v = v
in_units (inf s) q h v = v
in_units (fin s m e) q h v = (v.0, omega (arith, rw (pow-add 2 h 51) at v.1))

in_steps : (x : Float) (q h : ℕ) → HasValue x false (q * 2 ^ h) (2 ^ 98) → Steps x (q * 2 ^ (h + 51))
in_steps nan q h v = v
in_steps (inf s) q h v = v
in_steps (fin s m e) q h v = (v.0, rw (pow-add 2 h 51) (omega (arith, v.1)))

under_top : (m : ℕ) (e : ℤ) (a : ℕ) → m * up e < 2 ^ 128 * down e → m * up e * 2 ^ 149 ≡ a * down e → a < 2 ^ 277
under_top m e a l h = lt_of_mul-lt-mul_right (down e) (omega arith)

steps_fit : (x : Float) (a : ℕ) → T (fits binary32 x) → Steps x a → a < 2 ^ 277
unfolding fits
steps_fit nan a f h = absurd h
steps_fit (inf s) a f h = absurd h
steps_fit (fin s zero e) a f h = under_top zero e a (omega (arith, down_pos e)) h.1
steps_fit (fin s (suc m) e) a f h = under_top (suc m) e a (ltb→lt _ _ (and_r _ _ f)) h.1

-- the root's own
root_steps : (m : ℕ) (e : ℤ) (n h q : ℕ) → Scaled (fin false (suc m) e) n h → Nearest n q → q < 2 ^ 24 → q * 2 ^ (h + 51) < 2 ^ 277 → Steps (sqrt binary32 (fin false (suc m) e)) (q * 2 ^ (h + 51))
unfolding sqrt
root_steps m e n h q x near small fine =
    subst (λ (v : ℕ). Steps (round binary32 false (root_twice v) (2 ^ 2272)) (q * 2 ^ (h + 51))) (sym (radicand (suc m * up e) (down e) n h (down_pos e) x.of.1)) (rounded n h q x.low near small fine)

-- ---- the root is near, and nothing else is

between : (m : ℕ) (e : ℤ) → T (fits binary32 (fin false (suc m) e)) → RootBetween (fin false (suc m) e) (sqrt binary32 (fin false (suc m) e))
between m e f =
    let x = scaled m e f in
    let n = x.0 in
    let h = x.1 in
    let q = nearest_of n (omega (arith, x.2.low)) in
    let d = nearest_digits n q.0 q.1 x.2.low x.2.high in
    let fine : q.0 * 2 ^ (h + 51) < 2 ^ 277 = omega (arith, mul-le-mul_right {m = q.0} {n = 2 ^ 24} (2 ^ (h + 51)) (omega (arith, d)), pow_mono {i = h + 51} {j = 202} (omega (arith, x.3))) in
    record {
      n = n;
      h = h;
      q = q.0;
      scaled = x.2;
      near = q.1;
      digits = d;
      is = in_units (sqrt binary32 (fin false (suc m) e)) q.0 h (root_steps m e n h q.0 x.2 q.1 d.1 fine);
    }

near : (x : Float) → T (fits binary32 x) → NearestRoot x (sqrt binary32 x)
unfolding sqrt
near nan f = refl
near (inf false) f = refl
near (inf true) f = refl
near (fin s zero e) f = ap (λ (k : ℤ). fin s 0 k) (sym (zero_power s e f))
near (fin true (suc m) e) f = refl
near (fin false (suc m) e) f = between m e f

pub one_root : (x r : Float) → T (fits binary32 r) → NearestRoot x r → r ≡ sqrt binary32 x
unfolding sqrt
one_root nan r f h = h
one_root (inf false) r f h = h
one_root (inf true) r f h = h
one_root (fin s zero e) r f h = h ∙ ap (λ (k : ℤ). fin s 0 k) (zero_power s e (subst (λ (x : Float). T (fits binary32 x)) h f))
one_root (fin true (suc m) e) r f h = h
one_root (fin false (suc m) e) r f b =
    let k = in_steps r b.q b.h b.is in
    let fine = steps_fit r (b.q * 2 ^ (b.h + 51)) f k in
    same_steps r (sqrt binary32 (fin false (suc m) e)) (b.q * 2 ^ (b.h + 51)) f (sqrt-fits binary32 (fin false (suc m) e)) k (root_steps m e b.n b.h b.q b.scaled b.near b.digits.1 fine)

pub root_is_near : (x r : Float) → fits binary32 x ≡ true → r ≡ sqrt binary32 x → NearestRoot x r
root_is_near x r f e = rw e (near x (T_from_true _ f))

-- the definition computes
root_of_two : sqrt binary32 (of_bits binary32 0x4000_0000) ≡ of_bits binary32 0x3fb5_04f3
unfolding sqrt of_bits root_twice root_below round
root_of_two = refl
