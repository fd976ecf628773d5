-- A difference and the one the other way round are of the same size.
use Rattle.std.proofs.Common.{◌≡◌, ℕ, suc, zero, ◌+◌, ◌-◌, ◌*◌, ◌^◌, ◌<◌, Bool, true, false, cond, not, ltb, refl, sym, ap, ◌∙◌, inl, inr, arith, add_comm}
use Rattle.std.proofs.lemmas.Bool.{cases_lt}
use Rattle.std.specs.Float.{float_with_sign}
use borrow.Author.Tests.{le-ltb, lt-ltb}
use lib.Ieee.{Float, Format, binary32, nan, inf, fin, prec, low, emax, up, down, odd, units, round, sum, sub}
use lib.Ieee.Fits.{round_is}

abbrev size : Float → Float
size x = float_with_sign false x

-- ---- the size of what is rounded does not turn on its sign

odd_size : (s t : Bool) (d q k l : ℕ) → size (odd d s q k l) ≡ size (odd d t q k l)
unfolding float_with_sign odd
odd_size s t d zero k l = refl
odd_size s t d (suc q) k l = refl

units_size : (f : Format) (s t : Bool) (q k : ℕ) → size (units f s q k) ≡ size (units f t q k)
unfolding units float_with_sign
units_size f s t q k = go (ltb (q * 2 ^ k) (2 ^ (low f + suc (emax f))))
  where
    go : (b : Bool) → size (cond b (odd (suc (prec f)) s q k (low f)) (inf s)) ≡ size (cond b (odd (suc (prec f)) t q k (low f)) (inf t))
    go true = odd_size s t (suc (prec f)) q k (low f)
    go false = refl

round_size : (f : Format) (s t : Bool) (a c : ℕ) → size (round f s a c) ≡ size (round f t a c)
round_size f s t a c = ap size (round_is f s a c) ∙ units_size f s t _ _ ∙ ap size (sym (round_is f t a c))

-- ---- a sum of two sizes with unlike signs, and with like ones

less : (f : Format) (s : Bool) (a b c : ℕ) → a < b → size (sum f s a (not s) b c) ≡ size (sum f s b (not s) a c)
unfolding sum
less f true a b c l = rw (lt-ltb a b l, le-ltb b a (omega arith)) (round_size f false true (b - a) c)
less f false a b c l = rw (lt-ltb a b l, le-ltb b a (omega arith)) (round_size f true false (b - a) c)

apart : (f : Format) (s : Bool) (a b c : ℕ) → size (sum f s a (not s) b c) ≡ size (sum f s b (not s) a c)
apart f s a b c = elim (cases_lt a b) [
  | inl l ↦ less f s a b c l
  | inr least ↦ elim (cases_lt b a) [
    | inl l ↦ sym (less f s b a c l)
    | inr most ↦
        let same : a ≡ b = omega arith in
        ap (λ k. size (sum f s k (not s) b c)) same ∙ ap (λ k. size (sum f s b (not s) k c)) (sym same)
  ]
]

together : (f : Format) (s : Bool) (a b c : ℕ) → size (sum f s a s b c) ≡ size (sum f (not s) b (not s) a c)
unfolding sum
together f true a b c = rw (add_comm a b) (round_size f true false (b + a) c)
together f false a b c = rw (add_comm a b) (round_size f false true (b + a) c)

turned : (f : Format) (s t : Bool) (a b c : ℕ) → size (sum f s a (not t) b c) ≡ size (sum f t b (not s) a c)
turned f true true a b c = apart f true a b c
turned f false false a b c = apart f false a b c
turned f true false a b c = together f true a b c
turned f false true a b c = together f false a b c

pub size_turned : (x y : Float) → size (sub binary32 x y) ≡ size (sub binary32 y x)
unfolding sub float_with_sign
size_turned nan nan = refl
size_turned nan (inf t) = refl
size_turned nan (fin t n d) = refl
size_turned (inf s) nan = refl
size_turned (inf true) (inf true) = refl
size_turned (inf true) (inf false) = refl
size_turned (inf false) (inf true) = refl
size_turned (inf false) (inf false) = refl
size_turned (inf s) (fin t n d) = refl
size_turned (fin s m e) nan = refl
size_turned (fin s m e) (inf t) = refl
size_turned (fin s m e) (fin t n d) =
    turned binary32 s t (m * up e * down d) (n * up d * down e) (down e * down d)
    ∙ ap (λ c. size (sum binary32 t (n * up d * down e) (not s) (m * up e * down d) c)) {x = down e * down d} {y = down d * down e} (omega arith)
