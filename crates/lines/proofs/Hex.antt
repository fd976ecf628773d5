-- What `{:08X}` writes of a number of 32 bits.
use Rattle.std.proofs.Common.{◌≡◌, ℕ, zero, suc, ◌+◌, ◌-◌, ◌*◌, ◌/◌, ◌^◌, ◌<◌, ◌≤◌, false, true, List, [], ◌∷◌, ◌++◌, length, replicate, refl, sym, ap, ◌∙◌, inl, inr, append-nil, arith}
use Rattle.std.proofs.Math.Nat.{div-div-eq-div-mul}
use Rattle.std.proofs.lemmas.Bool.{cases_lt, ne_eqb}
use Rattle.std.specs.Fmt.{digits, digits_onto, padded_integral, format_spec, char_count}
use Rattle.lines.specs.Text.{digit, hex}

-- the last k digits of n before a row
abbrev onto : ℕ → ℕ → List ℕ → List ℕ
onto zero n row = row
onto (suc k) n row = onto k (n / 16) (digit n ∷ row)

-- 16 ^ k
abbrev bound : ℕ → ℕ
bound zero = 1
bound (suc k) = 16 * bound k

zero_through : (k : ℕ) (row : List ℕ) → 48 ∷ (replicate k 48 ++ row) ≡ replicate k 48 ++ (48 ∷ row)
zero_through zero row = refl
zero_through (suc k) row = ap (λ (l : List ℕ). 48 ∷ l) (zero_through k row)

zeros : (k : ℕ) (row : List ℕ) → replicate k 48 ++ row ≡ onto k 0 row
zeros zero row = refl
zeros (suc k) row = zero_through k row ∙ zeros k (48 ∷ row)

last : (i n : ℕ) (row : List ℕ) → n / 16 ≡ 0 → digits_onto (suc i) 16 true n row ≡ digit n ∷ row
last i n row e = rw e refl

more : (i n : ℕ) (row : List ℕ) → (n / 16 ≡ 0 → ⊥) → digits_onto (suc i) 16 true n row ≡ digits_onto i 16 true (n / 16) (digit n ∷ row)
more i n row ne = rw (ne_eqb (n / 16) 0 ne) refl

-- digits with as many zeros before them as they are short of a width
abbrev filled : ℕ → List ℕ → List ℕ
filled width ds = replicate (width - length ds) 48 ++ ds

at_last : (k j width n : ℕ) (row : List ℕ) → n / 16 ≡ 0 → width ≡ suc k + length row → filled width (digits_onto (suc j) 16 true n row) ≡ onto (suc k) n row
at_last k j width n row none wide =
    ap (filled width) (last j n row none)
    ∙ ap (λ (c : ℕ). replicate c 48 ++ (digit n ∷ row)) {x = width - suc (length row)} {y = k} (omega arith)
    ∙ zeros k (digit n ∷ row) ∙ ap (λ (q : ℕ). onto k q (digit n ∷ row)) (sym none)

fills : (k i width n : ℕ) (row : List ℕ) → k ≤ i → n < bound (suc k) → width ≡ suc k + length row → filled width (digits_onto (suc i) 16 true n row) ≡ onto (suc k) n row
fills zero i width n row room small wide = at_last 0 i width n row (omega arith) wide
fills (suc k) zero width n row room small wide = absurd (omega arith)
fills (suc k) (suc i) width n row room small wide = elim (cases_lt 0 (n / 16)) [
  | inl some ↦ ap (filled width) (more (suc i) n row (λ e. omega arith)) ∙ fills k i width (n / 16) (digit n ∷ row) (omega arith) (omega arith) (omega arith)
  | inr none ↦ at_last (suc k) (suc i) width n row (omega arith) wide
]

same_digits : {a b c d e g a' b' c' d' e' g' : ℕ} (h n : ℕ) → a ≡ a' → b ≡ b' → c ≡ c' → d ≡ d' → e ≡ e' → g ≡ g'
    → digit a ∷ digit b ∷ digit c ∷ digit d ∷ digit e ∷ digit g ∷ digit h ∷ digit n ∷ [] ≡ digit a' ∷ digit b' ∷ digit c' ∷ digit d' ∷ digit e' ∷ digit g' ∷ digit h ∷ digit n ∷ []
same_digits h n ea eb ec ed ee eg = rw (ea, eb, ec, ed, ee, eg) refl

eight : (n : ℕ) → onto 8 n [] ≡ hex n
eight n =
    let e₂ : n / 16 / 16 ≡ n / 0x100 = div-div-eq-div-mul n 16 16 in
    let e₃ : n / 16 / 16 / 16 ≡ n / 0x1000 = ap (λ (q : ℕ). q / 16) e₂ ∙ div-div-eq-div-mul n 0x100 16 in
    let e₄ : n / 16 / 16 / 16 / 16 ≡ n / 0x1_0000 = ap (λ (q : ℕ). q / 16) e₃ ∙ div-div-eq-div-mul n 0x1000 16 in
    let e₅ : n / 16 / 16 / 16 / 16 / 16 ≡ n / 0x10_0000 = ap (λ (q : ℕ). q / 16) e₄ ∙ div-div-eq-div-mul n 0x1_0000 16 in
    let e₆ : n / 16 / 16 / 16 / 16 / 16 / 16 ≡ n / 0x100_0000 = ap (λ (q : ℕ). q / 16) e₅ ∙ div-div-eq-div-mul n 0x10_0000 16 in
    let e₇ : n / 16 / 16 / 16 / 16 / 16 / 16 / 16 ≡ n / 0x1000_0000 = ap (λ (q : ℕ). q / 16) e₆ ∙ div-div-eq-div-mul n 0x100_0000 16 in
    same_digits (n / 16) n e₇ e₆ e₅ e₄ e₃ e₂

frame : (ds : List ℕ) → padded_integral (format_spec 32 0 4 8 (2 ^ 64 - 1)) false [] ds ≡ filled 8 ds
unfolding padded_integral char_count
frame ds = ap (λ (l : List ℕ). replicate (8 - length ds - 0 - 0) 48 ++ l) (append-nil ds)
    ∙ ap (λ (c : ℕ). replicate c 48 ++ ds) {x = 8 - length ds - 0 - 0} {y = 8 - length ds} (omega arith)

pub hex_padded : (n : ℕ) → n < 2 ^ 32 → padded_integral (format_spec 32 0 4 8 (2 ^ 64 - 1)) false [] (digits 16 true n) ≡ hex n
unfolding digits
hex_padded n small = frame (digits 16 true n) ∙ fills 7 63 8 n [] (omega arith) small refl ∙ eight n
