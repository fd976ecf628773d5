-- Rows as chunks of nine bytes.
use Rattle.std.proofs.Common.{◌≡◌, ℕ, zero, suc, ◌+◌, ◌*◌, List, [], ◌∷◌, ◌++◌, get_or, get_or-take, get_or-drop, take, drop, add_assoc, map, refl, ap, ap₂, ◌∙◌, arith}
use Rattle.std.specs.Simd.{first_chunks}
use Rattle.maths.specs.ByteRows.{word_at, row_at, rows_to}

first_row : (b : List ℕ) → row_at (take 9 b) 0 ≡ row_at b 0
first_row b = grind (arith, get_or-take)

word_later : (b : List ℕ) (i j : ℕ) → j ≡ 9 + i → word_at (drop 9 b) i ≡ word_at b j
word_later b i j h = rw h (simp (get_or-drop, add_assoc))

later_row : (b : List ℕ) (k : ℕ) → row_at (drop 9 b) (9 * k) ≡ row_at b (9 * suc k)
later_row b k =
    let i = 9 * k in
    let j = 9 * suc k in
    let argument = word_later b (i + 1) (j + 1) (omega arith) in
    let answer = word_later b (i + 5) (j + 5) (omega arith) in
    let function = get_or-drop 9 b i 0 ∙ ap (λ n. get_or b n 0) (omega arith) in
    λ t. record { function = function t; argument = argument t; answer = answer t }

-- the rows after the first
rows_after : (k : ℕ) (b : List ℕ) → row_at b 0 ∷ rows_to (drop 9 b) k ≡ rows_to b (suc k)
rows_after zero b = refl
rows_after (suc k) b = ap₂ (λ rs r. rs ++ r ∷ []) (rows_after k b) (later_row b k)

pub rows_of_chunks : (k : ℕ) (b : List ℕ) → map (λ c. row_at c 0) (first_chunks 9 k b) ≡ rows_to b k
rows_of_chunks zero b = refl
rows_of_chunks (suc k) b = ap₂ ◌∷◌ (first_row b) (rows_of_chunks k (drop 9 b)) ∙ rows_after k b
