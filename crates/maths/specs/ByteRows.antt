-- Rows as bytes: a function's number, the bits of an argument and the bits of an answer, the highest byte first.
use Rattle.std.specs.Prelude.{ℕ, zero, suc, ◌+◌, ◌*◌, ◌/◌, List, [], ◌∷◌, ◌++◌, length, slice_index}
use Rattle.maths.specs.declared.table.Row.{Row}

abbrev pub word_at : List ℕ → ℕ → ℕ
word_at b i = slice_index b i * 16777216 + slice_index b (i + 1) * 65536 + slice_index b (i + 2) * 256 + slice_index b (i + 3)

abbrev pub row_at : List ℕ → ℕ → Row
row_at b i = record { function = slice_index b i; argument = word_at b (i + 1); answer = word_at b (i + 5) }

-- the first k rows
abbrev pub rows_to : List ℕ → ℕ → List Row
rows_to b zero = []
rows_to b (suc k) = rows_to b k ++ (row_at b (9 * k) ∷ [])

-- all of them
unfoldable pub rows_in : List ℕ → List Row
rows_in b = rows_to b (length b / 9)
