-- What follows a count in bytes.
use Rattle.std.specs.Prelude.{◌≡◌, ℕ, ◌+◌, ◌*◌, ◌<◌, List, length, take, drop}
use Rattle.std.specs.Int.{from_be_bytes}
use Rattle.std.specs.List.{IsSplitAt}
use mir.Syntax.{w32}

-- the number that the first four bytes say, the highest byte first
abbrev pub count_of : List ℕ → ℕ
count_of bytes = from_be_bytes w32 (take 4 bytes)

-- so many parts of this size are not there
abbrev pub CutShort : List ℕ → ℕ → Type 0
CutShort bytes size = length bytes < 4 + count_of bytes * size

-- after the count stand these parts, and then the rest
abbrev pub Counted : List ℕ → ℕ → List ℕ → List ℕ → Type 0
Counted bytes size parts rest =
    (4 + length parts + length rest ≡ length bytes)
    × IsSplitAt (drop 4 bytes) (count_of bytes * size) parts rest
