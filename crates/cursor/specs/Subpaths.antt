-- How far a subpath has come.
use Rattle.std.specs.Prelude.{ℕ, ◌+◌, min, Bool, true, false, not, ◌||◌, ◌==◌}
use Rattle.path.specs.declared.geometry.Vector.{Vector}
use Rattle.path.specs.Vectors.{near_by}
use Rattle.curves.specs.Curves.{merge_epsilon}
use Rattle.cursor.specs.declared.subpath.Subpath.{Subpath}

abbrev pub subpath : Vector → Vector → ℕ → Bool → Subpath
subpath start prev count ended = record { start = start; prev = prev; count = count; last_was_end = ended }

-- at its start
abbrev pub begun : Vector → Subpath
begun p = subpath p p 0 true

-- one segment more; the count stops at the greatest that 32 bits hold
abbrev pub drawn : Subpath → Vector → Subpath
drawn s p = subpath s.start p (min (s.count + 1) 4294967295) false

-- a close draws a line where nothing was drawn, or where the start is not near
abbrev pub needs_line : Subpath → Bool
needs_line s = s.count == 0 || not (near_by s.prev s.start merge_epsilon)

-- by a closing line, which leaves the count
abbrev pub turned_back : Subpath → Subpath
turned_back s = subpath s.start s.start s.count s.last_was_end

-- closed without a line
abbrev pub returned : Subpath → Subpath
returned s = begun s.start

-- the end after a closing line
abbrev pub stopped : Subpath → Subpath
stopped s = subpath s.start s.prev s.count true
