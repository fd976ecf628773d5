-- The mark of a command's segments.
use Rattle.std.specs.Prelude.{ℕ, ◌+◌, cond, nat_le}
use Rattle.segments.specs.declared.mark.SegmentId.{SegmentId}

abbrev pub marked : ℕ → SegmentId
marked n = record { mark = n }

-- the next one; after 254 comes 0
abbrev pub after : SegmentId → SegmentId
after i = cond (nat_le 254 i.mark) (marked 0) (marked (i.mark + 1))
