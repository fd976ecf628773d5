-- The places of the two storages.
use Rattle.std.specs.Prelude.{ℕ, false, ◌++◌, length}
use Rattle.lists.specs.Fixed.{Places, fresh as no_elements}
use Rattle.lists.specs.declared.lent.Lent.{Lent}
use Rattle.segments.specs.declared.segment.Segment.TheVariants.{End}
use Rattle.storage.specs.declared.storage128.Storage128.{Storage128}

-- how many places were lent
abbrev pub place_count : {X : Type 0} → Lent X → ℕ
place_count l = length l.places.now

-- how many places a list of its own has
abbrev pub place_number : {X : Type 0} → Places X → ℕ
place_number p = length (p.items ++ p.spare)

abbrev pub fresh : Storage128
fresh = record { list = no_elements 128 (End false) }
