-- What the values of a pattern are.
use Rattle.dashes.specs.declared.pattern.Pattern.{Pattern}
use Rattle.dashes.specs.declared.pattern.Taken.{Taken as TakenHere}
use Rattle.dashes.specs.Patterns.{Dashes, Taken}

abbrev pub values : Pattern → Dashes
values p = record { lengths = p.lengths.now; offset = p.offset; empty_gaps = p.empty_gaps }

abbrev pub taken : TakenHere → Taken
taken t = record { len = t.len; next = t.next }
