-- Questions that a host is asked, one after the other.
use Rattle.std.specs.Prelude.{List, [], ◌∷◌, Float}
use Rattle.maths.specs.declared.host.Function.{Function}

abbrev pub Question : Type 0
Question = Function × Float

-- the whole host after them
abbrev pub all_asked : {S : Type 0} → (S → Function → Float → S) → S → List Question → S
all_asked asked s [] = s
all_asked asked s (q ∷ qs) = all_asked asked (asked s q.0 q.1) qs
