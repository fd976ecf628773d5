-- Questions one after the other.
use Rattle.std.proofs.Common.{◌≡◌, List, [], ◌∷◌, ◌++◌, refl, ◌∙◌}
use lib.Ieee.{Float}
use Rattle.maths.specs.declared.host.Function.{Function}
use Rattle.maths.specs.Functions.{HostActs}
use Rattle.maths.specs.Questions.{Question, all_asked}

pub asked_append : {S : Type 0} (asked : S → Function → Float → S) (s : S) (qs rs : List Question) → all_asked asked s (qs ++ rs) ≡ all_asked asked (all_asked asked s qs) rs
asked_append asked s [] rs = refl
asked_append asked s (q ∷ qs) rs = asked_append asked (asked s q.0 q.1) qs rs

-- no question alters the functions
pub asked_same : {K : Type 0} (hosts : HostActs K)
    → ((k : K) (f : Function) (x : Float) → hosts.functions (hosts.asked k f x) ≡ hosts.functions k)
    → (k : K) (qs : List Question) → hosts.functions (all_asked hosts.asked k qs) ≡ hosts.functions k
asked_same hosts same k [] = refl
asked_same hosts same k (q ∷ qs) = asked_same hosts same (hosts.asked k q.0 q.1) qs ∙ same k q.0 q.1
