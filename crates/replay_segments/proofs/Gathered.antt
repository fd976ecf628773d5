-- What a cursor gives, gathered call by call.
use Rattle.std.proofs.Common.{◌≡◌, ℕ, Bool, List, [], ◌∷◌, length, drop, Some, None, Option, sym, refl, ap, ◌∙◌, arith}
use Rattle.std.specs.Option.{MatchOption}
use Rattle.std.specs.Iterator.{YieldsFirst, MakesProgress, item_count}
use Rattle.maths.specs.Functions.{Functions}
use Rattle.path.specs.declared.command.Command.{Command}
use Rattle.segments.specs.declared.segment.Segment.{Segment}
use Rattle.cursor.specs.Machines.{Machine}
use Rattle.cursor.specs.Cursors.{fresh}
use Rattle.cursor.specs.Giving.{next_of}
use Rattle.cursor.specs.Drawings.{pieces_given, pieces_drawn, still, drawn_whole, given_by}
use Rattle.cursor.specs.Laws.{GivesHead}
use Rattle.cursor.proofs.Whole.{given_asks}

-- before the first call all is still to come
pub none_yet : (F : Functions) (split : Bool) (cs : List Command) {m : Machine} {p : ℕ} → m ≡ fresh split → p ≡ 0 → given_by (still F m (drop p cs)) ≡ given_by (drawn_whole F split cs)
unfolding pieces_given pieces_drawn
none_yet F split cs {m = m} {p = p} machine place = ap (λ (m : Machine). given_by (still F m (drop p cs))) machine ∙ ap (λ (p : ℕ). given_by (still F (fresh split) (drop p cs))) place

-- a call takes what it gives from what is to come; where it gives none nothing is left
pub yields : {F F' : Functions} {m m' : Machine} {cs cs' : List Command} {x : Option Segment} → F' ≡ F → GivesHead F m cs x m' cs'
    → MatchOption x ((given_by (still F m cs) ≡ []) × (given_by (still F' m' cs') ≡ [])) (λ s. given_by (still F m cs) ≡ s ∷ given_by (still F' m' cs'))
yields {F = F} {m = m} {m' = m'} {cs = cs} {cs' = cs'} {x = Some s} same gives = ap given_by gives.head ∙ given_asks (next_of F m cs).asked _ ∙ ap (λ (G : Functions). s ∷ given_by (still G m' cs')) (sym same)
yields {F = F} {m = m} {m' = m'} {cs = cs} {cs' = cs'} {x = None} same gives =
    let nothing : given_by (still F m' cs') ≡ [] = ap given_by (gives.last refl) in
    (ap given_by gives.head ∙ given_asks (next_of F m cs).asked _ ∙ nothing, ap (λ (G : Functions). given_by (still G m' cs')) same ∙ nothing)

-- so does any iterator that gives the first of what is to come
pub progress : {S A : Type 0} (can : S → Type 0) (rest : S → List A) {s t : S} {r : Option A} → ((t : S) → can t) → YieldsFirst rest s r t → MakesProgress can (item_count rest) s r t
progress can rest {t = t} {r = Some x} may h = record { on = λ _. (may t, tt, omega (arith, ap length h)); keeps = may t; rests = λ _. tt }
progress can rest {r = None} may h = record { on = λ _. tt; keeps = tt; rests = λ _. tt }
