-- What is still to be given, and the part of it that steps give.
use Rattle.std.proofs.Common.{◌≡◌, ℕ, zero, suc, ◌+◌, ◌<◌, ◌≤◌, Bool, true, false, List, [], ◌∷◌, ◌++◌, map, drop, is_some, Some, None, Option, sym, refl, ap, ◌∙◌, ⊎_elim, append_assoc, arith, drop-drop}
use Rattle.std.proofs.lemmas.Bool.{cases_Bool}
use Rattle.std.proofs.lemmas.List.{map-append}
use Rattle.std.specs.Option.{option_to_list}
use lib.Ieee.{Float}
use Rattle.maths.specs.Functions.{Functions}
use Rattle.maths.specs.declared.host.Function.{Function}
use Rattle.path.specs.declared.command.Command.{Command}
use Rattle.curves.specs.declared.curve.Curve.{Curve}
use Rattle.segments.specs.declared.mark.SegmentId.{SegmentId}
use Rattle.segments.specs.declared.segment.Segment.{Segment}
use Rattle.segments.specs.Pieces.{to_segment}
use Rattle.cursor.specs.declared.subpath.Subpath.{Subpath}
use Rattle.cursor.specs.Machines.{Machine, machine, Step, Done, done, step, read, read_questions, waits}
use Rattle.cursor.specs.Giving.{left, until_given, steps, next_of}
use Rattle.cursor.specs.Drawings.{Event, asks, gives, pieces_given, pieces_drawn, waiting, rested, drawing, still}
use Rattle.cursor.specs.Laws.{GivesHead}
use Rattle.cursor.proofs.Going.{falls, nothing, idle, steps_idle}

-- the events of a step, before those that are left
abbrev before : Step → List Event → List Event
before x es = map asks x.asked ++ (map gives (option_to_list x.made.gave) ++ es)

abbrev after : Functions → Step → List Command → List Event
after F x cs = still F x.made.after (drop x.taken cs)

step_at_head : (F : Functions) (b : Bool) (i : SegmentId) (s : Subpath) (ks : List Curve) (closing : Bool) (cs : List Command)
    → let x = step F (machine b i s ks closing) cs in still F (machine b i s ks closing) cs ≡ before x (after F x cs)
unfolding pieces_given pieces_drawn drawing
step_at_head F b i s ks true cs = refl
step_at_head F b i s (k ∷ ks) false cs =
    let rest = drawing F (rested (machine b i s (k ∷ ks) false)) cs in
    ap (λ l. l ++ rest) (map-append gives (option_to_list (to_segment i k)) (pieces_given i ks)) ∙ append_assoc (map gives (option_to_list (to_segment i k))) (map gives (pieces_given i ks)) rest
step_at_head F b i s [] false (c ∷ cs) =
    let r = read F (machine b i s [] false) c in
    let rest = drawing F (rested r.after) cs in
    ap (λ l. map asks (read_questions F (machine b i s [] false) c) ++ l)
    (ap (λ l. l ++ rest) (map-append gives (option_to_list r.gave) (waiting r.after)) ∙ append_assoc (map gives (option_to_list r.gave)) (map gives (waiting r.after)) rest)
step_at_head F b i s [] false [] = refl

step_head : (F : Functions) (m : Machine) (cs : List Command) → still F m cs ≡ before (step F m cs) (after F (step F m cs) cs)
step_head F m cs = step_at_head F m.splitting m.id m.subpath m.pending m.closing cs

head_by : (F : Functions) (m : Machine) (cs : List Command) (x y : Step) (o : Option Segment) → x.made.gave ≡ o → still F m cs ≡ before x (after F x cs)
    → after F x cs ≡ before y (after F y (drop x.taken cs)) → still F m cs ≡ before (until_given o x y) (after F (until_given o x y) cs)
head_by F m cs x y (Some s) is here there = here
head_by F m cs x y None is here there =
    let on : still F y.made.after (drop y.taken (drop x.taken cs)) ≡ still F y.made.after (drop (x.taken + y.taken) cs) = ap (still F y.made.after) (drop-drop y.taken x.taken cs) in
    let all = sym (map-append asks x.asked y.asked) in
    here ∙ ap (λ (o : Option Segment). map asks x.asked ++ (map gives (option_to_list o) ++ after F x cs)) is ∙ ap (λ l. map asks x.asked ++ l) there
    ∙ sym (append_assoc (map asks x.asked) (map asks y.asked) (map gives (option_to_list y.made.gave) ++ still F y.made.after (drop y.taken (drop x.taken cs))))
    ∙ (λ i. all i ++ (map gives (option_to_list y.made.gave) ++ on i))

steps_head : (F : Functions) (n : ℕ) (m : Machine) (cs : List Command) → still F m cs ≡ before (steps n F m cs) (after F (steps n F m cs) cs)
unfolding steps
steps_head F zero m cs = refl
steps_head F (suc n) m cs =
    let x = step F m cs in
    head_by F m cs x (steps n F x.made.after (drop x.taken cs)) x.made.gave refl (step_head F m cs) (steps_head F n x.made.after (drop x.taken cs))

-- where nothing is to come
idle_still : (F : Functions) (m : Machine) (cs : List Command) → waits m cs ≡ false → still F m cs ≡ []
unfolding pieces_given drawing
idle_still F m cs h = let e = nothing m.closing m.pending cs h in λ j. still F (machine m.splitting m.id m.subpath (e.1 j) (e.0 j)) (e.2 j)

-- no step adds to what can come, and one that gives something takes from it
not_more : (F : Functions) (m : Machine) (cs : List Command) → left (step F m cs).made.after (drop (step F m cs).taken cs) ≤ left m cs
not_more F m cs = ⊎_elim (λ h. omega (arith, falls F m cs h))
    (λ h. omega (arith, ap (λ (x : Step). left x.made.after (drop x.taken cs)) (idle F m cs h))) (cases_Bool (waits m cs))

given_less : (F : Functions) (m : Machine) (cs : List Command) → is_some (step F m cs).made.gave ≡ true → left (step F m cs).made.after (drop (step F m cs).taken cs) < left m cs
given_less F m cs given = ⊎_elim (λ h. falls F m cs h) (λ h. let none = ap (λ (x : Step). is_some x.made.gave) (idle F m cs h) in absurd (cc (none, given))) (cases_Bool (waits m cs))

-- enough steps that give nothing leave nothing to come
rest_by : (F : Functions) (cs : List Command) (x y : Step) (o : Option Segment)
    → (y.made.gave ≡ None → after F y (drop x.taken cs) ≡ []) → (until_given o x y).made.gave ≡ None → x.made.gave ≡ o → after F (until_given o x y) cs ≡ []
rest_by F cs x y (Some s) on none is = absurd cc
rest_by F cs x y None on none is = ap (still F y.made.after) (sym (drop-drop y.taken x.taken cs)) ∙ on none

steps_rest : (F : Functions) (n : ℕ) (m : Machine) (cs : List Command) → left m cs ≤ n → (steps n F m cs).made.gave ≡ None → after F (steps n F m cs) cs ≡ []
unfolding steps
steps_rest F zero m cs few none = ⊎_elim (λ h. absurd (omega (arith, falls F m cs h))) (idle_still F m cs) (cases_Bool (waits m cs))
steps_rest F (suc n) m cs few none = ⊎_elim
    (λ h. let x = step F m cs in
    rest_by F cs x (steps n F x.made.after (drop x.taken cs)) x.made.gave (steps_rest F n x.made.after (drop x.taken cs) (omega (arith, falls F m cs h))) none refl)
    (λ h. ap (λ (y : Step). after F y cs) (steps_idle F (suc n) m cs h) ∙ idle_still F m cs h) (cases_Bool (waits m cs))

less_by : (m : Machine) (cs : List Command) (x y : Step) (o : Option Segment) → (is_some o ≡ true → left x.made.after (drop x.taken cs) < left m cs)
    → left x.made.after (drop x.taken cs) ≤ left m cs → (is_some y.made.gave ≡ true → left y.made.after (drop y.taken (drop x.taken cs)) < left x.made.after (drop x.taken cs))
    → is_some (until_given o x y).made.gave ≡ true → left (until_given o x y).made.after (drop (until_given o x y).taken cs) < left m cs
less_by m cs x y (Some t) first same on given = first refl
less_by m cs x y None first same on given =
    let there : left y.made.after (drop y.taken (drop x.taken cs)) ≡ left y.made.after (drop (x.taken + y.taken) cs) = ap (left y.made.after) (drop-drop y.taken x.taken cs) in
    omega (arith, on given)

steps_less : (F : Functions) (n : ℕ) (m : Machine) (cs : List Command) → is_some (steps n F m cs).made.gave ≡ true → left (steps n F m cs).made.after (drop (steps n F m cs).taken cs) < left m cs
unfolding steps
steps_less F zero m cs given = absurd cc
steps_less F (suc n) m cs given =
    let x = step F m cs in
    less_by m cs x (steps n F x.made.after (drop x.taken cs)) x.made.gave (given_less F m cs) (not_more F m cs) (steps_less F n x.made.after (drop x.taken cs)) given

-- a call that does what its definition says gives the head
pub gives_head : {S : Type 0} (asked : S → Function → Float → S) (F : Functions) (m : Machine) (cs : List Command) (p : ℕ) (h : S) (d : Done S)
    → d ≡ done asked p h (next_of F m (drop p cs)) → GivesHead F m (drop p cs) d.gave d.after (drop d.place cs)
gives_head {S = S} asked F m cs p h d is =
    let n = left m (drop p cs) in
    let x = next_of F m (drop p cs) in
    let gave : d.gave ≡ x.made.gave = ap (λ (d : Done S). d.gave) is in
    let on : drop x.taken (drop p cs) ≡ drop (p + x.taken) cs = drop-drop x.taken p cs in
    let rest : after F x (drop p cs) ≡ still F d.after (drop d.place cs) = ap (still F x.made.after) on ∙ sym (ap (λ (d : Done S). still F d.after (drop d.place cs)) is) in
    let less : left x.made.after (drop x.taken (drop p cs)) ≡ left d.after (drop d.place cs) = ap (left x.made.after) on ∙ sym (ap (λ (d : Done S). left d.after (drop d.place cs)) is) in
    let gave' = sym gave in
    record {
      head = steps_head F n m (drop p cs) ∙ (λ i. map asks x.asked ++ (map gives (option_to_list (gave' i)) ++ rest i));
      last = λ none. sym rest ∙ steps_rest F n m (drop p cs) (omega arith) (gave' ∙ none);
      falls = λ some. omega (arith, steps_less F n m (drop p cs) (ap is_some gave' ∙ some));
    }
