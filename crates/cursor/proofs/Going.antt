-- Steps go on to an end: what can still be taken falls with each.
use Rattle.std.proofs.Common.{◌≡◌, ℕ, zero, suc, ◌+◌, ◌-◌, ◌<◌, ◌≤◌, Bool, true, false, cond, ◌||◌, List, [], ◌∷◌, length, drop, is_some, Some, None, Option, sym, refl, ap, ◌∙◌, add_assoc, arith, drop-drop}
use Rattle.std.proofs.lemmas.Bool.{cond_both}
use lib.Ieee.{Float}
use Rattle.maths.specs.Functions.{Functions, HostActs}
use Rattle.maths.specs.Questions.{all_asked}
use Rattle.maths.specs.declared.host.Function.{Function}
use Rattle.maths.proofs.Asking.{asked_append, asked_same}
use Rattle.path.specs.declared.geometry.Vector.{Vector}
use Rattle.path.specs.declared.command.Command.{Command}
use Rattle.path.specs.declared.command.Command.TheVariants.{MoveTo, LineTo, CurveTo, QuadTo, Close}
use Rattle.path.specs.Vectors.{near_by}
use Rattle.curves.specs.declared.curve.Curve.{Curve}
use Rattle.curves.specs.Curves.{curve, from_quadratic, merge_epsilon}
use Rattle.cursor.specs.Cuts.{cut_up}
use Rattle.cursor.proofs.Few.{cut_up_few}
use Rattle.segments.specs.declared.mark.SegmentId.{SegmentId}
use Rattle.segments.specs.declared.segment.Segment.{Segment}
use Rattle.cursor.specs.declared.subpath.Subpath.{Subpath}
use Rattle.cursor.specs.Subpaths.{needs_line}
use Rattle.cursor.specs.Machines.{Machine, machine, Turn, turn, Step, Done, done, quietly, cut_to, curved, read, step, step_at, any, waits}
use Rattle.cursor.specs.Giving.{left, followed, until_given, steps, next_of}

-- pieces and an end to come
abbrev pub coming : Machine → ℕ
coming m = length m.pending + cond m.closing 1 0

abbrev Few : Turn → Type 0
Few t = coming t.after ≤ 16

few_cut : (m : Machine) (p : Vector) (ks : List Curve) → m.closing ≡ false → length ks ≤ 16 → Few (cut_to m p ks)
few_cut m p [] e h = rw e (omega arith)
few_cut m p (k ∷ ks) e h = rw e (omega arith)

few_curve : (F : Functions) (b : Bool) (i : SegmentId) (s : Subpath) (k : Curve) (p : Vector) → Few (curved F (machine b i s [] false) k p)
few_curve F b i s k p = cond_both b _ _ Few (λ _. few_cut (machine b i s [] false) p (cut_up F k) refl (cut_up_few F k)) (λ _. omega arith)

pub few : (F : Functions) (b : Bool) (i : SegmentId) (s : Subpath) (c : Command) → coming (read F (machine b i s [] false) c).after ≤ 16
few F b i s (MoveTo p) = omega arith
few F b i s (LineTo p) = cond_both (near_by s.prev p merge_epsilon) _ _ Few (λ _. omega arith) (λ _. omega arith)
few F b i s (CurveTo p q r) = few_curve F b i s (curve s.prev p q r) r
few F b i s (QuadTo p q) = few_curve F b i s (from_quadratic s.prev p q) q
few F b i s Close = cond_both (needs_line s) _ _ Few (λ _. omega arith) (λ _. omega arith)

falls_at : (F : Functions) (b : Bool) (i : SegmentId) (s : Subpath) (ks : List Curve) (closing : Bool) (cs : List Command) → waits (machine b i s ks closing) cs ≡ true
    → let x = step F (machine b i s ks closing) cs in left x.made.after (drop x.taken cs) < left (machine b i s ks closing) cs
falls_at F b i s ks true cs h = omega arith
falls_at F b i s (k ∷ ks) false cs h = omega arith
falls_at F b i s [] false (c ∷ cs) h = omega (arith, few F b i s c)
falls_at F b i s [] false [] h = absurd cc

pub falls : (F : Functions) (m : Machine) (cs : List Command) → waits m cs ≡ true → let x = step F m cs in left x.made.after (drop x.taken cs) < left m cs
falls F m cs h = falls_at F m.splitting m.id m.subpath m.pending m.closing cs h

-- where nothing is to come
pub nothing : (closing : Bool) (ks : List Curve) (cs : List Command) → (closing || (any ks || any cs)) ≡ false → (closing ≡ false) × (ks ≡ []) × (cs ≡ [])
nothing true ks cs h = absurd cc
nothing false (k ∷ ks) cs h = absurd cc
nothing false [] (c ∷ cs) h = absurd cc
nothing false [] [] h = (refl, refl, refl)

pub idle : (F : Functions) (m : Machine) (cs : List Command) → waits m cs ≡ false → step F m cs ≡ quietly (turn None m)
idle F m cs h = let e = nothing m.closing m.pending cs h in λ j. step_at F m (e.0 j) (e.1 j) (e.2 j)

-- the first of two steps alone, or both
first : (o : Option Segment) (x y : Step) → is_some o ≡ true → until_given o x y ≡ x
first (Some s) x y given = refl
first None x y given = absurd cc

both : (o : Option Segment) (x y : Step) → is_some o ≡ false → until_given o x y ≡ followed x y
both (Some s) x y skipped = absurd cc
both None x y skipped = refl

given_first : (F : Functions) (n : ℕ) (m : Machine) (cs : List Command) → 1 ≤ n → is_some (step F m cs).made.gave ≡ true → steps n F m cs ≡ step F m cs
unfolding steps
given_first F zero m cs h given = absurd (omega arith)
given_first F (suc n) m cs h given = first (step F m cs).made.gave (step F m cs) _ given

skipped_first : (F : Functions) (n : ℕ) (m : Machine) (cs : List Command) → is_some (step F m cs).made.gave ≡ false
    → steps (suc n) F m cs ≡ followed (step F m cs) (steps n F (step F m cs).made.after (drop (step F m cs).taken cs))
unfolding steps
skipped_first F n m cs skipped = both (step F m cs).made.gave (step F m cs) _ skipped

pub steps_idle : (F : Functions) (n : ℕ) (m : Machine) (cs : List Command) → waits m cs ≡ false → steps n F m cs ≡ quietly (turn None m)
unfolding steps
steps_idle F zero m cs h = refl
steps_idle F (suc n) m cs h = ap (λ (x : Step). until_given x.made.gave x (steps n F x.made.after (drop x.taken cs))) (idle F m cs h) ∙ ap (followed (quietly (turn None m))) (steps_idle F n m cs h)

done_followed : {S : Type 0} (asked : S → Function → Float → S) (p : ℕ) (h : S) (x y : Step) → done asked p h (followed x y) ≡ done asked (p + x.taken) (all_asked asked h x.asked) y
done_followed asked p h x y =
    let place = sym (add_assoc p x.taken y.taken) in
    let host = asked_append asked h x.asked y.asked in
    λ i. record { gave = y.made.gave; after = y.made.after; place = place i; host = host i }

-- a step takes from what is to come
pub takes : {S : Type 0} (asked : S → Function → Float → S) (cs : List Command) (F : Functions) (m : Machine) (p : ℕ) (h : S) {d : Done S} → d ≡ done asked p h (step F m (drop p cs)) → true ≡ waits m (drop p cs) → left d.after (drop d.place cs) < left m (drop p cs)
takes {S = S} asked cs F m p h {d = d} is some =
    let x = step F m (drop p cs) in
    let same : left d.after (drop d.place cs) ≡ left x.made.after (drop x.taken (drop p cs))
    = ap (λ (d : Done S). left d.after (drop d.place cs)) is ∙ ap (left x.made.after) (sym (drop-drop x.taken p cs)) in
    omega (arith, falls F m (drop p cs) (sym some))

-- A call on its way: the host's functions are still F, and enough steps from here do all that the call is to do.
pub record Going {S : Type 0} (hosts : HostActs S) (F : Functions) (cs : List Command) (m : Machine) (p : ℕ) (h : S) (all : Done S) : Type 0 where
  pub same : hosts.functions h ≡ F
  pub count : ℕ
  pub enough : left m (drop p cs) ≤ count
  pub there : done hosts.asked p h (steps count F m (drop p cs)) ≡ all

module _ {S : Type 0} (hosts : HostActs S) where
  pub begins : {cs : List Command} (m : Machine) (p : ℕ) (h : S) → Going hosts (hosts.functions h) cs m p h (done hosts.asked p h (next_of (hosts.functions h) m (drop p cs)))
  begins {cs = cs} m p h = record { same = refl; count = left m (drop p cs); enough = omega arith; there = refl }

  module _ {F : Functions} {cs : List Command} {m : Machine} {p : ℕ} {h : S} {all d : Done S} (on : Going hosts F cs m p h all) (is : d ≡ done hosts.asked p h (step (hosts.functions h) m (drop p cs))) where
    did : d ≡ done hosts.asked p h (step F m (drop p cs))
    did = is ∙ ap (λ F. done hosts.asked p h (step F m (drop p cs))) on.same

    -- nothing was to come
    pub ends_idle : false ≡ waits m (drop p cs) → d ≡ all
    ends_idle none = did ∙ ap (done hosts.asked p h) (idle F m (drop p cs) (sym none) ∙ sym (steps_idle F on.count m (drop p cs) (sym none))) ∙ on.there

    -- a step gave something
    pub ends_given : true ≡ waits m (drop p cs) → is_some d.gave ≡ true → d ≡ all
    ends_given some given =
        let less = takes hosts.asked cs (hosts.functions h) m p h is some in
        let gave : is_some (step F m (drop p cs)).made.gave ≡ true = sym (ap (λ (d : Done S). is_some d.gave) did) ∙ given in
        did ∙ ap (done hosts.asked p h) (sym (given_first F on.count m (drop p cs) (omega (arith, less, on.enough)) gave)) ∙ on.there

    -- a step gave nothing: what follows does the rest
    pub goes_on : ((s : S) (f : Function) (x : Float) → hosts.functions (hosts.asked s f x) ≡ hosts.functions s) → true ≡ waits m (drop p cs) → is_some d.gave ≡ false → Going hosts F cs d.after d.place d.host all
    goes_on kept some skipped =
        let less = takes hosts.asked cs (hosts.functions h) m p h is some in
        let x = step F m (drop p cs) in
        let gave : is_some x.made.gave ≡ false = sym (ap (λ (d : Done S). is_some d.gave) did) ∙ skipped in
        let n = on.count - 1 in
        let count : on.count ≡ suc n = omega (arith, less, on.enough) in
        let rest : List Command → Done S = λ l. done hosts.asked (p + x.taken) (all_asked hosts.asked h x.asked) (steps n F x.made.after l) in
        record {
          same = ap (λ (d : Done S). hosts.functions d.host) did ∙ asked_same hosts kept h x.asked ∙ on.same;
          count = n;
          enough = omega (arith, less, on.enough);
          there = ap (λ (d : Done S). done hosts.asked d.place d.host (steps n F d.after (drop d.place cs))) did ∙ ap rest (sym (drop-drop x.taken p cs))
              ∙ sym (done_followed hosts.asked p h x (steps n F x.made.after (drop x.taken (drop p cs)))) ∙ sym (ap (done hosts.asked p h) (skipped_first F n m (drop p cs) gave))
              ∙ ap (λ n. done hosts.asked p h (steps n F m (drop p cs))) (sym count) ∙ on.there;
        }
