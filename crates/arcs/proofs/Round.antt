-- One curve more of those that are left.
use Rattle.std.proofs.Common.{◌≡◌, ℕ, zero, suc, ◌+◌, ◌-◌, ◌<◌, ◌≤◌, Bool, true, false, cond, List, [], ◌∷◌, ◌++◌, length, sym, refl, ap, ◌∙◌, append_assoc, append-nil, arith}
use lib.Ieee.{Float, le}
use Rattle.numbers.specs.Arithmetic.{◌⊕◌, one}
use Rattle.maths.specs.Functions.{Functions}
use Rattle.maths.specs.Questions.{all_asked}
use Rattle.maths.specs.declared.host.Function.{Function}
use Rattle.maths.proofs.Asking.{asked_append}
use Rattle.path.specs.declared.command.Command.{Command}
use Rattle.arcs.specs.declared.arc_to.ArcTo.{ArcTo}
use Rattle.arcs.specs.declared.centre.Centred.{Centred}
use Rattle.arcs.specs.declared.centre.Turned.{Turned}
use Rattle.arcs.specs.declared.ellipse.Ellipse.{Ellipse}
use Rattle.curves.specs.Curves.{two, three}
use Rattle.arcs.specs.Sweeps.{turn_of, curves_needed, sweep_of}
use Rattle.arcs.specs.Curves.{curve_at, curve_questions, all_curves, all_questions, ellipse, round_curves, OneToFour}

one_less : (n i : ℕ) → i < n → n - i ≡ suc (n - (i + 1))
one_less n i h = omega arith

curves_next : (n i : ℕ) (F : Functions) (e : Ellipse) (t each : Float) → i < n → all_curves (n - i) F e t each ≡ curve_at F e t (t ⊕ each) ∷ all_curves (n - (i + 1)) F e (t ⊕ each) each
unfolding all_curves
curves_next n i F e t each h = ap (λ k. all_curves k F e t each) (one_less n i h)

questions_next : (n i : ℕ) (t each : Float) → i < n → all_questions (n - i) t each ≡ curve_questions t (t ⊕ each) ++ all_questions (n - (i + 1)) (t ⊕ each) each
unfolding all_questions
questions_next n i t each h = ap (λ k. all_questions k t each) (one_less n i h)

-- the first curve, and what is asked for it
one_first : (n : ℕ) → 0 < n → n ≡ suc (n - 1)
one_first n h = omega (arith, h)

pub curves_first : (n : ℕ) (F : Functions) (e : Ellipse) (t each : Float) {now : List Command} → 0 < n → now ≡ curve_at F e t (t ⊕ each) ∷ []
    → now ++ all_curves (n - 1) F e (t ⊕ each) each ≡ all_curves n F e t each
unfolding all_curves
curves_first n F e t each h is = ap (λ l. l ++ all_curves (n - 1) F e (t ⊕ each) each) is ∙ sym (ap (λ k. all_curves k F e t each) (one_first n h))

pub questions_first : {S : Type 0} (asked : S → Function → Float → S) (n : ℕ) (t each : Float) (host : S) {now : S} → 0 < n → now ≡ all_asked asked host (curve_questions t (t ⊕ each))
    → all_asked asked now (all_questions (n - 1) (t ⊕ each) each) ≡ all_asked asked host (all_questions n t each)
unfolding all_questions
questions_first asked n t each host h is =
    let rest = all_questions (n - 1) (t ⊕ each) each in
    ap (λ s. all_asked asked s rest) is ∙ sym (asked_append asked host (curve_questions t (t ⊕ each)) rest) ∙ ap (λ k. all_asked asked host (all_questions k t each)) (sym (one_first n h))

-- a turn of the loop: what is drawn
pub curves_more : (n i : ℕ) (F : Functions) (e : Ellipse) (t each : Float) (drawn : List Command) {now all : List Command} → i < n → now ≡ drawn ++ (curve_at F e t (t ⊕ each) ∷ [])
    → drawn ++ all_curves (n - i) F e t each ≡ all → now ++ all_curves (n - (i + 1)) F e (t ⊕ each) each ≡ all
curves_more n i F e t each drawn h is left =
    let rest = all_curves (n - (i + 1)) F e (t ⊕ each) each in
    ap (λ l. l ++ rest) is ∙ append_assoc drawn (curve_at F e t (t ⊕ each) ∷ []) rest ∙ ap (λ l. drawn ++ l) (sym (curves_next n i F e t each h)) ∙ left

-- and what is asked
pub questions_more : {S : Type 0} (asked : S → Function → Float → S) (n i : ℕ) (t each : Float) (host : S) {now all : S} → i < n → now ≡ all_asked asked host (curve_questions t (t ⊕ each))
    → all_asked asked host (all_questions (n - i) t each) ≡ all → all_asked asked now (all_questions (n - (i + 1)) (t ⊕ each) each) ≡ all
questions_more asked n i t each host h is left =
    let rest = all_questions (n - (i + 1)) (t ⊕ each) each in
    ap (λ s. all_asked asked s rest) is ∙ sym (asked_append asked host (curve_questions t (t ⊕ each)) rest) ∙ ap (all_asked asked host) (sym (questions_next n i t each h)) ∙ left

pub no_curves : (n : ℕ) (F : Functions) (e : Ellipse) (t each : Float) (drawn : List Command) → n ≡ 0 → drawn ++ all_curves n F e t each ≡ drawn
unfolding all_curves
no_curves n F e t each drawn none = ap (λ k. drawn ++ all_curves k F e t each) none ∙ append-nil drawn

pub no_questions : (n : ℕ) (t each : Float) → n ≡ 0 → all_questions n t each ≡ []
unfolding all_questions
no_questions n t each none = ap (λ k. all_questions k t each) none

pub curves_long : (n : ℕ) (F : Functions) (e : Ellipse) (t each : Float) → length (all_curves n F e t each) ≡ n
unfolding all_curves
curves_long zero F e t each = refl
curves_long (suc n) F e t each = ap suc (curves_long n F e (t ⊕ each) each)

-- one to four, by each of the three tests
counts_few : (a b c : Bool) → (1 ≤ cond a 1 (cond b 2 (cond c 3 4))) × (cond a 1 (cond b 2 (cond c 3 4)) ≤ 4)
counts_few true b c = (omega arith, omega arith)
counts_few false true c = (omega arith, omega arith)
counts_few false false true = (omega arith, omega arith)
counts_few false false false = (omega arith, omega arith)

pub sweep_few : (F : Functions) (a : ArcTo) (c : Centred) → (1 ≤ (sweep_of F a c).count) × ((sweep_of F a c).count ≤ 4)
sweep_few F a c = let x = curves_needed (turn_of F a c) in counts_few (le x one) (le x two) (le x three)

pub round_few : (F : Functions) (a : ArcTo) (t : Turned) (c : Centred) → OneToFour false (round_curves F a t c)
round_few F a t c = let s = sweep_of F a c in let long = curves_long s.count F (ellipse c t s) s.start s.each in rw long (sweep_few F a c)
