-- Ends that are one point have no chord between them.
use Rattle.std.proofs.Common.{◌≡◌, ℕ, ◌+◌, ◌-◌, ◌*◌, ◌<◌, ◌≤◌, Bool, true, false, cond, ◌&&◌, T, ltb, ℤ, pos, refl, sym, ap, ◌∙◌, subst, not, arith}
use Rattle.std.specs.Bool.{beq}
use Rattle.std.proofs.lemmas.Bool.{cond_both}
use lib.Ieee.{Float, nan, inf, fin, binary32, up, down, round, sum, neg, sub, add, mul, div, eq, of_bits}
use lib.Ieee.Fits.{down_pos, and_l, and_r}
use lib.Ieee.Scale.{round_same}
use Rattle.std.proofs.Math.Nat.{le-mul_of_pos_right}
use Rattle.numbers.specs.Arithmetic.{◌⊕◌, ◌⊖◌, ◌⊗◌, ◌⊘◌}
use Rattle.numbers.specs.Arithmetic.{zero as zeroᶠ}
use Rattle.std.specs.Float.{float_is_finite}
use Rattle.curves.specs.Curves.{two}
use Rattle.maths.specs.Functions.{Functions}
use Rattle.path.specs.declared.geometry.Vector.{Vector}
use Rattle.arcs.specs.declared.arc_to.ArcTo.{ArcTo}
use Rattle.arcs.specs.Centres.{half_chord}
use Rattle.arcs.specs.Curves.{no_chord, turned_of}
use Rattle.arcs.specs.Ends.{point_finite, curves_of}
use Rattle.arcs.specs.Laws.{NothingAtAPoint}
use Rattle.arcs.proofs.Reached.{none_at_a_point}

-- 0 or minus 0
abbrev Null : Float → Type 0
Null x = (s : Bool) × (x ≡ fin s 0 (pos 0))

null_round : (s : Bool) (a c : ℕ) → 0 < c → a ≡ 0 → Null (round binary32 s a c)
unfolding round
null_round s a c C z = (s, round_same binary32 s a c 0 1 C (omega arith) (omega (arith, z)) ∙ one s)
  where
    one : (s : Bool) → round binary32 s 0 1 ≡ fin s 0 (pos 0)
    one true = refl
    one false = refl

itself : (x : Float) → T (float_is_finite x) → Null (x ⊖ x)
unfolding float_is_finite sub add neg sum
itself nan h = absurd h
itself (inf s) h = absurd h
itself (fin s m e) h =
    let a = m * up e * down e in
    let c = down e * down e in
    cond_both (beq s (not s)) (round binary32 s (a + a) c) (cond (ltb a a) (round binary32 (not s) (a - a) c) (round binary32 (s && ltb a a) (a - a) c)) Null
    (λ same. absurd (never s same))
    (λ _. cond_both (ltb a a) (round binary32 (not s) (a - a) c) (round binary32 (s && ltb a a) (a - a) c) Null (λ _. null_round (not s) (a - a) c (long e) (omega arith)) (λ _. null_round (s && ltb a a) (a - a) c (long e) (omega arith)))
  where
    never : (s : Bool) → beq s (not s) ≡ true → ⊥
    never true same = subst T (sym same) tt
    never false same = subst T (sym same) tt

    long : (e : ℤ) → 0 < down e * down e
    long e = let more : down e ≤ down e * down e = le-mul_of_pos_right (down e) (down_pos e) in omega (arith, more, down_pos e)

times : (x z : Float) → T (float_is_finite x) → Null z → Null (x ⊗ z)
unfolding float_is_finite mul
times nan z h n = absurd h
times (inf s) z h n = absurd h
times (fin s m e) z h n = subst (λ (y : Float). Null (fin s m e ⊗ y)) (sym n.1) (null_round (not (beq s n.0)) (m * up e * (0 * 1)) (down e * 1) (omega (arith, down_pos e)) (omega arith))

halved : (z : Float) → Null z → Null (z ⊘ two)
unfolding div round of_bits
halved z n = subst (λ (y : Float). Null (y ⊘ two)) (sym n.1) (go n.0)
  where
    go : (s : Bool) → Null (fin s 0 (pos 0) ⊘ two)
    go true = (true, refl)
    go false = (false, refl)

added : (y z : Float) → Null y → Null z → Null (y ⊕ z)
unfolding add sum round
added y z n k = subst (λ (x : Float). Null (x ⊕ z)) (sym n.1) (subst (λ (x : Float). Null (fin n.0 0 (pos 0) ⊕ x)) (sym k.1) (go n.0 k.0))
  where
    go : (s t : Bool) → Null (fin s 0 (pos 0) ⊕ fin t 0 (pos 0))
    go true true = (true, refl)
    go true false = (false, refl)
    go false true = (false, refl)
    go false false = (false, refl)

negated : (x : Float) → T (float_is_finite x) → T (float_is_finite (neg x))
unfolding float_is_finite neg
negated nan h = h
negated (inf s) h = h
negated (fin s m e) h = tt

is_null : (x : Float) → Null x → eq x zeroᶠ ≡ true
unfolding eq of_bits
is_null x n = ap (λ y. eq y zeroᶠ) n.1 ∙ go n.0
  where
    go : (s : Bool) → eq (fin s 0 (pos 0)) zeroᶠ ≡ true
    go true = refl
    go false = refl

both : (x y : Bool) → x ≡ true → y ≡ true → (x && y) ≡ true
both x y h k = (λ i. h i && k i)

pub no_chord_at : (F : Functions) (a : ArcTo) → a.from ≡ a.to → T (point_finite a.from && (float_is_finite (F.sine a.angle) && float_is_finite (F.cosine a.angle))) → no_chord (half_chord a (turned_of F a.angle)) ≡ true
no_chord_at F a same h =
    let p = a.from in
    let sine = F.sine a.angle in
    let cosine = F.cosine a.angle in
    let fits = and_l (point_finite p) (float_is_finite sine && float_is_finite cosine) h in
    let rest = and_r (point_finite p) (float_is_finite sine && float_is_finite cosine) h in
    let s = and_l (float_is_finite sine) (float_is_finite cosine) rest in
    let c = and_r (float_is_finite sine) (float_is_finite cosine) rest in
    let x : Null (p.x ⊖ a.to.x) = subst (λ (q : Vector). Null (p.x ⊖ q.x)) same (itself p.x (and_l (float_is_finite p.x) (float_is_finite p.y) fits)) in
    let y : Null (p.y ⊖ a.to.y) = subst (λ (q : Vector). Null (p.y ⊖ q.y)) same (itself p.y (and_r (float_is_finite p.x) (float_is_finite p.y) fits)) in
    both _ _
    (is_null _ (added _ _ (halved _ (times cosine _ c x)) (halved _ (times sine _ s y))))
    (is_null _ (added _ _ (halved _ (times (neg sine) _ (negated sine s) x)) (halved _ (times cosine _ c y))))

pub nothing : (F : Functions) (alone : Bool) (a : ArcTo) → NothingAtAPoint F a (curves_of F alone a)
nothing F alone a same h = none_at_a_point F alone a (no_chord_at F a same h)
