-- Of an arc by itself: how many curves it has, that it ends at its end, and that it is finite where its ends are.
use Rattle.std.proofs.Common.{◌≡◌, ℕ, ◌≤◌, Bool, true, false, cond, not, ◌&&◌, ◌||◌, inl, inr, T, List, [], ◌∷◌, length, refl, sym, ◌∙◌, subst, arith}
use Rattle.std.proofs.lemmas.Bool.{cond-true, cond-false, cond_both}
use Rattle.std.proofs.lemmas.Float.{T_from_true}
use lib.Ieee.{Float, le}
use lib.Ieee.Fits.{and_l, and_r}
use Rattle.maths.specs.Functions.{Functions, Angle}
use Rattle.path.specs.declared.geometry.Vector.{Vector}
use Rattle.path.specs.declared.command.Command.{Command}
use Rattle.path.specs.declared.command.Command.TheVariants.{CurveTo}
use Rattle.path.specs.Vectors.{near_by}
use Rattle.arcs.specs.declared.arc_to.ArcTo.{ArcTo}
use Rattle.arcs.specs.declared.centre.Turned.{Turned}
use Rattle.arcs.specs.Centres.{half_chord, radii_of}
use Rattle.arcs.specs.Sweeps.{turn_of}
use Rattle.arcs.specs.Curves.{no_chord, turned_of, centred_of, arc_curves, OneToFour}
use Rattle.arcs.specs.Chords.{half_chord_of, half_turn, frame_of, is_short, short_curves, long_curves, chord_curves}
use Rattle.arcs.specs.Ends.{point_finite, all_finite, end_of, nearness, no_sliver, lands, start_round, finite_or_straight, landing, curves_by_centre, lands_by_centre, lone_curves, curves_of}
use Rattle.arcs.specs.Laws.{ReachesEnd, FiniteIfEnds, OneTwoOrFour, Counted, CountedAs}
use Rattle.arcs.proofs.Round.{round_few}
use Rattle.arcs.proofs.Quarters.{needed}

-- whether the curves by the centre are sent
abbrev by_centre : Functions → Bool → ArcTo → Bool
by_centre F alone a = not alone || lands_by_centre F alone a

abbrev about_chord : Functions → ArcTo → List Command
about_chord F a = finite_or_straight a (chord_curves a (turned_of F a.angle))

-- a stroke's arc and one by itself, by one definition
pub in_one : (F : Functions) (alone : Bool) (a : ArcTo) → curves_of F alone a ≡ cond (no_chord (half_chord a (turned_of F a.angle))) [] (cond (by_centre F alone a) (curves_by_centre F alone a) (about_chord F a))
unfolding arc_curves lone_curves
in_one F true a = refl
in_one F false a = refl

pub none_at_a_point : (F : Functions) (alone : Bool) (a : ArcTo) → no_chord (half_chord a (turned_of F a.angle)) ≡ true → curves_of F alone a ≡ []
none_at_a_point F alone a none = in_one F alone a ∙ cond-true (no_chord (half_chord a (turned_of F a.angle))) _ _ none

pub by_both : (F : Functions) (alone : Bool) (a : ArcTo) → no_chord (half_chord a (turned_of F a.angle)) ≡ false
    → curves_of F alone a ≡ landing a (turned_of F a.angle) (half_chord a (turned_of F a.angle)) alone (start_round F a (turned_of F a.angle) (centred_of F alone a)) (curves_by_centre F alone a)
by_both F alone a some = in_one F alone a ∙ cond-false (no_chord (half_chord a (turned_of F a.angle))) _ _ some

-- ---- about the chord

short_count : (b : Bool) (x y z : Command) → OneTwoOrFour (length (cond b (x ∷ []) (y ∷ z ∷ [])))
short_count true x y z = inl refl
short_count false x y z = inr (inl refl)

chord_count : (a : ArcTo) (t : Turned) → OneTwoOrFour (length (chord_curves a t))
chord_count a t =
    let u = half_chord_of a t in
    cond_both (is_short a.size u) (short_curves a (frame_of a t u) (half_turn u)) (long_curves a (frame_of a t u) (half_turn u)) (λ (l : List Command). OneTwoOrFour (length l))
    (λ _. short_count (le (half_turn u).sine (half_turn u).cosine) _ _ _)
    (λ _. inr (inr refl))

chord_end : (a : ArcTo) (t : Turned) → end_of a.from (chord_curves a t) ≡ a.to
chord_end a t =
    let u = half_chord_of a t in
    cond_both (is_short a.size u) (short_curves a (frame_of a t u) (half_turn u)) (long_curves a (frame_of a t u) (half_turn u)) (λ (l : List Command). end_of a.from l ≡ a.to)
    (λ _. cond_both (le (half_turn u).sine (half_turn u).cosine) _ _ (λ (l : List Command). end_of a.from l ≡ a.to) (λ _. refl) (λ _. refl))
    (λ _. refl)

-- ---- each law

counts_few : (n : ℕ) → OneTwoOrFour n → (1 ≤ n) × (n ≤ 4)
counts_few n (inl e) = (omega (arith, e), omega (arith, e))
counts_few n (inr (inl e)) = (omega (arith, e), omega (arith, e))
counts_few n (inr (inr e)) = (omega (arith, e), omega (arith, e))

about_count : (F : Functions) (a : ArcTo) → OneTwoOrFour (length (about_chord F a))
about_count F a = cond_both (all_finite (chord_curves a (turned_of F a.angle))) (chord_curves a (turned_of F a.angle)) (CurveTo a.from a.to a.to ∷ []) (λ (l : List Command). OneTwoOrFour (length l)) (λ _. chord_count a (turned_of F a.angle)) (λ _. inl refl)

about_end : (F : Functions) (a : ArcTo) → end_of a.from (about_chord F a) ≡ a.to
about_end F a = cond_both (all_finite (chord_curves a (turned_of F a.angle))) (chord_curves a (turned_of F a.angle)) (CurveTo a.from a.to a.to ∷ []) (λ (l : List Command). end_of a.from l ≡ a.to) (λ _. chord_end a (turned_of F a.angle)) (λ _. refl)

pub few : (F : Functions) (alone : Bool) (a : ArcTo) → OneToFour (no_chord (half_chord a (turned_of F a.angle))) (curves_of F alone a)
few F alone a = subst (OneToFour (no_chord (half_chord a (turned_of F a.angle)))) (sym (in_one F alone a)) (go (no_chord (half_chord a (turned_of F a.angle))))
  where
    go : (b : Bool) → OneToFour b (cond b [] (cond (by_centre F alone a) (curves_by_centre F alone a) (about_chord F a)))
    go true = refl
    go false = cond_both (by_centre F alone a) (curves_by_centre F alone a) (about_chord F a) (OneToFour false) (λ _. round_few F a (turned_of F a.angle) (centred_of F alone a)) (λ _. counts_few (length (about_chord F a)) (about_count F a))

pub counted : (F : Functions) → ((x : Float) → Angle (F.arc_cosine x)) → (alone : Bool) (a : ArcTo) → CountedAs F alone a (curves_of F alone a)
counted F lawful alone a = subst (CountedAs F alone a) (sym (in_one F alone a)) (go (no_chord (half_chord a (turned_of F a.angle))) (by_centre F alone a))
  where
    go : (b d : Bool) → Counted b d (turn_of F a (centred_of F alone a)) (cond b [] (cond d (curves_by_centre F alone a) (about_chord F a)))
    go true d = refl
    go false true = needed F lawful a (turned_of F a.angle) (centred_of F alone a)
    go false false = about_count F a

-- what landing is, part by part
landed_near : (a : ArcTo) (p start : Vector) (row : List Command) → T (lands a p start row) → T (near_by (end_of a.from row) a.to (nearness a))
landed_near a p start row h =
    and_l (near_by (end_of a.from row) a.to (nearness a)) (all_finite row)
    (and_r (near_by start a.from (nearness a)) (near_by (end_of a.from row) a.to (nearness a) && all_finite row)
    (and_r (no_sliver p (radii_of a)) _ h))

landed_finite : (a : ArcTo) (p start : Vector) (row : List Command) → T (lands a p start row) → T (all_finite row)
landed_finite a p start row h =
    and_r (near_by (end_of a.from row) a.to (nearness a)) (all_finite row)
    (and_r (near_by start a.from (nearness a)) (near_by (end_of a.from row) a.to (nearness a) && all_finite row)
    (and_r (no_sliver p (radii_of a)) _ h))

pub reaches : (F : Functions) (alone : Bool) (a : ArcTo) → T alone → ReachesEnd a (curves_of F alone a)
unfolding lone_curves
reaches F false a never = absurd never
reaches F true a _ =
    let t = turned_of F a.angle in
    cond_both (no_chord (half_chord a t)) [] (cond (lands_by_centre F true a) (curves_by_centre F true a) (about_chord F a)) (ReachesEnd a)
    (λ _. inl refl)
    (λ _. cond_both (lands_by_centre F true a) (curves_by_centre F true a) (about_chord F a) (ReachesEnd a)
    (λ e. inr (inr (landed_near a (half_chord a t) (start_round F a t (centred_of F true a)) (curves_by_centre F true a) (T_from_true (lands_by_centre F true a) e))))
    (λ _. inr (inl (about_end F a))))

pub finite : (F : Functions) (alone : Bool) (a : ArcTo) → T alone → FiniteIfEnds a (curves_of F alone a)
unfolding lone_curves
finite F false a never ends = absurd never
finite F true a _ ends =
    let t = turned_of F a.angle in
    let from = and_l (point_finite a.from) (point_finite a.to) ends in
    let to = and_r (point_finite a.from) (point_finite a.to) ends in
    cond_both (no_chord (half_chord a t)) [] (cond (lands_by_centre F true a) (curves_by_centre F true a) (about_chord F a)) (λ (l : List Command). T (all_finite l))
    (λ _. tt)
    (λ _. cond_both (lands_by_centre F true a) (curves_by_centre F true a) (about_chord F a) (λ (l : List Command). T (all_finite l))
    (λ e. landed_finite a (half_chord a t) (start_round F a t (centred_of F true a)) (curves_by_centre F true a) (T_from_true (lands_by_centre F true a) e))
    (λ _. cond_both (all_finite (chord_curves a t)) (chord_curves a t) (CurveTo a.from a.to a.to ∷ []) (λ (l : List Command). T (all_finite l))
    (λ e. T_from_true (all_finite (chord_curves a t)) e)
    (λ _. all_three (point_finite a.from) (point_finite a.to) from to)))
  where
    all_three : (x y : Bool) → T x → T y → T ((x && (y && y)) && true)
    all_three true true h k = tt
    all_three true false h k = absurd k
    all_three false y h k = absurd h
