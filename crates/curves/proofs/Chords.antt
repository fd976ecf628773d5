-- One chord more of those that are left.
use Rattle.std.proofs.Common.{◌≡◌, ℕ, suc, ◌+◌, ◌-◌, ◌<◌, sym, refl, ap, ◌∙◌, arith}
use Rattle.curves.specs.declared.curve.Curve.{Curve}
use Rattle.curves.specs.declared.curve.Walk.{Walk}
use Rattle.curves.specs.Curves.{next_chord, chords}

opened : (n : ℕ) (k : Curve) (w : Walk) → chords n k (next_chord k w) ≡ chords (suc n) k w
unfolding chords
opened n k w = refl

pub one_chord : (i : ℕ) (k : Curve) (w : Walk) {after end : Walk} → i < 65 → after ≡ next_chord k w → chords (65 - i) k w ≡ end → chords (65 - (i + 1)) k after ≡ end
one_chord i k w h is left =
    let n : 65 - i ≡ suc (65 - (i + 1)) = omega arith in
    ap (chords (65 - (i + 1)) k) is ∙ opened (65 - (i + 1)) k w ∙ ap (λ m. chords m k w) (sym n) ∙ left

pub no_chord : (i : ℕ) (k : Curve) (w : Walk) {end : Walk} → 65 - i ≡ 0 → chords (65 - i) k w ≡ end → w ≡ end
unfolding chords
no_chord i k w none left = sym (ap (λ m. chords m k w) none) ∙ left
