-- A value shown in a new text.
use Rattle.std.proofs.Common.{◌≡◌, ℕ, List, [], ◌∷◌, ◌++◌, Some, None, Option, IfSome, ap, ◌∙◌}
use Rattle.std.proofs.lemmas.Fmt.{contents_after_writes}
use Rattle.std.specs.Fmt.{WritesText, with_newline}
use Rattle.arrayvec.specs.ArrayString.{ArrayString}

pub text_shown : (o : Option (List ℕ)) (s t : ArrayString) → s.bytes ≡ [] → WritesText (λ (s : ArrayString) bs (t : ArrayString). t.bytes ≡ s.bytes ++ bs) s (with_newline o) t
    → IfSome o (λ shown. t.bytes ≡ shown ++ (10 ∷ []))
text_shown None s t none h = tt
text_shown (Some x) s t none h = contents_after_writes _ (λ (t : ArrayString). t.bytes) (λ s bs t h. h) s _ t h ∙ ap (λ l. l ++ (x ++ (10 ∷ []))) none
