-- A byte sink that took commands holds their records, and then what its bytes held.
use Rattle.std.proofs.Common.{◌≡◌, ℕ, ◌+◌, List, [], ◌∷◌, ◌++◌, length, drop, sym, refl, ap, ◌∙◌, length-append}
use Rattle.std.proofs.Math.Seq.{take-append_seam}
use Rattle.std.proofs.lemmas.List.{drop_at, drop-drop}
use denote.Ref.{MutBor, at_last}
use Rattle.path.specs.declared.command.Command.{Command}
use Rattle.job.specs.Writing.{written, record_of}
use Rattle.job.specs.Decoding.{records}
use Rattle.job.specs.ByteSinks.{overwritten, over, grown}
use Rattle.job.specs.TapeLaws.{records_more}

used_more : (cs : List Command) (c : Command) → length (records (cs ++ (c ∷ []))) ≡ length (records cs) + length (record_of c)
used_more cs c = ap length (records_more cs c) ∙ length-append (records cs) (record_of c)

overwritten_more : (bytes : List ℕ) (cs : List Command) (c : Command) → overwritten bytes (cs ++ (c ∷ [])) ≡ written (overwritten bytes cs) (length (records cs)) (record_of c)
overwritten_more bytes cs c =
    let front = records cs in
    let row = record_of c in
    let rest = drop (length front) bytes in
    let later : drop (length front + length row) (front ++ rest) ≡ drop (length (records (cs ++ (c ∷ [])))) bytes =
    sym (drop-drop (length row) (length front) (front ++ rest)) ∙ ap (drop (length row)) (drop_at front rest (length front) refl) ∙ drop-drop (length row) (length front) bytes ∙ ap (λ n. drop n bytes) (sym (used_more cs c)) in
    (λ i. records_more cs c i ++ sym later i) ∙ ap (λ bs. bs ++ row ++ drop (length front + length row) (front ++ rest)) (sym (take-append_seam front rest))

pub over_grows : (b : MutBor (List ℕ)) (cs : List Command) (c : Command) → over b (cs ++ (c ∷ [])) ≡ grown (over b cs) c
over_grows b cs c = λ i. record { bytes = at_last b (overwritten_more b.now cs c i); used = used_more cs c i; taken = record { commands = cs ++ (c ∷ []) } }
