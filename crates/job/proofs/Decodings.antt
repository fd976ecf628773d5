-- Records are read back.
use Rattle.std.proofs.Common.{◌≡◌, ℕ, suc, zero, ◌≤◌, List, [], ◌∷◌, ◌++◌, map, length, drop, sym, refl, ap, ◌∙◌, subst, arith, length-append}
use Rattle.std.proofs.lemmas.List.{drop_at}
use Rattle.path.specs.declared.command.Command.{Command}
use Rattle.job.specs.declared.item.Item.TheVariants.{Path}
use Rattle.job.specs.Spelling.{Fitting}
use Rattle.job.specs.Writing.{record_of}
use Rattle.job.proofs.Round.{read_first}
use Rattle.job.specs.Laws.{AllFitting}
use Rattle.job.specs.Decoding.{records, found_then, decoded, commands_in, Spells}
use Rattle.job.specs.TapeLaws.{records_more}

decoded_records : (cs : List Command) (n : ℕ) → AllFitting (map Path cs) → length cs ≤ n → decoded n (records cs) ≡ cs
unfolding decoded
decoded_records [] zero fitting enough = refl
decoded_records [] (suc n) fitting enough = refl
decoded_records (c ∷ cs) zero fitting enough = absurd (omega arith)
decoded_records (c ∷ cs) (suc n) fitting enough =
    let row = record_of c in
    ap (λ o. found_then o (λ size. decoded n (drop size (row ++ records cs)))) (read_first (Path c) (records cs) fitting.0)
    ∙ ap (λ ds. c ∷ ds) (ap (decoded n) (drop_at row (records cs) (length row) refl) ∙ decoded_records cs n fitting.1 (omega arith))

shorter : (cs : List Command) → length cs ≤ length (records cs)
shorter [] = omega arith
shorter (c ∷ cs) = simp length-append (omega (arith, shorter cs))

commands_records : (cs : List Command) → AllFitting (map Path cs) → commands_in (records cs) ≡ cs
commands_records cs fitting = decoded_records cs (length (records cs)) fitting (shorter cs)

fitting_more : (cs : List Command) (c : Command) → AllFitting (map Path cs) → Fitting (Path c) → AllFitting (map Path (cs ++ (c ∷ [])))
fitting_more [] c fitting last = (last, tt)
fitting_more (d ∷ cs) c fitting last = (fitting.0, fitting_more cs c fitting.1 last)

-- a record more spells a command more
pub spells_more : (bytes : List ℕ) (c : Command) → Spells bytes → Fitting (Path c) → Spells (bytes ++ record_of c) × (commands_in (bytes ++ record_of c) ≡ commands_in bytes ++ (c ∷ []))
spells_more bytes c s last =
    let cs = commands_in bytes ++ (c ∷ []) in
    let fitting : AllFitting (map Path cs) = fitting_more (commands_in bytes) c s.fitting last in
    let is : bytes ++ record_of c ≡ records cs = ap (λ bs. bs ++ record_of c) s.whole ∙ sym (records_more (commands_in bytes) c) in
    let read : commands_in (bytes ++ record_of c) ≡ cs = ap commands_in is ∙ commands_records cs fitting in
    (record { whole = is ∙ ap records (sym read); fitting = subst (λ ds. AllFitting (map Path ds)) (sym read) fitting }, read)

pub shorter_in : (bytes : List ℕ) → Spells bytes → length (commands_in bytes) ≤ length bytes
shorter_in bytes s = subst (λ bs. length (commands_in bytes) ≤ length bs) (sym s.whole) (shorter (commands_in bytes))
