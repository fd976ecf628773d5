-- A tape with one command more means the list with that command joined.
use Rattle.std.specs.Prelude.{◌≡◌, ◌+◌, ◌-◌, ◌≤◌, T, [], ◌∷◌, ◌++◌, length, refl}
use Rattle.std.proofs.Common.{sym, ap, ◌∙◌, List, ℕ, leb→le, append_assoc, append-nil, arith, length-append, length-take, length-drop}
use Rattle.path.specs.declared.command.Command.{Command}
use Rattle.path.specs.declared.command.Command.TheVariants.{MoveTo, LineTo, CurveTo, QuadTo, Close}
use Rattle.path.specs.Kinds.{kind}
use Rattle.job.specs.Writing.{written, record_of}
use Rattle.sinks.specs.Meaning.{takes, joined}
use Rattle.job.specs.Decoding.{records}
use Rattle.job.specs.Tapes.{Written, price, spelling, grown}

-- a record costs its bytes
pub priced : (c : Command) → length (record_of c) ≡ price (kind c)
priced (MoveTo p) = refl
priced (LineTo p) = refl
priced (CurveTo a b p) = refl
priced (QuadTo a p) = refl
priced Close = refl

pub costs : (c : Command) → 1 ≤ price (kind c)
costs (MoveTo p) = omega arith
costs (LineTo p) = omega arith
costs (CurveTo a b p) = omega arith
costs (QuadTo a p) = omega arith
costs Close = omega arith

pub records_more : (cs : List Command) (c : Command) → records (cs ++ (c ∷ [])) ≡ records cs ++ record_of c
records_more [] c = append-nil (record_of c)
records_more (d ∷ cs) c = ap (λ bs. record_of d ++ bs) (records_more cs c) ∙ sym (append_assoc (record_of d) (records cs) (record_of c))

pub length_written : (bytes : List ℕ) (place : ℕ) (row : List ℕ) → place + length row ≤ length bytes → length (written bytes place row) ≡ length bytes
length_written bytes place row room = simp (length-append, length-take, length-drop) (omega arith)

pub spelling_grows : (w : Written) (c : Command) → T (takes (spelling w) c) → spelling (grown w c) ≡ joined (spelling w) c
spelling_grows w c fits =
    let bytes = w.bytes.now in
    let used = length (records w.commands) in
    let row = record_of c in
    let room : used + length row ≤ length bytes = omega (arith, leb→le (price (kind c)) (length bytes - used) fits, priced c, costs c) in
    let units : length (written bytes used row) - length (records (w.commands ++ (c ∷ []))) ≡ (length bytes - used) - price (kind c) =
    rw (length_written bytes used row room, records_more w.commands c) (simp length-append (omega (arith, priced c))) in
    λ i. record { list = w.commands ++ (c ∷ []); units = units i; price = price; map = λ d. d }
