-- A tape with a record more.
use Rattle.std.proofs.Common.{◌≡◌, ℕ, ◌+◌, ◌-◌, ◌≤◌, Bool, true, false, cond, nat_le, List, [], ◌∷◌, ◌++◌, length, take, Some, None, Option, sym, refl, ap, ◌∙◌, subst, arith, length-append, length-take-le}
use Rattle.std.proofs.Math.Seq.{take-append_seam}
use Rattle.std.proofs.lemmas.Bool.{leb-true}
use denote.Ref.{MutBor, at_last}
use Rattle.path.specs.declared.command.Command.{Command}
use Rattle.job.specs.declared.item.Item.TheVariants.{Path}
use Rattle.job.specs.Spelling.{Fitting}
use Rattle.job.specs.Writing.{written, record_of, fits, size_written, with_record}
use Rattle.sinks.specs.Meaning.{takes, after}
use Rattle.job.specs.Decoding.{records, commands_in, Spells}
use Rattle.job.specs.Tapes.{Written, spelling, grown, tape_acts}
use Rattle.job.specs.TapeLaws.{priced, length_written}
use Rattle.job.proofs.Decodings.{spells_more}

-- the first bytes are records
abbrev pub Holds : List ℕ → ℕ → Type 0
Holds bytes count = (count ≤ length bytes) × Spells (take count bytes)

-- the bytes after a command was taken
pub record Taken (bytes : List ℕ) (count : ℕ) (c : Command) (size : ℕ) (new : List ℕ) : Type 0 where
  pub room : fits bytes count c ≡ true
  pub row : new ≡ written bytes count (record_of c)
  pub holds : Holds new (count + size)
  pub commands : commands_in (take (count + size) new) ≡ commands_in (take count bytes) ++ (c ∷ [])

abbrev IsThere : Option ℕ → Type 0
IsThere None = ⊥
IsThere (Some n) = Unit {0}

the_number : Option ℕ → ℕ
the_number None = 0
the_number (Some n) = n

by_room : (b : Bool) (n size : ℕ) (xs ys : List ℕ) {zs : List ℕ} → cond b (Some n) None ≡ Some size → zs ≡ cond b xs ys → (b ≡ true) × (size ≡ n) × (zs ≡ xs)
unfolding the_number
by_room true n size xs ys e is = (refl, sym (ap the_number e), is)
by_room false n size xs ys e is = absurd (subst IsThere (sym e) tt)

front_more : (bytes : List ℕ) (count : ℕ) (row : List ℕ) → count ≤ length bytes → take (count + length row) (written bytes count row) ≡ take count bytes ++ row
front_more bytes count row h =
    let long : count + length row ≡ length (take count bytes ++ row) = simp length-append (omega (arith, length-take-le count bytes h)) in
    ap (λ n. take n (written bytes count row)) long ∙ take-append_seam (take count bytes ++ row) _

pub taken : (bytes : List ℕ) (count : ℕ) (c : Command) (size : ℕ) {answer : Option ℕ} {after : List ℕ} → answer ≡ Some size → answer ≡ size_written bytes count c → after ≡ with_record bytes count c
    → Holds bytes count → Fitting (Path c) → Taken bytes count c size after
taken bytes count c size {after} some answer new (within, spells) fitting =
    let row = record_of c in
    let b = by_room (fits bytes count c) (length row) size _ _ (sym answer ∙ some) new in
    let room : count + length row ≤ length bytes = omega (arith, leb-true (length row) (length bytes - count) b.0) in
    let front : take (count + length row) (written bytes count row) ≡ take count bytes ++ row = front_more bytes count row within in
    let more = spells_more (take count bytes) c spells fitting in
    let there : Taken bytes count c (length row) (written bytes count row) = record {
      room = b.0;
      row = refl;
      holds = (rw (length_written bytes count row room) room, subst Spells (sym front) more.0);
      commands = ap commands_in front ∙ more.1;
    } in
    subst (λ n. Taken bytes count c n after) (sym b.1) (subst (Taken bytes count c (length row)) (sym b.2) there)

pub used : (bytes : List ℕ) (count : ℕ) → Holds bytes count → length (records (commands_in (take count bytes))) ≡ count
used bytes count (within, spells) = ap length (sym spells.whole) ∙ length-take-le count bytes within

pub after_taken : (bytes : MutBor (List ℕ)) (count : ℕ) (c : Command) (size : ℕ) {new : List ℕ} → Holds bytes.now count → Taken bytes.now count c size new
    → record { commands = commands_in (take (count + size) new); bytes = at_last bytes new } ≡ after tape_acts (record { commands = commands_in (take count bytes.now); bytes = bytes }) c
after_taken bytes count c size {new} holds t =
    let w : Written = record { commands = commands_in (take count bytes.now); bytes = bytes } in
    let place : length (records w.commands) ≡ count = used bytes.now count holds in
    let fit : takes (spelling w) c ≡ true =
    ap (λ p. nat_le p (length bytes.now - length (records w.commands))) (sym (priced c)) ∙ ap (λ n. nat_le (length (record_of c)) (length bytes.now - n)) place ∙ t.room in
    let new_is : new ≡ written bytes.now (length (records w.commands)) (record_of c) = t.row ∙ ap (λ n. written bytes.now n (record_of c)) (sym place) in
    let is : record { commands = commands_in (take (count + size) new); bytes = at_last bytes new } ≡ grown w c = λ i. record { commands = t.commands i; bytes = at_last bytes (new_is i) } in
    is ∙ sym (ap (λ b. cond b (grown w c) w) fit)
