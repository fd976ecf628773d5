-- A whole job that is spelled is stored.
use Rattle.std.proofs.Common.{◌≡◌, ℕ, suc, ◌<◌, true, List, [], ◌∷◌, ◌++◌, length, Ok, sym, refl, ap, ◌∙◌, subst, append_assoc, append-nil, add-zero, arith, length-append}
use Rattle.std.proofs.lemmas.Bool.{and_from}
use Rattle.std.specs.List.{flat_map}
use Rattle.lists.specs.Lent.{items}
use Rattle.job.specs.declared.item.Item.{Item}
use Rattle.job.specs.Spelling.{Fitting, spelled}
use Rattle.job.specs.Reading.{first}
use Rattle.job.specs.declared.reader.JobReader.{JobReader}
use Rattle.job.specs.declared.whole.Job.{Job}
use Rattle.job.specs.Readers.{left, moved}
use Rattle.job.specs.Jobs.{commands_of, dashes_of, takes_item, with_item}
use Rattle.job.specs.Whole.{Outcome, step, step_by, store_by, reading, whole}
use Rattle.job.specs.Laws.{AllFitting, EnoughPlaces, Stored, StoresSpelled}
use Rattle.job.proofs.Pushes.{row_taken}
use Rattle.job.proofs.Spelled.{finds_spelled}
use Rattle.job.proofs.Turns.{turn}

-- a step over an item that is spelled
stepped : (i : Item) (rest : List ℕ) (r : JobReader) (j : Job) → Fitting i → left r ≡ spelled i ++ rest → takes_item j i ≡ true
    → record { answer = Ok true; reader = moved r (length (spelled i)); job = with_item j i } ≡ step r j
stepped i rest r j fitting is takes = sym (ap (λ o. step_by o r j) (finds_spelled r refl i rest fitting is).0 ∙ ap (λ b. store_by b r j (i, length (spelled i))) takes)

stores : (is : List Item) (n : ℕ) (r : JobReader) (j : Job) → length (left r) < n → AllFitting is → left r ≡ flat_map spelled is
    → EnoughPlaces 4096 j.commands (length (flat_map commands_of is)) → EnoughPlaces 32 j.dashes (length (flat_map dashes_of is)) → Stored is r j (reading n r j)
stores [] n r j h fitting spells commands dashes =
    let t = turn n r j h refl (sym (ap (λ bytes. step_by (first bytes) r j) spells)) in
    subst (Stored [] r j) t.2 (record {
      accepted = refl;
      reader = ap (λ p. record { bytes = r.bytes; place = p }) (sym (add-zero r.place));
      job = refl;
      style = refl;
      commands = sym (append-nil (items j.commands));
      dashes = sym (append-nil (items j.dashes));
    })
stores (i ∷ is) n r j h fitting spells commands dashes =
    let rest = flat_map spelled is in
    let to = moved r (length (spelled i)) in
    let c = row_taken 4096 (commands_of i) j.commands (length (flat_map commands_of is)) (simp length-append at commands) in
    let d = row_taken 32 (dashes_of i) j.dashes (length (flat_map dashes_of is)) (simp length-append at dashes) in
    let t = turn n r j h refl (stepped i rest r j fitting.0 spells (and_from _ _ c.taken d.taken)) in
    let after : left to ≡ rest = (finds_spelled r refl i rest fitting.0 spells).1 in
    let fewer : length (left to) < t.0 = omega (arith, t.1, ap length after, simp length-append at (ap length spells)) in
    let more = stores is t.0 to (with_item j i) fewer fitting.1 after c.enough d.enough in
    subst (Stored (i ∷ is) r j) t.2 (record {
      accepted = more.accepted;
      reader = more.reader ∙ ap (λ p. record { bytes = r.bytes; place = p }) (simp length-append (omega arith));
      job = more.job;
      style = more.style;
      commands = more.commands ∙ ap (λ cs. cs ++ flat_map commands_of is) c.held ∙ append_assoc (items j.commands) (commands_of i) (flat_map commands_of is);
      dashes = more.dashes ∙ ap (λ xs. xs ++ flat_map dashes_of is) d.held ∙ append_assoc (items j.dashes) (dashes_of i) (flat_map dashes_of is);
    })

pub stores_spelled : (r : JobReader) (j : Job) (o : Outcome (Unit {0})) → o ≡ whole r j → StoresSpelled r j o
stores_spelled r j o e is fitting spells commands dashes = subst (Stored is r j) (sym e) (stores is (suc (length (left r))) r j (omega arith) fitting spells commands dashes)
