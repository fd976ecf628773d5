-- The turns of reading a whole job.
use Rattle.std.proofs.Common.{◌≡◌, ℕ, zero, suc, ◌+◌, ◌<◌, ◌≤◌, Bool, true, false, length, Some, None, Ok, Err, Option, Result, refl, ap, ◌∙◌, subst, arith, length-drop}
use Rattle.path.specs.declared.refusal.Reason.{Reason}
use Rattle.path.specs.declared.refusal.Refusal.{Refusal}
use Rattle.job.specs.declared.item.Item.{Item}
use Rattle.job.specs.Reading.{first, Within}
use Rattle.job.proofs.Firsts.{within_at}
use Rattle.job.specs.declared.reader.JobReader.{JobReader}
use Rattle.job.specs.declared.whole.Job.{Job}
use Rattle.job.specs.Readers.{left, moved}
use Rattle.job.specs.Jobs.{takes_item}
use Rattle.job.specs.Whole.{Outcome, step, step_by, store_by, then, reading}

abbrev IsStored : Result Bool Refusal → Type 0
IsStored (Ok true) = Unit {0}
IsStored (Ok false) = ⊥
IsStored (Err x) = ⊥

is_stored : {o : Outcome Bool} {r' : JobReader} {j' : Job} → record { answer = Ok true; reader = r'; job = j' } ≡ o → IsStored o.answer
is_stored e = subst (λ (o : Outcome Bool). IsStored o.answer) e tt

-- a step that stored an item leaves fewer bytes
fewer_by_store : (b : Bool) (r : JobReader) (j : Job) (x : Item × ℕ) {r' : JobReader} {j' : Job} → (1 ≤ x.1) × (r.place + x.1 ≤ length r.bytes.now)
    → record { answer = Ok true; reader = r'; job = j' } ≡ store_by b r j x → length (left r') < length (left r)
fewer_by_store true r j x {r'} h e =
    let there : r' ≡ moved r x.1 = ap (λ (o : Outcome Bool). o.reader) e in
    rw there (simp length-drop (omega arith))
fewer_by_store false r j x h e = absurd (is_stored e)

fewer_by : (o : Result (Option (Item × ℕ)) Reason) (r : JobReader) (j : Job) {r' : JobReader} {j' : Job} → Within r.place (length r.bytes.now) o
    → record { answer = Ok true; reader = r'; job = j' } ≡ step_by o r j → length (left r') < length (left r)
fewer_by (Ok None) r j h e = absurd (is_stored e)
fewer_by (Ok (Some x)) r j h e = fewer_by_store (takes_item j x.0) r j x h e
fewer_by (Err x) r j h e = absurd (is_stored e)

-- one of n turns that lead to an end
pub turn : (n : ℕ) (r : JobReader) (j : Job) {a : Result Bool Refusal} {r' : JobReader} {j' : Job} {end : Outcome (Unit {0})}
    → length (left r) < n → reading n r j ≡ end → record { answer = a; reader = r'; job = j' } ≡ step r j
    → (m : ℕ) × (length (left r) ≤ m) × (then a r' j' (reading m) ≡ end)
unfolding reading
turn zero r j h e s = absurd (omega arith)
turn (suc m) r j h e s = (m, omega arith, ap (λ (o : Outcome Bool). then o.answer o.reader o.job (reading m)) s ∙ e)

-- what is left, read from here, comes to an end
abbrev pub Leads : JobReader → Job → Outcome (Unit {0}) → Type 0
Leads r j end = (n : ℕ) × (length (left r) < n) × (reading n r j ≡ end)

module _ (r : JobReader) (j : Job) {r' : JobReader} {j' : Job} where
  pub fewer : record { answer = Ok true; reader = r'; job = j' } ≡ step r j → length (left r') < length (left r)
  fewer s = fewer_by (first (left r)) r j (within_at r.bytes.now r.place refl) s

  pub goes_on : {end : Outcome (Unit {0})} → Leads r j end → record { answer = Ok true; reader = r'; job = j' } ≡ step r j → Leads r' j' end
  goes_on (n, h, e) s = let t = turn n r j h e s in (t.0, omega (arith, t.1, fewer s), t.2)

  pub ends : {end : Outcome (Unit {0})} → Leads r j end → record { answer = Ok false; reader = r'; job = j' } ≡ step r j → record { answer = Ok tt; reader = r'; job = j' } ≡ end
  ends (n, h, e) s = (turn n r j h e s).2

  pub refused : (x : Refusal) {end : Outcome (Unit {0})} → Leads r j end → record { answer = Err x; reader = r'; job = j' } ≡ step r j
      → record { answer = Err x; reader = r'; job = j' } ≡ end
  refused x (n, h, e) s = (turn n r j h e s).2
