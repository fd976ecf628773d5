-- Of a list's places only how many there are matters to what is read into them, and where they are more than the bytes not even that; nothing of where the bytes lie.
use Rattle.std.proofs.Common.{◌≡◌, ℕ, zero, suc, ◌+◌, ◌<◌, ◌≤◌, arith, ◌&&◌, Bool, true, false, List, [], ◌∷◌, ◌++◌, length, drop, Some, None, Ok, Err, Option, Result, nat_lt, sym, refl, ap, ap₂, ◌∙◌, subst, length-set}
use Rattle.std.proofs.lemmas.List.{take_more_set, length-replicate}
use Rattle.std.proofs.lemmas.Bool.{and_parts, ltb-true, lt-ltb}
use Rattle.std.specs.Borrow.{Bor}
use Rattle.std.specs.Float.{float_zero}
use denote.Ref.{MutBor}
use lib.Ieee.{Float, nan}
use Rattle.lists.specs.declared.lent.Lent.{Lent}
use Rattle.lists.specs.Lent.{items, empty, room, pushed}
use Rattle.path.specs.declared.command.Command.{Command}
use Rattle.path.specs.declared.command.Command.TheVariants.{Close}
use Rattle.path.specs.declared.refusal.Reason.{Reason}
use Rattle.path.specs.declared.refusal.Refusal.{Refusal}
use Rattle.job.specs.declared.item.Item.{Item}
use Rattle.job.specs.declared.item.Item.TheVariants.{Width, Join, MiterLimit, StartCap, EndCap, Offset, Dash, Path}
use Rattle.job.specs.Reading.{first}
use Rattle.job.specs.declared.reader.JobReader.{JobReader}
use Rattle.job.specs.declared.whole.Job.{Job}
use Rattle.job.specs.Readers.{start, left, moved, refusal}
use Rattle.job.specs.Jobs.{empty_job, styled, commands_of, dashes_of, has_place, takes, pushed_all, takes_item, with_item}
use Rattle.job.specs.Sayings.{said, places, said_by, AsMany}
use Rattle.job.specs.Whole.{Outcome, step, step_by, store_by, then, reading, whole}

-- ---- lists

-- alike for n elements more
record AlikeLists {X : Type 0} (n : ℕ) (l k : Lent X) : Type 0 where
  pub room : (i : ℕ) → i < n → nat_lt (l.count + i) (length l.places.now) ≡ nat_lt (k.count + i) (length k.places.now)
  pub count : l.count ≡ k.count
  pub held : items l ≡ items k

-- both take a row or neither does, and where they do they stay alike
record TakeAlike {X : Type 0} (n most : ℕ) (l k : Lent X) (xs : List X) : Type 0 where
  pub taken : takes most l xs ≡ takes most k xs
  pub after : takes most l xs ≡ true → AlikeLists n (pushed_all l xs) (pushed_all k xs)

fewer : {X : Type 0} (m n : ℕ) (l k : Lent X) → m ≤ n → AlikeLists n l k → AlikeLists m l k
fewer m n l k le a = record { room = λ i less. a.room i (omega (arith, less, le)); count = a.count; held = a.held }

module _ {X : Type 0} (most : ℕ) where
  next_room : (n : ℕ) (l : Lent X) (x : X) (i : ℕ) → nat_lt (l.count + 1 + i) (length (pushed l x).places.now) ≡ nat_lt (l.count + suc i) (length l.places.now)
  next_room n l x i = let e : l.count + 1 + i ≡ l.count + suc i = omega arith in ap₂ nat_lt e (length-set l.places.now l.count x)

  one_more : (n : ℕ) (l k : Lent X) (x : X) → room l ≡ true → room k ≡ true → AlikeLists (suc n) l k → AlikeLists n (pushed l x) (pushed k x)
  one_more n l k x fits fits' a = record {
    room = λ i less. next_room n l x i ∙ a.room (suc i) (omega (arith, less)) ∙ sym (next_room n k x i);
    count = ap (λ n. n + 1) a.count;
    held =
        take_more_set l.places.now l.count x (ltb-true l.count (length l.places.now) fits) ∙ ap (λ ys. ys ++ (x ∷ [])) a.held
        ∙ sym (take_more_set k.places.now k.count x (ltb-true k.count (length k.places.now) fits'));
  }

  same_place : (n : ℕ) (l k : Lent X) → AlikeLists (suc n) l k → has_place most l ≡ has_place most k
  same_place n l k a =
      let z : (c : ℕ) → c + 0 ≡ c = λ c. omega arith in
      let r : room l ≡ room k = ap (λ c. nat_lt c (length l.places.now)) (sym (z l.count)) ∙ a.room 0 (omega arith) ∙ ap (λ c. nat_lt c (length k.places.now)) (z k.count) in
      λ i. nat_lt (length (a.held i)) most && r i

  after_one : (n : ℕ) (b : Bool) (l k : Lent X) (x : X) (xs : List X) → has_place most l ≡ b → AlikeLists (suc (length xs + n)) l k
      → (AlikeLists (length xs + n) (pushed l x) (pushed k x) → TakeAlike n most (pushed l x) (pushed k x) xs) → TakeAlike n most l k (x ∷ xs)
  after_one n true l k x xs is a more =
      let is' : has_place most k ≡ true = sym (same_place (length xs + n) l k a) ∙ is in
      let t = more (one_more (length xs + n) l k x (and_parts _ _ is).1 (and_parts _ _ is').1 a) in
      record { taken = ap₂ ◌&&◌ (same_place (length xs + n) l k a) t.taken; after = λ all. t.after (and_parts _ _ all).1 }
  after_one n false l k x xs is a more =
      let none : takes most l (x ∷ xs) ≡ false = ap (λ b. b && takes most (pushed l x) xs) is in
      let none' : takes most k (x ∷ xs) ≡ false = ap (λ b. b && takes most (pushed k x) xs) (sym (same_place (length xs + n) l k a) ∙ is) in
      record { taken = none ∙ sym none'; after = λ all. absurd (cc (none, all)) }

  take_alike : (n : ℕ) (xs : List X) (l k : Lent X) → AlikeLists (length xs + n) l k → TakeAlike n most l k xs
  take_alike n [] l k a = record { taken = refl; after = λ _. fewer n (0 + n) l k (omega arith) a }
  take_alike n (x ∷ xs) l k a = after_one n (has_place most l) l k x xs refl (fewer (suc (length xs + n)) (length (x ∷ xs) + n) l k (omega arith) a) (take_alike n xs (pushed l x) (pushed k x))

-- ---- jobs and readers

-- alike for n items more
record AlikeJobs (n : ℕ) (j k : Job) : Type 0 where
  pub style : j.style ≡ k.style
  pub commands : AlikeLists n j.commands k.commands
  pub dashes : AlikeLists n j.dashes k.dashes

record AlikeReaders (r s : JobReader) : Type 0 where
  pub bytes : r.bytes.now ≡ s.bytes.now
  pub place : r.place ≡ s.place

record AlikeOutcomes {X : Type 0} (n : ℕ) (o p : Outcome X) : Type 0 where
  pub answer : o.answer ≡ p.answer
  pub reader : AlikeReaders o.reader p.reader
  pub job : AlikeJobs n o.job p.job

-- an item adds one element at most
one_command : (i : Item) → length (commands_of i) ≤ 1
one_command (Width x) = omega arith
one_command (Join j) = omega arith
one_command (MiterLimit x) = omega arith
one_command (StartCap c) = omega arith
one_command (EndCap c) = omega arith
one_command (Offset x) = omega arith
one_command (Dash x) = omega arith
one_command (Path c) = omega arith

one_dash : (i : Item) → length (dashes_of i) ≤ 1
one_dash (Width x) = omega arith
one_dash (Join j) = omega arith
one_dash (MiterLimit x) = omega arith
one_dash (StartCap c) = omega arith
one_dash (EndCap c) = omega arith
one_dash (Offset x) = omega arith
one_dash (Dash x) = omega arith
one_dash (Path c) = omega arith

module _ (n : ℕ) (j k : Job) (i : Item) (a : AlikeJobs (suc n) j k) where
  commands_alike : TakeAlike n 4096 j.commands k.commands (commands_of i)
  commands_alike = take_alike 4096 n (commands_of i) j.commands k.commands (fewer _ (suc n) j.commands k.commands (omega (arith, one_command i)) a.commands)

  dashes_alike : TakeAlike n 32 j.dashes k.dashes (dashes_of i)
  dashes_alike = take_alike 32 n (dashes_of i) j.dashes k.dashes (fewer _ (suc n) j.dashes k.dashes (omega (arith, one_dash i)) a.dashes)

  same_taken : takes_item j i ≡ takes_item k i
  same_taken = ap₂ ◌&&◌ commands_alike.taken dashes_alike.taken

  with_alike : takes_item j i ≡ true → AlikeJobs n (with_item j i) (with_item k i)
  with_alike taken =
      let both = and_parts (takes 4096 j.commands (commands_of i)) (takes 32 j.dashes (dashes_of i)) taken in
      record { style = ap (λ s. styled s i) a.style; commands = commands_alike.after both.0; dashes = dashes_alike.after both.1 }

  shorter : AlikeJobs n j k
  shorter = record {
    style = a.style;
    commands = fewer n (suc n) j.commands k.commands (omega arith) a.commands;
    dashes = fewer n (suc n) j.dashes k.dashes (omega arith) a.dashes;
  }

module _ (n : ℕ) (r s : JobReader) (j k : Job) (rs : AlikeReaders r s) (js : AlikeJobs (suc n) j k) where
  stays : AlikeJobs n j k
  stays = shorter n j k (Width nan) js

  same_refusal : (e : Reason) → refusal r e ≡ refusal s e
  same_refusal e = λ i. record { reason = e; place = rs.place i; sent = 0 }

  moved_alike : (m : ℕ) → AlikeReaders (moved r m) (moved s m)
  moved_alike m = record { bytes = rs.bytes; place = ap (λ p. p + m) rs.place }

  refused_alike : {X : Type 0} (e : Reason) → AlikeOutcomes {X = X} n (record { answer = Err (refusal r e); reader = r; job = j }) (record { answer = Err (refusal s e); reader = s; job = k })
  refused_alike e = record { answer = ap Err (same_refusal e); reader = rs; job = stays }

  stored_alike : (b : Bool) (x : Item × ℕ) → takes_item j x.0 ≡ b → AlikeOutcomes n (store_by b r j x) (store_by b s k x)
  stored_alike true x is = record { answer = refl; reader = moved_alike x.1; job = with_alike n j k x.0 js is }
  stored_alike false x is = refused_alike _

  found_alike : (o : Result (Option (Item × ℕ)) Reason) → AlikeOutcomes n (step_by o r j) (step_by o s k)
  found_alike (Ok None) = record { answer = refl; reader = rs; job = stays }
  found_alike (Ok (Some x)) = rw (← (same_taken n j k x.0 js)) (stored_alike (takes_item j x.0) x refl)
  found_alike (Err e) = refused_alike e

  step_alike : AlikeOutcomes n (step r j) (step s k)
  step_alike = subst (λ bytes. AlikeOutcomes n (step r j) (step_by (first bytes) s k)) (λ i. drop (rs.place i) (rs.bytes i)) (found_alike (first (left r)))

same_said : (n : ℕ) (o p : Outcome (Unit {0})) → AlikeOutcomes n o p → said o ≡ said p
same_said n o p a = λ i. record { answer = a.answer i; style = a.job.style i; commands = a.job.commands.held i; dashes = a.job.dashes.held i }

then_alike : (n : ℕ) (a : Result Bool Refusal) (r s : JobReader) (j k : Job) → AlikeReaders r s → AlikeJobs n j k → said (reading n r j) ≡ said (reading n s k)
    → said (then a r j (reading n)) ≡ said (then a s k (reading n))
then_alike n (Ok true) r s j k rs js more = more
then_alike n (Ok false) r s j k rs js more = same_said n _ _ (record { answer = refl; reader = rs; job = js })
then_alike n (Err e) r s j k rs js more = same_said n _ _ (record { answer = refl; reader = rs; job = js })

reading_alike : (n : ℕ) (r s : JobReader) (j k : Job) → AlikeReaders r s → AlikeJobs n j k → said (reading n r j) ≡ said (reading n s k)
unfolding reading
reading_alike zero r s j k rs js = same_said 0 _ _ (record { answer = refl; reader = rs; job = js })
reading_alike (suc n) r s j k rs js =
    let o = step r j in
    let p = step s k in
    let a = step_alike n r s j k rs js in
    subst (λ b. said (then o.answer o.reader o.job (reading n)) ≡ said (then b p.reader p.job (reading n))) a.answer
    (then_alike n o.answer o.reader p.reader o.job p.job a.reader a.job (reading_alike n o.reader p.reader o.job p.job a.reader a.job))

-- ---- what is read of bytes into a job's lists, which may hold anything

pub same_many : (bytes : List ℕ) (m n : ℕ) → m ≡ n → AsMany bytes m n
same_many bytes m n e i less = ap (nat_lt i) e

-- each item takes a byte at least
pub enough : (bytes : List ℕ) (m n : ℕ) → length bytes < m → length bytes < n → AsMany bytes m n
enough bytes m n over over' i less = lt-ltb i m (omega (arith, less, over)) ∙ sym (lt-ltb i n (omega (arith, less, over')))

fresh_alike : {X : Type 0} (bytes : List ℕ) (n : ℕ) (lent : MutBor (List X)) (x : X) → AsMany bytes (length lent.now) n → AlikeLists (suc (length bytes)) (empty lent) (empty (places n x))
fresh_alike bytes n lent x many =
    let z : (i : ℕ) → 0 + i ≡ i = λ i. omega arith in
    record { room = λ i less. ap (λ k. nat_lt k (length lent.now)) (z i) ∙ many i less ∙ ap₂ nat_lt (sym (z i)) (sym (length-replicate n x)); count = refl; held = refl }

pub says_in : (bytes : Bor (List ℕ)) (commands : MutBor (List Command)) (dashes : MutBor (List Float)) (m n : ℕ) → AsMany bytes.now (length commands.now) m → AsMany bytes.now (length dashes.now) n
    → said (whole (start bytes) (empty_job commands dashes)) ≡ said_by m n bytes.now
unfolding said_by
says_in bytes commands dashes m n many few =
    reading_alike (suc (length bytes.now)) (start bytes) (start (record { ref_ptr = (0, 0); now = bytes.now })) (empty_job commands dashes) (empty_job (places m Close) (places n float_zero))
    (record { bytes = refl; place = refl })
    (record { style = refl; commands = fresh_alike bytes.now m commands Close many; dashes = fresh_alike bytes.now n dashes float_zero few })
