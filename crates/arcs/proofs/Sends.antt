-- Commands that are sent, one at a time.
use Rattle.std.proofs.Common.{◌≡◌, ℕ, ◌+◌, ◌<◌, ◌≤◌, Bool, true, false, cond, not, List, [], ◌∷◌, length, get_or, drop, take, map, ◌++◌, suc, T, append-nil, append_assoc, Ok, Err, Result, is_err, sym, refl, ap, ◌∙◌, subst, add-one, drop_of_length-le, drop-cons, arith, true≢false, zero, ◌&&◌}
use lib.Ieee.Fits.{and_l, and_r}
use Rattle.std.proofs.lemmas.Bool.{cond-true, cond-false, cond_both}
use Rattle.std.proofs.lemmas.Float.{T_from_true}
use Rattle.path.specs.declared.command.Command.{Command}
use Rattle.sinks.specs.declared.sink.Refused.{Refused}
use Rattle.sinks.specs.Meaning.{Meaning, SinkActs, takes, verdict, after, joined}
use Rattle.arcs.specs.Curves.{OneToFour}
use Rattle.path.specs.declared.refusal.Refusal.{Refusal}
use Rattle.path.specs.declared.refusal.Reason.TheVariants.{SinkRefused, ZeroRadius}
use Rattle.std.proofs.Math.Seq.{take-length}
use Rattle.arcs.specs.declared.arc_to.ArcTo.{ArcTo}
use Rattle.arcs.specs.Ends.{command_finite, all_finite}
use Rattle.arcs.specs.Laws.{ReachesEnd, FiniteIfEnds}
use Rattle.arcs.specs.LoneArcs.{Sending, sending, refused, sent_answer, taken, Few, Joined, ReachesIfDrawn, SentFinite}

-- a verdict is a refusal where the sink does not take the command
taken_unless : (b : Bool) (x : Refused) {r : Result (Unit {0}) Refused} {e : Bool} → r ≡ cond b (Ok tt) (Err x) → is_err r ≡ e → b ≡ not e
taken_unless true x is was = ap not (sym (ap is_err is) ∙ was)
taken_unless false x is was = ap not (sym (ap is_err is) ∙ was)

module _ {S : Type 0} (sinks : SinkActs S) where
  -- the next command, taken or not
  next : (cs : List Command) (i : ℕ) (d : Command) (s : S) (n : ℕ) → i < length cs
      → sending sinks (drop i cs) s n ≡ cond (takes (sinks.meaning s) (get_or cs i d)) (sending sinks (drop (i + 1) cs) (sinks.took s (get_or cs i d)) (n + 1)) (record { sink = s; sent = n; going = false })
  unfolding sending
  next cs i d s n h = rw (add-one, drop-cons cs i d) refl

  pub none_left : (cs : List Command) (i : ℕ) (s : S) (n : ℕ) {all : Sending S} → length cs ≤ i → sending sinks (drop i cs) s n ≡ all → record { sink = s; sent = n; going = true } ≡ all
  unfolding sending
  none_left cs i s n h left = sym (ap (λ l. sending sinks l s n) (drop_of_length-le cs h)) ∙ left

  pub stops : (cs : List Command) (i : ℕ) (d : Command) (s : S) (n : ℕ) {now : S} {r : Result (Unit {0}) Refused} {all : Sending S} → i < length cs
      → r ≡ verdict (sinks.meaning s) (get_or cs i d) → is_err r ≡ true → now ≡ after sinks s (get_or cs i d)
      → sending sinks (drop i cs) s n ≡ all → record { sink = now; sent = n; going = false } ≡ all
  stops cs i d s n h is was after left =
      let b = takes (sinks.meaning s) (get_or cs i d) in
      let no : b ≡ false = taken_unless b (record {}) is was in
      let stays = after ∙ cond-false b (sinks.took s (get_or cs i d)) s no in
      (λ j. record { sink = stays j; sent = n; going = false }) ∙ sym (cond-false b _ _ no) ∙ sym (next cs i d s n h) ∙ left

  pub goes_on : (cs : List Command) (i : ℕ) (d : Command) (s : S) (n : ℕ) {now : S} {r : Result (Unit {0}) Refused} {all : Sending S} → i < length cs
      → r ≡ verdict (sinks.meaning s) (get_or cs i d) → is_err r ≡ false → now ≡ after sinks s (get_or cs i d)
      → sending sinks (drop i cs) s n ≡ all → sending sinks (drop (i + 1) cs) now (n + 1) ≡ all
  goes_on cs i d s n h is was after left =
      let b = takes (sinks.meaning s) (get_or cs i d) in
      let yes : b ≡ true = taken_unless b (record {}) is was in
      let takes_it = after ∙ cond-true b (sinks.took s (get_or cs i d)) s yes in
      ap (λ x. sending sinks (drop (i + 1) cs) x (n + 1)) takes_it ∙ sym (cond-true b _ _ yes) ∙ sym (next cs i d s n h) ∙ left

  -- all that is sent where it goes on, and less where it stops
  abbrev Sent : ℕ → List Command → Sending S → Type 0
  Sent n cs d = (d.going ≡ true → d.sent ≡ n + length cs) × (d.going ≡ false → d.sent < n + length cs)

  pub sent_all : (cs : List Command) (s : S) (n : ℕ) → Sent n cs (sending sinks cs s n)
  unfolding sending
  sent_all [] s n = (λ _. omega arith, λ e. absurd (true≢false e))
  sent_all (c ∷ cs) s n = cond_both (takes (sinks.meaning s) c) _ _ (Sent n (c ∷ cs))
      (λ _. let k = sent_all cs (sinks.took s c) (n + 1) in (λ e. omega (arith, k.0 e), λ e. omega (arith, k.1 e)))
      (λ _. (λ e. absurd (true≢false (sym e)), λ _. omega arith))

  few_of : (point : Bool) (cs : List Command) (s : S) → OneToFour point cs → Few point (sent_answer (sending sinks cs s 0))
  few_of true cs s none =
      let d = sending sinks cs s 0 in
      let k = sent_all cs s 0 in
      let empty : length cs ≡ 0 = ap length none in
      cond_both d.going (Ok d.sent) (Err (refused SinkRefused d.sent)) (Few true) (λ e. omega (arith, k.0 e, empty)) (λ e. omega (arith, k.1 e, empty))
  few_of false cs s some =
      let d = sending sinks cs s 0 in
      let k = sent_all cs s 0 in
      cond_both d.going (Ok d.sent) (Err (refused SinkRefused d.sent)) (Few false) (λ e. (omega (arith, k.0 e, some.0), omega (arith, k.0 e, some.1))) (λ e. omega (arith, k.1 e, some.1))

-- by the count of the commands
pub few_sent : {S : Type 0} (sinks : SinkActs S) (point : Bool) (cs : List Command) (s : S) {row : List Command} {r : Result ℕ Refusal} → r ≡ sent_answer (sending sinks cs s 0) → cs ≡ row → OneToFour point row → Few point r
few_sent sinks point cs s is same few = subst (Few point) (sym is) (few_of sinks point cs s (subst (OneToFour point) (sym same) few))

module _ {S : Type 0} (sinks : SinkActs S) (grows : (s : S) (c : Command) → T (takes (sinks.meaning s) c) → sinks.meaning (sinks.took s c) ≡ joined (sinks.meaning s) c) where
  -- some commands more are taken, and they join the list
  abbrev More : ℕ → List Command → S → Sending S → Type 0
  More n cs s d = (k : ℕ) × (d.sent ≡ n + k) × ((sinks.meaning d.sink).list ≡ (sinks.meaning s).list ++ map (sinks.meaning s).map (take k cs))

  more : (cs : List Command) (s : S) (n : ℕ) → More n cs s (sending sinks cs s n)
  unfolding sending
  more [] s n = (0, omega arith, sym (append-nil (sinks.meaning s).list))
  more (c ∷ cs) s n = cond_both (takes (sinks.meaning s) c) _ _ (More n (c ∷ cs) s)
      (λ e. let k = more cs (sinks.took s c) (n + 1) in
      (suc k.0, omega (arith, k.1), k.2 ∙ ap (λ (m : Meaning). m.list ++ map m.map (take k.0 cs)) (grows s c (T_from_true _ e)) ∙ append_assoc (sinks.meaning s).list ((sinks.meaning s).map c ∷ []) (map (sinks.meaning s).map (take k.0 cs))))
      (λ _. (0, omega arith, sym (append-nil (sinks.meaning s).list)))

taken_is : {S : Type 0} (d : Sending S) → taken (sent_answer d) ≡ d.sent
taken_is d = cond_both d.going (Ok d.sent) (Err (refused SinkRefused d.sent)) (λ r. taken r ≡ d.sent) (λ _. refl) (λ _. refl)

pub joined_sent : {S : Type 0} (sinks : SinkActs S) (grows : (s : S) (c : Command) → T (takes (sinks.meaning s) c) → sinks.meaning (sinks.took s c) ≡ joined (sinks.meaning s) c) (cs : List Command) (s : S)
    {row : List Command} {r : Result ℕ Refusal} {now : S} → r ≡ sent_answer (sending sinks cs s 0) → cs ≡ row → now ≡ (sending sinks cs s 0).sink → Joined (sinks.meaning s) r row (sinks.meaning now)
joined_sent sinks grows cs s {row = row} {r = r} {now = now} is same there =
    let k = more sinks grows cs s 0 in
    let count : k.0 ≡ taken r = omega (arith, k.1, taken_is (sending sinks cs s 0), ap taken is) in
    ap (λ x. (sinks.meaning x).list) there ∙ k.2 ∙ (λ i. (sinks.meaning s).list ++ map (sinks.meaning s).map (take (count i) (same i)))

pub joined_none : (m : Meaning) (row : List Command) {r : Result ℕ Refusal} → r ≡ Err (refused ZeroRadius 0) → Joined m r row m
joined_none m row is = sym (append-nil m.list) ∙ ap (λ k. m.list ++ map m.map (take k row)) (sym (ap taken is))

-- all curves of an accepted arc are sent
reaches_of : {S : Type 0} (sinks : SinkActs S) (a : ArcTo) (cs : List Command) (s : S) → ReachesEnd a cs → ReachesIfDrawn a (sent_answer (sending sinks cs s 0)) cs
reaches_of sinks a cs s h =
    let d = sending sinks cs s 0 in
    cond_both d.going (Ok d.sent) (Err (refused SinkRefused d.sent)) (λ r. ReachesIfDrawn a r cs)
    (λ e. let all : d.sent ≡ length cs = omega (arith, (sent_all sinks cs s 0).0 e) in subst (ReachesEnd a) (sym (ap (λ n. take n cs) all ∙ take-length cs)) h)
    (λ _. tt)

pub reaches_sent : {S : Type 0} (sinks : SinkActs S) (a : ArcTo) (cs : List Command) (s : S) {row : List Command} {r : Result ℕ Refusal} → r ≡ sent_answer (sending sinks cs s 0) → cs ≡ row → ReachesEnd a row → ReachesIfDrawn a r row
reaches_sent sinks a cs s {row = row} {r = r} is same h = subst (λ q. ReachesIfDrawn a q row) (sym is) (subst (λ l. ReachesIfDrawn a (sent_answer (sending sinks cs s 0)) l) same (reaches_of sinks a cs s (subst (ReachesEnd a) (sym same) h)))

-- and what is sent of finite curves is finite
and_both : (x y : Bool) → T x → T y → T (x && y)
and_both true true h k = tt
and_both true false h k = absurd k
and_both false y h k = absurd h

pub finite_sent : (a : ArcTo) (row : List Command) (r : Result ℕ Refusal) → FiniteIfEnds a row → SentFinite a r row
finite_sent a row r h ends = first_finite row (taken r) (h ends)
  where
    first_finite : (row : List Command) (n : ℕ) → T (all_finite row) → T (all_finite (take n row))
    first_finite row zero h = tt
    first_finite [] (suc n) h = tt
    first_finite (c ∷ cs) (suc n) h = and_both (command_finite c) (all_finite (take n cs)) (and_l (command_finite c) (all_finite cs) h) (first_finite cs n (and_r (command_finite c) (all_finite cs) h))

pub finite_none : (a : ArcTo) (row : List Command) {r : Result ℕ Refusal} → r ≡ Err (refused ZeroRadius 0) → SentFinite a r row
finite_none a row is = subst (λ r. SentFinite a r row) (sym is) (λ _. tt)

pub reaches_none : (a : ArcTo) (row : List Command) {r : Result ℕ Refusal} → r ≡ Err (refused ZeroRadius 0) → ReachesIfDrawn a r row
reaches_none a row is = subst (λ r. ReachesIfDrawn a r row) (sym is) tt
