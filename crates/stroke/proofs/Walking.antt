-- The sides of a run, one after the other.
use Rattle.std.proofs.Common.{◌≡◌, ℕ, ◌+◌, ◌-◌, ◌<◌, ◌≤◌, List, [], ◌∷◌, ◌++◌, Bool, map, reverse, length, take, drop, true, false, is_ok, IsErrAnd, Ok, Err, Result, Some, None, Option, sym, refl, ap, ◌∙◌, add-one, arith, drop_of_length-le}
use mathlib.Core.List.{reverse-append}
use Rattle.std.specs.List.{slice_get}
use Rattle.std.proofs.Math.Seq.{drop-cons, take-suc}
use Rattle.std.proofs.lemmas.List.{take_all}
use Rattle.std.proofs.lemmas.Option.{slice_get_within, get_or_from_slice_get}
use Rattle.maths.specs.Functions.{HostActs}
use Rattle.sinks.specs.Meaning.{SinkActs}
use Rattle.segments.specs.declared.segment.Segment.{Segment}
use Rattle.pen.specs.declared.nib.Nib.{Nib}
use Rattle.pen.specs.declared.offset.OffsetSegment.{OffsetSegment}
use Rattle.sinks.specs.declared.sink.Refused.{Refused}
use Rattle.path.specs.declared.command.Command.TheVariants.{MoveTo, Close}
use Rattle.stroke.specs.Events.{Plan, ◌⨾◌, commands, by_nib, Standing, play, draw}
use Rattle.stroke.specs.Outlines.{lone_dot, dot_on, first_point, begin_events, cross_events, finish_events, turn_events, capped_ring, closed_ring, around, capped_outline, closed_outline, there, back, one_onward, onward, side, other_side, sides, other_sides, last_side, last_of, first_and_last, sides_on, other_sides_on}
use Rattle.stroke.proofs.Drawn.{draw_next, draw_none, draw_stopped, draw_by_nib}

-- the sides that are left from a place on
pub sides_left : (f : Segment → OffsetSegment) (xs : List Segment) (i : ℕ) (x : Segment) {o : OffsetSegment} {found : Option Segment} → found ≡ slice_get xs i → found ≡ Some x → o ≡ f x
    → map f (drop i xs) ≡ o ∷ map f (drop (i + 1) xs)
sides_left f xs i x there is side =
    let at = sym there ∙ is in
    rw (add-one, drop-cons xs i x (slice_get_within xs i x at), get_or_from_slice_get xs i x x at, side) refl

-- the last of the first i sides, and those before it, from the last one on
sides_last : (f : Segment → OffsetSegment) (xs : List Segment) (i : ℕ) (x : Segment) {o : OffsetSegment} {found : Option Segment} → found ≡ slice_get xs i → found ≡ Some x → o ≡ f x
    → map f (reverse (take (i + 1) xs)) ≡ o ∷ map f (reverse (take i xs))
sides_last f xs i x there is side =
    let at = sym there ∙ is in
    rw (add-one, take-suc xs i x (slice_get_within xs i x at), get_or_from_slice_get xs i x x at, reverse-append (take i xs) (x ∷ []), side) refl

pub sides_back : (f : Segment → OffsetSegment) (xs : List Segment) (i : ℕ) (x : Segment) {o : OffsetSegment} {found : Option Segment} → 0 < i → found ≡ slice_get xs (i - 1) → found ≡ Some x → o ≡ f x
    → map f (reverse (take i xs)) ≡ o ∷ map f (reverse (take (i - 1) xs))
sides_back f xs i x some there is side =
    let back : i ≡ (i - 1) + 1 = omega arith in
    ap (λ n. map f (reverse (take n xs))) back ∙ sides_last f xs (i - 1) x there is side

pub sides_none : (f : Segment → OffsetSegment) (xs : List Segment) (i : ℕ) → length xs ≤ i → map f (drop i xs) ≡ []
sides_none f xs i h = ap (map f) (drop_of_length-le xs h)

pub none_back : (f : Segment → OffsetSegment) (xs : List Segment) (i : ℕ) → i ≡ 0 → map f (reverse (take i xs)) ≡ []
none_back f [] i none = ap (λ n. map f (reverse (take n []))) none
none_back f (x ∷ xs) i none = ap (λ n. map f (reverse (take n (x ∷ xs)))) none

-- drawing on, with a side or more left, and with none
module _ {S K : Type 0} (sinks : SinkActs S) (hosts : HostActs K) (split : Bool) (o : OffsetSegment) where
  pub draws_on : (p : OffsetSegment) (ps : List OffsetSegment) (d : Standing S K) {e : Standing S K} {left : List OffsetSegment} → left ≡ p ∷ ps
      → e ≡ draw sinks hosts (one_onward split o p) d → draw sinks hosts (onward split p ps) e ≡ draw sinks hosts (onward split o left) d
  unfolding onward
  draws_on p ps d is drawn =
      ap (draw sinks hosts (onward split p ps)) drawn ∙ sym (draw_next sinks hosts (one_onward split o p) (onward split p ps) d) ∙ sym (ap (λ l. draw sinks hosts (onward split o l) d) is)

  pub draws_as_far : (p : OffsetSegment) (ps : List OffsetSegment) (d : Standing S K) {e : Standing S K} {left : List OffsetSegment} → left ≡ p ∷ ps
      → is_ok e.drawing.answer ≡ false → e ≡ draw sinks hosts (one_onward split o p) d → e ≡ draw sinks hosts (onward split o left) d
  draws_as_far p ps d {e = e} is refused drawn = sym (draw_stopped sinks hosts (onward split p ps) e refused) ∙ draws_on p ps d is drawn

  pub draws_none : (d : Standing S K) {left : List OffsetSegment} → left ≡ [] → draw sinks hosts (onward split o left) d ≡ d
  unfolding onward
  draws_none d none = ap (λ l. draw sinks hosts (onward split o l) d) none ∙ draw_none sinks hosts d

-- a refusal is passed on as it is
pub passed_on : {X : Type 0} (r : Result X Refused) (e : Refused) → IsErrAnd r (λ y. y ≡ e) → r ≡ Err e
passed_on (Ok x) e wrong = absurd wrong
passed_on (Err y) e is = ap Err is

-- the first segment of a row and the last are where its sides begin and end
last_at : (x : Segment) (xs : List Segment) → slice_get (x ∷ xs) (length xs) ≡ Some (last_of x xs)
last_at x [] = refl
last_at x (y ∷ ys) = last_at y ys

pub ends_found : (xs : List Segment) (n : ℕ) (x y : Segment) → n ≡ length xs → slice_get xs 0 ≡ Some x → slice_get xs (n - 1) ≡ Some y → Some (x, y) ≡ first_and_last xs
ends_found [] n x y long first last = absurd (let z : ◌≡◌ {A = ℕ} 0 1 = cc in omega arith)
ends_found (z ∷ zs) n x y long first last =
    let back : n - 1 ≡ length zs = omega arith in
    let at = last_at z zs in
    let same : ◌≡◌ {A = Option (Segment × Segment)} (Some (x, y)) (Some (z, last_of z zs)) = cc in
    same

empty_row : (xs : List Segment) → first_and_last xs ≡ None → xs ≡ []
empty_row [] none = refl
empty_row (z ∷ zs) none = absurd (let y : ◌≡◌ {A = ℕ} 0 1 = cc in omega arith)

first_side : (nib : Nib) (xs : List Segment) (x y : Segment) → first_and_last xs ≡ Some (x, y) → sides nib xs ≡ side nib x ∷ sides_on nib xs
first_side nib [] x y is = absurd (let z : ◌≡◌ {A = ℕ} 0 1 = cc in omega arith)
first_side nib (z ∷ zs) x y is =
    let same : ◌≡◌ {A = Segment × Segment} (z, last_of z zs) (x, y) = cc in
    ap (λ (s : Segment × Segment). side nib s.0 ∷ map (side nib) zs) same

first_other_side : (nib : Nib) (xs : List Segment) (x y : Segment) → first_and_last xs ≡ Some (x, y) → other_sides nib xs ≡ other_side nib y ∷ other_sides_on nib xs
first_other_side nib [] x y is = absurd (let z : ◌≡◌ {A = ℕ} 0 1 = cc in omega arith)
first_other_side nib (z ∷ zs) x y is =
    let back : length (z ∷ zs) - 1 ≡ length zs = omega arith in
    let same : ◌≡◌ {A = Segment × Segment} (z, last_of z zs) (x, y) = cc in
    let all : take (length zs + 1) (z ∷ zs) ≡ z ∷ zs = take_all (length zs + 1) (z ∷ zs) (omega arith) in
    ap (λ (l : List Segment). other_sides nib l) (sym all)
    ∙ sides_last (other_side nib) (z ∷ zs) (length zs) (last_of z zs) refl (last_at z zs) refl
    ∙ (λ i. other_side nib (same i).1 ∷ map (other_side nib) (reverse (take (sym back i) (z ∷ zs))))

-- where the sides end, and the other sides
last_mapped : (f : Segment → OffsetSegment) (x : Segment) (xs : List Segment) → last_side (f x) (map f xs) ≡ f (last_of x xs)
last_mapped f x [] = refl
last_mapped f x (y ∷ ys) = last_mapped f y ys

last_after : (f : Segment → OffsetSegment) (o : OffsetSegment) (ys : List Segment) (z : Segment) → last_side o (map f (ys ++ (z ∷ []))) ≡ f z
last_after f o [] z = refl
last_after f o (y ∷ ys) z = last_after f (f y) ys z

sides_end : (nib : Nib) (xs : List Segment) (x y : Segment) → first_and_last xs ≡ Some (x, y) → last_side (side nib x) (sides_on nib xs) ≡ side nib y
sides_end nib [] x y is = absurd (let z : ◌≡◌ {A = ℕ} 0 1 = cc in omega arith)
sides_end nib (z ∷ zs) x y is =
    let same : ◌≡◌ {A = Segment × Segment} (z, last_of z zs) (x, y) = cc in
    ap (λ (s : Segment × Segment). last_side (side nib s.0) (map (side nib) zs)) (sym same) ∙ last_mapped (side nib) z zs ∙ ap (λ (s : Segment × Segment). side nib s.1) same

other_sides_end : (nib : Nib) (xs : List Segment) (x y : Segment) → first_and_last xs ≡ Some (x, y) → last_side (other_side nib y) (other_sides_on nib xs) ≡ other_side nib x
other_sides_end nib [] x y is = absurd (let z : ◌≡◌ {A = ℕ} 0 1 = cc in omega arith)
other_sides_end nib (z ∷ zs) x y is =
    let same : ◌≡◌ {A = Segment × Segment} (z, last_of z zs) (x, y) = cc in
    let o = other_side nib y in
    ap (last_side o) (sym (first_other_side nib (z ∷ zs) x y is)) ∙ ap (λ (l : List Segment). last_side o (map (other_side nib) l)) (reverse-append (z ∷ []) zs)
    ∙ last_after (other_side nib) o (reverse zs) z ∙ ap (λ (s : Segment × Segment). other_side nib s.0) same

-- so a ring goes around them
abbrev Ring : Type 0
Ring = OffsetSegment → List OffsetSegment → OffsetSegment → List OffsetSegment → Plan

ring_found : (ring : Ring) (nib : Nib) (xs : List Segment) (x y : Segment) → first_and_last xs ≡ Some (x, y)
    → around ring (sides nib xs) (other_sides nib xs) ≡ ring (side nib x) (sides_on nib xs) (other_side nib y) (other_sides_on nib xs)
ring_found ring nib xs x y is = λ i. around ring (first_side nib xs x y is i) (first_other_side nib xs x y is i)

-- The rings by their parts, each part by the nib at its turn.
abbrev pub capped_parts : Bool → OffsetSegment → OffsetSegment → List Segment → Plan
capped_parts split o p xs =
    begin_events o ⨾ there split o 1 xs ⨾ by_nib (λ nib. cross_events (last_side o (sides_on nib xs)) p) ⨾ back p xs ⨾ by_nib (λ nib. finish_events (last_side p (other_sides_on nib xs)) o)

abbrev pub closed_parts : OffsetSegment → OffsetSegment → OffsetSegment → List Segment → Plan
closed_parts end b p xs = commands (MoveTo end.end ∷ []) ⨾ there false end 0 xs ⨾ turn_events b p ⨾ back p xs ⨾ commands (Close ∷ [])

module _ {S K : Type 0} (sinks : SinkActs S) (hosts : HostActs K) (d : Standing S K) where
  pub capped_found : (split : Bool) (xs : List Segment) {x y : Segment} {o p : OffsetSegment} {found : Option (Segment × Segment)}
      → found ≡ first_and_last xs → found ≡ Some (x, y) → o ≡ side d.nib x → p ≡ other_side d.nib y
      → draw sinks hosts (capped_parts split o p xs) d ≡ draw sinks hosts (capped_outline split xs) d
  unfolding draw
  capped_found split xs {x = x} {y = y} there is first turned =
      let at = sym there ∙ is in
      let same : capped_ring split _ (sides_on d.nib xs) _ (other_sides_on d.nib xs) ≡ _ = λ i. capped_ring split (first i) (sides_on d.nib xs) (turned i) (other_sides_on d.nib xs) in
      ap (λ (E : Plan). record d { drawing = play sinks hosts (E d.functions d.nib) d.drawing }) (same ∙ sym (ring_found (capped_ring split) d.nib xs x y at))

  pub closed_found : (xs : List Segment) {x y : Segment} {e b p : OffsetSegment} {found : Option (Segment × Segment)}
      → found ≡ first_and_last xs → found ≡ Some (x, y) → e ≡ side d.nib y → b ≡ other_side d.nib x → p ≡ other_side d.nib y
      → draw sinks hosts (closed_parts e b p xs) d ≡ draw sinks hosts (closed_outline xs) d
  unfolding draw
  closed_found xs {x = x} {y = y} there is end back turned =
      let at = sym there ∙ is in
      let e = end ∙ sym (sides_end d.nib xs x y at) in
      let b = back ∙ sym (other_sides_end d.nib xs x y at) in
      let parts : OffsetSegment → List OffsetSegment → OffsetSegment → OffsetSegment → Plan
      = λ e os b p. commands (MoveTo e.end ∷ []) ⨾ onward false e os ⨾ turn_events b p ⨾ onward true p (other_sides_on d.nib xs) ⨾ commands (Close ∷ []) in
      ap (λ (E : Plan). record d { drawing = play sinks hosts (E d.functions d.nib) d.drawing })
      ((λ i. parts (e i) (first_side d.nib xs x y at i) (b i) (turned i)) ∙ sym (ring_found closed_ring d.nib xs x y at))

  pub capped_none : (split : Bool) (xs : List Segment) → first_and_last xs ≡ None → draw sinks hosts (capped_outline split xs) d ≡ d
  capped_none split xs none = ap (λ l. draw sinks hosts (capped_outline split l) d) (empty_row xs none) ∙ draw_none sinks hosts d

  pub closed_none : (xs : List Segment) → first_and_last xs ≡ None → draw sinks hosts (closed_outline xs) d ≡ d
  closed_none xs none = ap (λ l. draw sinks hosts (closed_outline l) d) (empty_row xs none) ∙ draw_none sinks hosts d

-- a row with a first segment has its dot there
pub first_dot : (xs : List Segment) (x : Segment) → slice_get xs 0 ≡ Some x → lone_dot xs ≡ by_nib (dot_on (first_point x))
first_dot [] x is = absurd (let z : ◌≡◌ {A = ℕ} 0 1 = cc in omega arith)
first_dot (y ∷ ys) x is =
    let same : y ≡ x = cc in
    ap (λ z. by_nib (dot_on (first_point z))) same

-- where a walk ends
pub ruleset walked = (draws_none, sides_none, none_back, draw_by_nib)
