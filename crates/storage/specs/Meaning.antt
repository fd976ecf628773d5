-- What a storage answers, and what it is afterwards.
use Rattle.std.specs.Prelude.{ℕ, Bool, if◌then◌else◌, T, List, [], ◌∷◌, ◌++◌, length, Ok, Err, Result, nat_lt}
use Rattle.segments.specs.declared.segment.Segment.{Segment}
use Rattle.lists.specs.declared.lent.Full.{Full}

-- whether fewer segments are held than can be
abbrev pub room : List Segment → ℕ → Bool
room held capacity = nat_lt (length held) capacity

abbrev pub push_answer : List Segment → ℕ → Result (Unit {0}) Full
push_answer held capacity = if room held capacity then Ok tt else Err (record {})

-- What a storage does: the segments that it holds, how many it can hold, and the whole storage after it was cleared and with a segment added.
pub record StorageActs (B : Type 0) : Type 0 where
  pub held : B → List Segment
  pub capacity : B → ℕ
  pub cleared : B → B
  pub pushed : B → Segment → B

abbrev pub HasRoom : {B : Type 0} → StorageActs B → B → Type 0
HasRoom acts b = T (room (acts.held b) (acts.capacity b))

-- a storage after it was handed a segment: the one with the segment added, or as it was
abbrev pub after : {B : Type 0} → StorageActs B → B → Segment → B
after acts b x = if room (acts.held b) (acts.capacity b) then acts.pushed b x else b

-- A storage in values: what it holds, and how much it can hold.
pub record Held : Type 0 where
  pub segments : List Segment
  pub capacity : ℕ

abbrev pub empty_held : ℕ → Held
empty_held n = record { segments = []; capacity = n }

abbrev pub held_acts : StorageActs Held
held_acts = record {
  held = λ b. b.segments;
  capacity = λ b. b.capacity;
  cleared = λ b. empty_held b.capacity;
  pushed = λ b x. record b { segments = b.segments ++ (x ∷ []) };
}

-- what is held by a storage
abbrev pub held_by : {B : Type 0} → StorageActs B → B → Held
held_by acts b = record { segments = acts.held b; capacity = acts.capacity b }
