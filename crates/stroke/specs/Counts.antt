-- A sink that counts the commands which it takes.
use Rattle.std.specs.Prelude.{ℕ, ◌+◌, ◌-◌, ◌^◌, min}
use denote.Ref.{at_last}
use Rattle.sinks.specs.Meaning.{SinkActs}
use Rattle.stroke.specs.declared.counted.Counted.{Counted}

-- in numbers: a sink, and how many commands it took
abbrev pub counted : {S : Type 0} → SinkActs S → SinkActs (S × ℕ)
counted acts = record {
  meaning = λ s. acts.meaning s.0;
  took = λ s c. (acts.took s.0 c, s.1 + 1);
}

-- one more, as far as a u64 counts
abbrev pub one_more : ℕ → ℕ
one_more n = min (n + 1) (2 ^ 64 - 1)

-- as code counts
abbrev pub counting : {S : Type 0} → SinkActs S → SinkActs (Counted S)
counting acts = record {
  meaning = λ s. acts.meaning s.sink.now;
  took = λ s c. record { sink = at_last s.sink (acts.took s.sink.now c); sent = one_more s.sent };
}
