-- Steps, counted up to a budget.
use Rattle.std.specs.Prelude.{ℕ, ◌+◌, Bool, cond, Ok, Err, Result, nat_le}
use Rattle.dashes.specs.declared.steps.Spent.{Spent}
use Rattle.dashes.specs.declared.steps.Steps.{Steps}

-- the most steps that a budget may admit
abbrev pub most_steps : ℕ
most_steps = 65536

abbrev pub none_taken : ℕ → Steps
none_taken budget = record { taken = 0; budget = budget }

-- whether as many steps as may be were taken
abbrev pub all_taken : Steps → Bool
all_taken s = nat_le s.budget s.taken

abbrev pub spend_answer : Steps → Result (Unit {0}) Spent
spend_answer s = cond (all_taken s) (Err (record {})) (Ok tt)

-- with one step more, or as they were where it is refused
abbrev pub spent_one : Steps → Steps
spent_one s = cond (all_taken s) s (record { taken = s.taken + 1; budget = s.budget })
