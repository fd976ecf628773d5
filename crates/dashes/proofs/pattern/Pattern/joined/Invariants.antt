use Rattle.std.proofs.Common.{◌≡◌, ◌-◌, length}
use Rattle.dashes.specs.Patterns.{joined_over, empty_after, length_at}
use Rattle.dashes.proofs.pattern.Pattern.joined.Given as goal

-- the dash so far goes on as the whole one does
abbrev pub invariant-loop : goal.invariant-loop
invariant-loop l =
    let xs = l.self.lengths.now in
    joined_over (l.end - l.counter) (empty_after xs l.at) xs l.at l.len ≡ joined_over (length xs) (empty_after xs l.i) xs l.i (length_at xs l.i)
