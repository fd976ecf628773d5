use Rattle.std.proofs.Common.{◌≡◌, ◌*◌, ◌%◌, ◌^◌, ◌<◌}
use Rattle.dashes.proofs.remainder.Digits.rest.Given as goal

-- as many digits more as there were turns
abbrev pub invariant-loop : goal.invariant-loop
invariant-loop l = record { digits : l.rest ≡ l.fn.self.digits * 2 ^ l.counter % l.by.digits; small : l.rest < 2 ^ 24 }
