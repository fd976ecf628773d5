-- What a call answers, in numbers.
use Rattle.std.specs.Prelude.{ℕ, Ok, Err, Result}
use Rattle.path.specs.declared.refusal.Refusal.{Refusal}
use Rattle.path.specs.Refusals.{number_of}
use Rattle.stroke.specs.declared.tally.Tally.{Tally}
use Rattle.stroke_export.specs.declared.answer.Answer.{Answer}

-- so many bytes, and the tally, or the refusal's number, place and count of commands sent
abbrev pub told : ℕ → Result Tally Refusal → Answer
told n (Ok t) = record { length = n; sent = t.sent; place = 0; steps = t.steps; refusal = 0 }
told n (Err r) = record { length = n; sent = r.sent; place = r.place; steps = 0; refusal = number_of r.reason }
