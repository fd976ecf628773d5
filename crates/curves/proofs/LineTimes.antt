-- The time on a line.
use Rattle.std.proofs.Common.{false}
use Rattle.std.specs.Float.{◌≤ᶠ◌, ◌<ᶠ◌, inf}
use lib.Ieee.{Float, lt}
use Rattle.numbers.specs.Arithmetic.{zero}
use Rattle.numbers.proofs.Orders.{at_most}
use Rattle.numbers.proofs.Quotients.{one_within, quotient_within}
use Rattle.std.proofs.lemmas.Bool.{cond_both}
use Rattle.std.proofs.lemmas.Float.{le_right, le_of_lt, T_from_true}
use Rattle.curves.specs.declared.line.Line.{Line}
use Rattle.curves.specs.declared.line.SegmentTime.{SegmentTime}
use Rattle.curves.specs.Lines.{line_time, line_length, FromZeroToOne}

pub from_zero_to_one : (l : Line) (d : Float) → zero ≤ᶠ d → d <ᶠ inf false → zero <ᶠ line_length l → FromZeroToOne (line_time l d).time
from_zero_to_one l d low finite above =
    let length = line_length l in
    cond_both (lt length d) _ _ (λ (t : SegmentTime). FromZeroToOne t.time)
    (λ past. one_within)
    (λ on. quotient_within d length low finite above (T_from_true _ (at_most length d (le_right zero length (le_of_lt zero length above)) (le_right zero d low) on)))
