-- What a stroking call asks first, before anything is altered.
use Rattle.std.specs.Prelude.{ℕ, Bool, true, cond, not, ◌&&◌, ◌||◌, List, length, position, nat_le, from_bits, is_nan, Some, None, Option, Ok, Err, Result, Float}
use Rattle.std.specs.Float.{binary32}
use Rattle.std.specs.Float.Ieee.{le, neg}
use Rattle.path.specs.declared.geometry.Vector.{Vector}
use Rattle.path.specs.declared.command.Command.{Command}
use Rattle.path.specs.declared.command.Command.TheVariants.{MoveTo, LineTo, CurveTo, QuadTo, Close}
use Rattle.path.specs.declared.refusal.Reason.{Reason}
use Rattle.path.specs.declared.refusal.Reason.TheVariants.{TooManyCommands, CoordinateOutOfRange, WidthTooLarge, TooManyDashes, BudgetTooLarge}
use Rattle.path.specs.declared.refusal.Refusal.{Refusal}
use Rattle.path.specs.declared.style.Stroke.{Stroke}
use Rattle.dashes.specs.StepCounts.{most_steps}

-- 1,048,576
abbrev pub farthest : Float
farthest = from_bits binary32 0x4980_0000

abbrev pub in_reach : Float → Bool
in_reach x = le (neg farthest) x && le x farthest

abbrev pub point_in_reach : Vector → Bool
point_in_reach p = in_reach p.x && in_reach p.y

-- each coordinate, those of control points too, lies from -1,048,576 to 1,048,576; a NaN does not
abbrev pub command_in_reach : Command → Bool
command_in_reach (MoveTo p) = point_in_reach p
command_in_reach (LineTo p) = point_in_reach p
command_in_reach (CurveTo b c p) = point_in_reach b && (point_in_reach c && point_in_reach p)
command_in_reach (QuadTo b p) = point_in_reach b && point_in_reach p
command_in_reach Close = true

-- the place of the first command with another coordinate
abbrev pub first_out_of_reach : List Command → Option ℕ
first_out_of_reach cs = position (λ c. not (command_in_reach c)) cs

-- a width of at most 4,096, or NaN
abbrev pub width_allowed : Float → Bool
width_allowed w = is_nan w || le w (from_bits binary32 0x4580_0000)

abbrev pub refused : Reason → ℕ → Result (Unit {0}) Refusal
refused why place = Err (record { reason = why; place = place; sent = 0 })

-- where it is allowed the next question comes
abbrev pub or_refused : Bool → Reason → Result (Unit {0}) Refusal → Result (Unit {0}) Refusal
or_refused allowed why next = cond allowed next (refused why 0)

abbrev pub none_or_refused : Option ℕ → Reason → Result (Unit {0}) Refusal → Result (Unit {0}) Refusal
none_or_refused None why next = next
none_or_refused (Some i) why next = refused why i

-- the five questions, in order
abbrev pub admitted : List Command → Stroke → List Float → ℕ → Result (Unit {0}) Refusal
admitted cs style dashes budget =
    or_refused (nat_le (length cs) 4096) TooManyCommands
    (none_or_refused (first_out_of_reach cs) CoordinateOutOfRange
    (or_refused (width_allowed style.width) WidthTooLarge
    (or_refused (nat_le (length dashes) 32) TooManyDashes
    (or_refused (nat_le budget most_steps) BudgetTooLarge (Ok tt)))))
