-- The number by which each reason for a refusal is told.
use Rattle.std.specs.Prelude.{ℕ}
use Rattle.path.specs.declared.refusal.Reason.{Reason}
use Rattle.path.specs.declared.refusal.Reason.TheVariants.{TooManyCommands, CoordinateOutOfRange, WidthTooLarge, TooManyDashes, BudgetTooLarge, StorageFull, StepsSpent, SinkRefused, ZeroRadius, UnknownLetter, MissingOperands, UnknownShape, ListFull}

abbrev pub number_of : Reason → ℕ
number_of TooManyCommands = 1
number_of CoordinateOutOfRange = 2
number_of WidthTooLarge = 3
number_of TooManyDashes = 4
number_of BudgetTooLarge = 5
number_of StorageFull = 6
number_of StepsSpent = 7
number_of SinkRefused = 8
number_of ZeroRadius = 9
number_of UnknownLetter = 10
number_of MissingOperands = 11
number_of UnknownShape = 12
number_of ListFull = 13
