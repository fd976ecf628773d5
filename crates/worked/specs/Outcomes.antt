-- How the outcome of a worked stroke is told.
use Rattle.std.specs.Prelude.{◌≡◌, ℕ, ◌-◌, ℤ, pos, negsuc, Bool, false, List, [], ◌∷◌, length, Ok, Err, Result, Some, None, Option, Float}
use Rattle.maths.specs.Functions.{Functions}
use Rattle.path.specs.declared.command.Command.{Command}
use Rattle.path.specs.declared.command.Command.TheVariants.{Close}
use Rattle.path.specs.declared.refusal.Reason.TheVariants.{StepsSpent}
use Rattle.path.specs.declared.refusal.Refusal.{Refusal}
use Rattle.sinks.specs.Meaning.{Meaning}
use Rattle.sinks.specs.Records.{with_places}
use Rattle.dashes.specs.declared.dasher.Range.{Range}
use Rattle.dashes.specs.Dashers.{begun, first_dash}
use Rattle.dashes.specs.Patterns.{Dashes, pattern_of}
use Rattle.dashes.specs.StepCounts.{most_steps}
use Rattle.dashes.specs.Walks.{passed}
use Rattle.stroke.specs.Histories.{Call, made, row_of, steps_of, ranges_of, taken_of}
use Rattle.stroke.specs.declared.tally.Tally.{Tally}
use Rattle.worked.specs.declared.Worked.{Worked}
use Rattle.worked.specs.Inputs.{from, to, commands_of, style_of, dashes_of}

abbrev pub done : ℕ → ℕ → Result Tally Refusal
done sent steps = Ok (record { sent = sent; steps = steps })

-- with no end read
abbrev pub spent : ℕ → Result Tally Refusal
spent sent = Err (record { reason = StepsSpent; place = 0; sent = sent })

-- a storage of 128 segments
abbrev pub call : Functions → Worked → ℕ → Result Tally Refusal → Call
call F w budget answer = record { commands = commands_of w; style = style_of w; dashes = dashes_of w; functions = F; capacity = 128; budget = budget; answer = answer }

-- a list of 1,024 places
abbrev pub holding : List Command → Meaning
holding cs = with_places (1024 - length cs) cs

-- The stroke answers so, and leaves an empty list with these commands, whatever the host's functions are.
pub record Leaves (w : Worked) (budget : ℕ) (answer : Result Tally Refusal) (cs : List Command) : Type 0 where
  pub answers : (F : Functions) → (made (call F w budget answer) (holding [])).answer ≡ answer
  pub leaves : (F : Functions) → (made (call F w budget answer) (holding [])).sink ≡ holding cs

-- the most steps that a budget may admit
abbrev pub Strokes : Worked → Result Tally Refusal → List Command → Type 0
Strokes w answer cs = Leaves w most_steps answer cs

-- the contour of a dash from a to b on the x axis
abbrev pub bar : ℤ → ℤ → List Command
bar a b = from a (negsuc 0) ∷ to b (negsuc 0) ∷ to b (pos 1) ∷ to a (pos 1) ∷ to a (negsuc 0) ∷ Close ∷ []

-- as far as its runs count: with any storage, budget and answer
abbrev pub drawn_by : Functions → Worked → Call
drawn_by F w = call F w 0 (done 0 0)

-- Its runs come to this row, so many steps and these ranges, each with the number of segments of its run, whatever the functions are.
pub record Comes (w : Worked) (cs : List Command) (n : ℕ) (rs : List (ℕ × Range)) : Type 0 where
  pub row : (F : Functions) → row_of (drawn_by F w) ≡ cs
  pub steps : (F : Functions) → steps_of (drawn_by F w) ≡ n
  pub ranges : (F : Functions) → ranges_of (drawn_by F w) ≡ rs

-- all that its walks take, gaps and a dash that waits too
abbrev pub Takes : Worked → List (ℕ × Range) → Type 0
Takes w rs = (F : Functions) → taken_of (drawn_by F w) ≡ rs

abbrev pub range : ℤ → ℤ → Float → Float → Range
range first last t0 t1 = record { start = first; end = last; t0 = t0; t1 = t1 }

-- what the offset leaves of the dash or gap there, and whether it is a dash
abbrev pub first_of : Dashes → Bool × Float
first_of p = let w = passed most_steps p (begun p false) in (w.on, first_dash p w)

-- none where the lengths make no pattern
abbrev pub first_in : Option Dashes → Option (Bool × Float)
first_in None = None
first_in (Some p) = Some (first_of p)

abbrev pub first : Worked → Option (Bool × Float)
first w = first_in (pattern_of (dashes_of w) (style_of w).offset)

-- with a pattern whose first dash, or gap, has this length
abbrev pub Dashed : Worked → Bool → Float → Result Tally Refusal → List Command → Type 0
Dashed w on len answer cs = (first w ≡ Some (on, len)) × Strokes w answer cs

-- with no pattern, so without steps
abbrev pub Plain : Worked → List Command → Type 0
Plain w cs = (first w ≡ None) × Strokes w (done (length cs) 0) cs
