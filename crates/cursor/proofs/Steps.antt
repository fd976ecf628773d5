-- One step of a cursor, and whether anything was to come before it.
use Rattle.std.proofs.Common.{◌≡◌, ℕ, ◌+◌, true, false, ◌||◌, List, drop, Some, None, Option, sym, ap, ◌∙◌, refl, add-zero}
use Rattle.std.specs.List.{slice_get}
use lib.Ieee.{Float}
use Rattle.maths.specs.Functions.{Functions}
use Rattle.maths.specs.Questions.{all_asked}
use Rattle.maths.specs.declared.host.Function.{Function}
use Rattle.path.specs.declared.command.Command.{Command}
use Rattle.curves.specs.declared.curve.Curve.{Curve}
use Rattle.cursor.specs.declared.walk.Segments.{Segments}
use Rattle.cursor.specs.Cursors.{seen, rest}
use Rattle.cursor.specs.Machines.{Step, Turn, done, step, step_at, any, waits, piece, read, read_questions}
use Rattle.cursor.proofs.Lists.{left_some, left_none}

-- what was done is what the step says
did : {S : Type 0} (asked : S → Function → Float → S) (p : ℕ) (h : S) {x y : Step} {t : Turn} {place : ℕ} {host : S}
    → y ≡ x → t ≡ x.made → place ≡ p + x.taken → host ≡ all_asked asked h x.asked
    → record { gave = t.gave; after = t.after; place = place; host = host } ≡ done asked p h y
did asked p h is made there asks = (λ i. record { gave = (made i).gave; after = (made i).after; place = there i; host = asks i }) ∙ ap (done asked p h) (sym is)

-- A step of the cursor s, from the place of the next piece.
module _ {S : Type 0} (asked : S → Function → Float → S) (F : Functions) (s : Segments) (cs : List Command) (h : S) {o : Option Curve} {ks : List Curve} (at : o ≡ slice_get ks s.machine.piece)
    (are : ks ≡ s.machine.pieces.items) (open? : s.machine.close ≡ false) where
  next : slice_get s.machine.pieces.items s.machine.piece ≡ o
  next = sym (at ∙ ap (λ (ks : List Curve). slice_get ks s.machine.piece) are)

  pub goes_to_piece : {k : Curve} {t : Turn} → o ≡ Some k → t ≡ piece (seen s) k (drop (s.machine.piece + 1) s.machine.pieces.items)
      → record { waits : true ≡ waits (seen s) (rest s cs); whole : record { gave = t.gave; after = t.after; place = s.place; host = h } ≡ done asked s.place h (step F (seen s) (rest s cs)) }
  goes_to_piece some made =
      let is = left_some s.machine.pieces.items s.machine.piece _ (next ∙ some) in
      record {
        waits = sym (λ j. open? j || (any (is j) || any (rest s cs)));
        whole = did asked s.place h (λ j. step_at F (seen s) (open? j) (is j) (rest s cs)) made (sym (add-zero s.place)) refl;
      }

  pub goes_to_command : (c : Command) {t : Turn} {host : S} → o ≡ None → slice_get cs s.place ≡ Some c → t ≡ read F (seen s) c → host ≡ all_asked asked h (read_questions F (seen s) c)
      → record { waits : true ≡ waits (seen s) (rest s cs); whole : record { gave = t.gave; after = t.after; place = s.place + 1; host = host } ≡ done asked s.place h (step F (seen s) (rest s cs)) }
  goes_to_command c none here made asks =
      let none = left_none s.machine.pieces.items s.machine.piece (next ∙ none) in
      let is = left_some cs s.place c here in
      record {
        waits = sym (λ j. open? j || (any (none j) || any (is j)));
        whole = did asked s.place h (λ j. step_at F (seen s) (open? j) (none j) (is j)) made refl asks;
      }

  pub goes_nowhere : o ≡ None → slice_get cs s.place ≡ None
      → record { waits : false ≡ waits (seen s) (rest s cs); whole : record { gave = None; after = seen s; place = s.place; host = h } ≡ done asked s.place h (step F (seen s) (rest s cs)) }
  goes_nowhere none past =
      let none = left_none s.machine.pieces.items s.machine.piece (next ∙ none) in
      let is = left_none cs s.place past in
      record {
        waits = sym (λ j. open? j || (any (none j) || any (is j)));
        whole = did asked s.place h (λ j. step_at F (seen s) (open? j) (none j) (is j)) refl (sym (add-zero s.place)) refl;
      }
