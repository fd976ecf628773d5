use Rattle.std.proofs.Common.{◌≡◌, ◌≢◌, [], ◌∷◌, ◌++◌, length, arith}
use Rattle.std.proofs.lemmas.Grind.{common_steps}
use Rattle.numbers.specs.Arithmetic.{zero, one}
use Rattle.curves.specs.Curves.{slice_of}
use Rattle.cursor.specs.Cuts.{cuts, slices}
use Rattle.cursor.proofs.Slicing.{between_none, between_some}
use Rattle.cursor.proofs.cuts.cut_at.Goals as goal
use Rattle.cursor.proofs.cuts.cut_at.Goals.{then-len-eq0, else-len-eq0}

pub returns-clause-answer : goal.returns-clause-answer
returns-clause-answer c =
    let k = c.args.curve in
    let last = c.loop-t.last in
    let done = c.loop-t.pieces.items in
    let all : done ++ (slice_of k last one ∷ []) ≡ slices k zero (cuts c.args.roots) = grind (arith, common_steps) in
    elim c.if-len-eq0.branch [
      | then-len-eq0 w ↦ let none : length done ≡ 0 = omega arith in cc (between_none k last _ done none all)
      | else-len-eq0 w ↦ let some : length done ≢ 0 = omega arith in cc (between_some k last _ done some all)
    ]
