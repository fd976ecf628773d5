-- A record list with one command more means the list with that command joined.
use Rattle.std.specs.Prelude.{◌≡◌, ◌+◌, ◌-◌, ◌<◌, T, [], ◌∷◌, ◌++◌, length, take, slice_set}
use Rattle.std.proofs.Common.{ap, ◌∙◌, leb→le, length-set}
use Rattle.std.proofs.Math.Nat.{sub-add-eq, sub-pos_iff_lt}
use Rattle.std.proofs.lemmas.List.{take_more_set}
use Rattle.lists.specs.Lent.{left, pushed}
use Rattle.lists.specs.declared.lent.Lent.{Lent}
use Rattle.path.specs.declared.command.Command.{Command}
use Rattle.sinks.specs.Meaning.{takes, joined}
use Rattle.sinks.specs.Records.{recorded}

pub recorded_grows : (l : Lent Command) (c : Command) → T (takes (recorded l) c) → recorded (pushed l c) ≡ joined (recorded l) c
recorded_grows l c fits =
    let places = l.places.now in
    let n = l.count in
    let room : n < length places = sub-pos_iff_lt.0 (leb→le 1 (left l) fits) in
    let list : take (n + 1) (slice_set places n c) ≡ take n places ++ (c ∷ []) = take_more_set places n c room in
    let units : length (slice_set places n c) - (n + 1) ≡ (length places - n) - 1 = ap (λ k. k - (n + 1)) (length-set places n c) ∙ sub-add-eq (length places) n 1 in
    λ i. record { list = list i; units = units i; price = λ kind. 1; map = λ d. d }
