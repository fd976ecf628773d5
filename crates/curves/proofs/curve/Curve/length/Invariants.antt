use Rattle.std.proofs.Common.{◌≡◌, ◌-◌}
use Rattle.curves.specs.Curves.{chords}
use Rattle.curves.proofs.curve.Curve.length.Given as goal

-- the chords that are left, from here, end as all of them do from the start
abbrev pub invariant-loop-i : goal.invariant-loop-i
invariant-loop-i l = chords (65 - l.i) l.self l.walk ≡ chords 65 l.self l.initial.walk
