use Rattle.std.proofs.Common.{ap, arith}
use Rattle.curves.specs.declared.curve.Walk.{Walk}
use Rattle.curves.proofs.Chords.{one_chord, no_chord}
use Rattle.curves.proofs.curve.Curve.length.Goals as goal

pub loop-i-preserved : goal.loop-i-preserved
loop-i-preserved c = one_chord c.loop-i.i c.args.self c.loop-i.walk (omega arith) c.next_chord-walk.ensures c.loop-i.invariant

pub returns : goal.returns
returns c = ap (λ (w : Walk). w.len) (no_chord c.loop-i.i c.args.self c.loop-i.walk (omega arith) c.loop-i.invariant)
