use Rattle.std.proofs.Common.{◌≡◌, Ok, take}
use Rattle.stroke.specs.Events.{commands, draw}
use Rattle.stroke.specs.Outliners.{stage}
use Rattle.stroke.proofs.outliner.Outliner.send_all.Given as goal

abbrev pub invariant-loop-c : goal.invariant-loop-c
invariant-loop-c g l =
    stage g.K.MathsHost.acts l.self (Ok tt)
    ≡ draw g.S.Sink.acts g.K.MathsHost.acts (commands (take l.c-index l.row)) (stage g.K.MathsHost.acts l.fn.self (Ok tt))
