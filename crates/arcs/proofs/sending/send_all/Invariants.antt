use Rattle.std.proofs.Common.{◌≡◌, drop}
use Rattle.arcs.specs.LoneArcs.{sending}
use Rattle.arcs.proofs.sending.send_all.Given as goal

-- what is left to send, from here, ends as all of it does from the start
abbrev pub invariant-loop-c : goal.invariant-loop-c
invariant-loop-c g l = record {
  left : sending g.S.Sink.acts (drop l.c-index l.commands) l.sink l.sent ≡ sending g.S.Sink.acts l.commands l.fn.sink 0;
  count : l.sent ≡ l.c-index;
}
