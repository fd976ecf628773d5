use Rattle.std.proofs.Common.{◌≡◌, ap, ◌∙◌, subst, arith}
use Rattle.std.proofs.lemmas.List.{drop-drop}
use Rattle.std.specs.List.{slice_get}
use Rattle.job.specs.ReadBack.{Before}
use Rattle.job.proofs.Nexts.{get_dropped}
use Rattle.job.proofs.tape.TapeReadableSink.get.Goals as goal

pub loop-preserved : goal.loop-preserved
loop-preserved c = subst (Before c.next_command.new.reader) (drop-drop 1 c.loop.counter c.args.self.now.commands) (c.next_command.ensures _ c.loop.invariant).1

pub returns : goal.returns
returns c =
    let all : c.loop.counter ≡ c.args.i = omega (arith, c.loop.auto.counter-end, c.loop-test.false) in
    (c.next_command-2.ensures _ c.loop.invariant).0 ∙ get_dropped c.args.self.now.commands c.loop.counter ∙ ap (slice_get c.args.self.now.commands) all
