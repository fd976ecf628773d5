use Rattle.std.proofs.Common.{None, option_map, sym, ap, ◌∙◌, arith}
use Rattle.dashes.specs.PatternValues.{values}
use Rattle.stroke.specs.Strokers.{stroking, do_all}
use Rattle.stroke.proofs.Performing.{do_none}
use Rattle.stroke.proofs.Dashing.{no_run}
use Rattle.stroke.proofs.stroker.Stroker.draw_run.Goals as goal

pub returns-then-len-eq0 : goal.returns-then-len-eq0
returns-then-len-eq0 g c =
    let d = stroking g.K.MathsHost.acts c.args.self.now None in
    sym (do_none g.S.Sink.acts g.B.Storage.acts g.K.MathsHost.acts d)
    ∙ ap (λ l. do_all g.S.Sink.acts g.B.Storage.acts g.K.MathsHost.acts l d) (sym (no_run d.by.functions d.by.nib (option_map values c.args.pattern) c.args.closed (g.B.Storage.acts.held c.args.self.now.storage.now) (omega (arith, c.len.ensures, c.if-len-eq0.true))))
