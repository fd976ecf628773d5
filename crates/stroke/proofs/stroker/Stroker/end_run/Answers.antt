use Rattle.std.proofs.Common.{option_map, ap, ◌∙◌}
use Rattle.dashes.specs.PatternValues.{values}
use Rattle.stroke.specs.Strokers.{stroking}
use Rattle.stroke.proofs.Dashing.{passed_on}
use Rattle.stroke.proofs.Running.{end_refused, end_taken}
use Rattle.stroke.proofs.stroker.Stroker.end_run.Goals as goal

pub returns-in_err-draw_run : goal.returns-in_err-draw_run
returns-in_err-draw_run g c =
    let hosts = g.K.MathsHost.acts in
    let why = c.in_err-draw_run.field-0.0 in
    ap (stroking hosts c.draw_run.new.self) (passed_on c.from_residual.result why c.from_residual.ensures.0 c.from_residual.ensures.1)
    ∙ end_refused g.S.Sink.acts g.B.Storage.acts hosts (option_map values c.args.pattern) c.args.closed c.args.self.now c.draw_run.new.self why c.in_err-draw_run.ensures

pub returns : goal.returns
returns g c = end_taken g.S.Sink.acts g.B.Storage.acts g.K.MathsHost.acts (option_map values c.args.pattern) c.args.closed c.args.self.now _ _ c.in_ok-draw_run.ensures c.clear.ensures
