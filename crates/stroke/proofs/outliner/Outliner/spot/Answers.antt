use Rattle.std.proofs.Common.{Ok, refl, ap, ◌∙◌}
use Rattle.pen.specs.declared.corner.Turn.{Turn}
use Rattle.stroke.specs.Events.{draw}
use Rattle.stroke.specs.Outlines.{across, end_cap_events, start_cap_events}
use Rattle.stroke.specs.Outliners.{stage}
use Rattle.stroke.proofs.Drawn.{and_then, no_more}
use Rattle.stroke.proofs.Walking.{passed_on}
use Rattle.stroke.proofs.outliner.Outliner.spot.Goals as goal

pub returns-in_err-cap_end : goal.returns-in_err-cap_end
returns-in_err-cap_end g c =
    let sinks = g.S.Sink.acts in
    let hosts = g.K.MathsHost.acts in
    let there = c.in_err-cap_end.ensures ∙ ap (λ (t : Turn). draw sinks hosts (end_cap_events t) (stage hosts c.send.new.self (Ok tt))) c.across-there.ensures in
    ap (stage hosts c.cap_end.new.self) (passed_on c.from_residual-in_err-cap_end.result c.in_err-cap_end.field-0.0 c.from_residual-in_err-cap_end.ensures.1)
    ∙ and_then sinks hosts _ _ _ c.in_ok-send.ensures (no_more sinks hosts _ _ _ refl there)

pub returns : goal.returns
returns g c =
    let sinks = g.S.Sink.acts in
    let hosts = g.K.MathsHost.acts in
    let there = c.in_ok-cap_end.ensures ∙ ap (λ (t : Turn). draw sinks hosts (end_cap_events t) (stage hosts c.send.new.self (Ok tt))) c.across-there.ensures in
    let back = c.cap_start.ensures ∙ ap (λ (t : Turn). draw sinks hosts (start_cap_events t) (stage hosts c.cap_end.new.self (Ok tt))) (c.across-back.ensures ∙ ap (across c.args.q c.args.p) c.mul.ensures) in
    and_then sinks hosts _ _ _ c.in_ok-send.ensures (and_then sinks hosts _ _ _ there back)
