use Rattle.std.proofs.Common.{Ok, refl, sym, ap, ◌∙◌}
use Rattle.stroke.specs.Outliners.{stage}
use Rattle.stroke.proofs.Drawn.{and_then, no_more}
use Rattle.stroke.proofs.Walking.{passed_on, closed_found, closed_none}
use Rattle.stroke.proofs.outliner.Outliner.stroke_closed.Goals as goal

pub returns-in_default : goal.returns-in_default
returns-in_default g c =
    sym (closed_none g.S.Sink.acts g.K.MathsHost.acts (stage g.K.MathsHost.acts c.args.self.now (Ok tt)) (g.R.Row.pieces c.args.row.now) (sym c.first_and_last.ensures ∙ c.in_default.is))

pub returns-in_err-send : goal.returns-in_err-send
returns-in_err-send g c =
    let sinks = g.S.Sink.acts in
    let hosts = g.K.MathsHost.acts in
    let first = stage hosts c.args.self.now (Ok tt) in
    ap (stage hosts c.send.new.self) (passed_on c.from_residual.result c.in_err-send.field-0.0 c.from_residual.ensures.1)
    ∙ no_more sinks hosts _ _ first refl c.in_err-send.ensures
    ∙ closed_found sinks hosts first (g.R.Row.pieces c.args.row.now) c.first_and_last.ensures c.in-Some.is c.side-end.ensures c.other_side-back.ensures c.other_side-turned.ensures

pub returns-in_err-walk_there : goal.returns-in_err-walk_there
returns-in_err-walk_there g c =
    let sinks = g.S.Sink.acts in
    let hosts = g.K.MathsHost.acts in
    let first = stage hosts c.args.self.now (Ok tt) in
    ap (stage hosts c.walk_there.new.self) (passed_on c.from_residual-in_err-walk_there.result c.in_err-walk_there.field-0.0 c.from_residual-in_err-walk_there.ensures.1)
    ∙ and_then sinks hosts _ _ first c.in_ok-send.ensures (no_more sinks hosts _ _ _ refl c.in_err-walk_there.ensures.drew)
    ∙ closed_found sinks hosts first (g.R.Row.pieces c.args.row.now) c.first_and_last.ensures c.in-Some.is c.side-end.ensures c.other_side-back.ensures c.other_side-turned.ensures

pub returns-in_err-turn : goal.returns-in_err-turn
returns-in_err-turn g c =
    let sinks = g.S.Sink.acts in
    let hosts = g.K.MathsHost.acts in
    let first = stage hosts c.args.self.now (Ok tt) in
    ap (stage hosts c.turn.new.self) (passed_on c.from_residual-in_err-turn.result c.in_err-turn.field-0.0 c.from_residual-in_err-turn.ensures.1)
    ∙ and_then sinks hosts _ _ first c.in_ok-send.ensures (and_then sinks hosts _ _ _ c.in_ok-walk_there.ensures.drew (no_more sinks hosts _ _ _ refl c.in_err-turn.ensures))
    ∙ closed_found sinks hosts first (g.R.Row.pieces c.args.row.now) c.first_and_last.ensures c.in-Some.is c.side-end.ensures c.other_side-back.ensures c.other_side-turned.ensures

pub returns-in_err-walk_back : goal.returns-in_err-walk_back
returns-in_err-walk_back g c =
    let sinks = g.S.Sink.acts in
    let hosts = g.K.MathsHost.acts in
    let first = stage hosts c.args.self.now (Ok tt) in
    ap (stage hosts c.walk_back.new.self) (passed_on c.from_residual-in_err-walk_back.result c.in_err-walk_back.field-0.0 c.from_residual-in_err-walk_back.ensures.1)
    ∙ and_then sinks hosts _ _ first c.in_ok-send.ensures (and_then sinks hosts _ _ _ c.in_ok-walk_there.ensures.drew (and_then sinks hosts _ _ _ c.in_ok-turn.ensures (no_more sinks hosts _ _ _ refl c.in_err-walk_back.ensures.drew)))
    ∙ closed_found sinks hosts first (g.R.Row.pieces c.args.row.now) c.first_and_last.ensures c.in-Some.is c.side-end.ensures c.other_side-back.ensures c.other_side-turned.ensures

pub returns : goal.returns
returns g c =
    let sinks = g.S.Sink.acts in
    let hosts = g.K.MathsHost.acts in
    let first = stage hosts c.args.self.now (Ok tt) in
    and_then sinks hosts _ _ first c.in_ok-send.ensures (and_then sinks hosts _ _ _ c.in_ok-walk_there.ensures.drew (and_then sinks hosts _ _ _ c.in_ok-turn.ensures (and_then sinks hosts _ _ _ c.in_ok-walk_back.ensures.drew (c.send-2.ensures))))
    ∙ closed_found sinks hosts first (g.R.Row.pieces c.args.row.now) c.first_and_last.ensures c.in-Some.is c.side-end.ensures c.other_side-back.ensures c.other_side-turned.ensures
