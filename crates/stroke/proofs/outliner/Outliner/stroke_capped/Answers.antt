use Rattle.std.proofs.Common.{Ok, refl, sym, ap, ◌∙◌}
use Rattle.stroke.specs.Outlines.{cross_events, finish_events, last_side, sides_on, other_sides_on}
use Rattle.stroke.specs.Outliners.{stage}
use Rattle.stroke.proofs.Drawn.{by_last, and_then, no_more}
use Rattle.stroke.proofs.Walking.{passed_on, capped_found, capped_none}
use Rattle.stroke.proofs.outliner.Outliner.stroke_capped.Goals as goal

pub returns-in_default : goal.returns-in_default
returns-in_default g c =
    sym (capped_none g.S.Sink.acts g.K.MathsHost.acts (stage g.K.MathsHost.acts c.args.self.now (Ok tt)) c.args.split (g.R.Row.pieces c.args.row.now) (sym c.first_and_last.ensures ∙ c.in_default.is))

pub returns-in_err-begin : goal.returns-in_err-begin
returns-in_err-begin g c =
    let sinks = g.S.Sink.acts in
    let hosts = g.K.MathsHost.acts in
    let first = stage hosts c.args.self.now (Ok tt) in
    let row = g.R.Row.pieces c.args.row.now in
    ap (stage hosts c.begin.new.self) (passed_on c.from_residual.result c.in_err-begin.field-0.0 c.from_residual.ensures.1)
    ∙ no_more sinks hosts _ _ first refl c.in_err-begin.ensures
    ∙ capped_found sinks hosts first c.args.split row c.first_and_last.ensures c.in-Some.is c.side-start.ensures c.other_side-turned.ensures

pub returns-in_err-end : goal.returns-in_err-end
returns-in_err-end g c =
    let sinks = g.S.Sink.acts in
    let hosts = g.K.MathsHost.acts in
    let first = stage hosts c.args.self.now (Ok tt) in
    let row = g.R.Row.pieces c.args.row.now in
    ap (stage hosts c.walk_there.new.self) (passed_on c.from_residual-in_err-end.result c.in_err-end.field-0.0 c.from_residual-in_err-end.ensures.1)
    ∙ and_then sinks hosts _ _ first c.in_ok-begin.ensures (no_more sinks hosts _ _ _ refl c.in_err-end.ensures.drew)
    ∙ capped_found sinks hosts first c.args.split row c.first_and_last.ensures c.in-Some.is c.side-start.ensures c.other_side-turned.ensures

pub returns-in_err-cross_end : goal.returns-in_err-cross_end
returns-in_err-cross_end g c =
    let sinks = g.S.Sink.acts in
    let hosts = g.K.MathsHost.acts in
    let first = stage hosts c.args.self.now (Ok tt) in
    let row = g.R.Row.pieces c.args.row.now in
    let over = by_last sinks hosts (λ o. cross_events o c.other_side-turned.result) (λ n. last_side c.side-start.result (sides_on n row)) _ c.in_ok-end.ensures.last c.in_err-cross_end.ensures in
    ap (stage hosts c.cross_end.new.self) (passed_on c.from_residual-in_err-cross_end.result c.in_err-cross_end.field-0.0 c.from_residual-in_err-cross_end.ensures.1)
    ∙ and_then sinks hosts _ _ first c.in_ok-begin.ensures (and_then sinks hosts _ _ _ c.in_ok-end.ensures.drew (no_more sinks hosts _ _ _ refl over))
    ∙ capped_found sinks hosts first c.args.split row c.first_and_last.ensures c.in-Some.is c.side-start.ensures c.other_side-turned.ensures

pub returns-in_err-back : goal.returns-in_err-back
returns-in_err-back g c =
    let sinks = g.S.Sink.acts in
    let hosts = g.K.MathsHost.acts in
    let first = stage hosts c.args.self.now (Ok tt) in
    let row = g.R.Row.pieces c.args.row.now in
    let over = by_last sinks hosts (λ o. cross_events o c.other_side-turned.result) (λ n. last_side c.side-start.result (sides_on n row)) _ c.in_ok-end.ensures.last c.in_ok-cross_end.ensures in
    ap (stage hosts c.walk_back.new.self) (passed_on c.from_residual-in_err-back.result c.in_err-back.field-0.0 c.from_residual-in_err-back.ensures.1)
    ∙ and_then sinks hosts _ _ first c.in_ok-begin.ensures (and_then sinks hosts _ _ _ c.in_ok-end.ensures.drew (and_then sinks hosts _ _ _ over (no_more sinks hosts _ _ _ refl c.in_err-back.ensures.drew)))
    ∙ capped_found sinks hosts first c.args.split row c.first_and_last.ensures c.in-Some.is c.side-start.ensures c.other_side-turned.ensures

pub returns : goal.returns
returns g c =
    let sinks = g.S.Sink.acts in
    let hosts = g.K.MathsHost.acts in
    let first = stage hosts c.args.self.now (Ok tt) in
    let row = g.R.Row.pieces c.args.row.now in
    let over = by_last sinks hosts (λ o. cross_events o c.other_side-turned.result) (λ n. last_side c.side-start.result (sides_on n row)) _ c.in_ok-end.ensures.last c.in_ok-cross_end.ensures in
    let done = by_last sinks hosts (λ o. finish_events o c.side-start.result) (λ n. last_side c.other_side-turned.result (other_sides_on n row)) _ c.in_ok-back.ensures.last c.finish.ensures in
    and_then sinks hosts _ _ first c.in_ok-begin.ensures (and_then sinks hosts _ _ _ c.in_ok-end.ensures.drew (and_then sinks hosts _ _ _ over (and_then sinks hosts _ _ _ c.in_ok-back.ensures.drew done)))
    ∙ capped_found sinks hosts first c.args.split row c.first_and_last.ensures c.in-Some.is c.side-start.ensures c.other_side-turned.ensures
