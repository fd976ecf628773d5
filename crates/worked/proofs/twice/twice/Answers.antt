use Rattle.std.proofs.Common.{[], ◌∷◌, refl, sym, ap}
use Rattle.maths.specs.Functions.{Functions, Alike, apply}
use Rattle.stroke.specs.Histories.{call, start}
use Rattle.worked.proofs.twice.twice.Goals as goal

-- both stand in the history of the second
pub returns-clause-alike : goal.returns-clause-alike
returns-clause-alike g c empty one two =
    let F = g.K.MathsHost.acts.functions c.args.host.now in
    let G = g.K.MathsHost.acts.functions c.stroke_into-first.new.host in
    let first = call c.args.commands.now c.args.style c.args.dashes.now F 128 c.args.budget c.stroke_into-first.result in
    let second = call c.args.commands.now c.args.style c.args.dashes.now G 128 c.args.budget c.stroke_into-second.result in
    let once = c.stroke_into-first.ensures.lawful [] (start (g.S.Sink.acts.meaning c.args.sink.now) empty) in
    let law = c.stroke_into-second.ensures.lawful (first ∷ []) once.history in
    let alike : Alike F G = λ f x h. ap (λ (H : Functions). apply H f x) (sym c.stroke_into-first.ensures.functions) in
    (law.alike [] first (record { one = record { later = second ∷ []; among = refl }; ok = one })
    (second ∷ (first ∷ [])) (g.S.Sink.acts.meaning c.stroke_into-second.new.sink) law.history (first ∷ []) second (record { one = record { later = []; among = refl }; ok = two })
    (record { commands = refl; style = refl; dashes = refl; functions = alike })).answer
