use Rattle.std.proofs.Common.{rules, ap, ◌∙◌}
use Rattle.stroke.specs.declared.counted.Counted.{Counted}
use Rattle.stroke.proofs.Exact.{exact_call, same_sink}
use Rattle.stroke.proofs.calls.draw_counted.Goals as goal

pub returns : goal.returns
returns g c =
    let sinks = g.S.Sink.acts in
    let storages = g.B.Storage.acts in
    let hosts = g.K.MathsHost.acts in
    let F = hosts.functions c.args.host.now in
    let none = ap (λ (s : Counted _). s.sent) c.new-counted.ensures in
    let drew = c.draw-drawn.ensures in
    let name = same_sink sinks storages hosts F c.args.commands.now c.args.style c.args.dashes.now c.args.budget c.new-counted.result c.args.storage.now c.args.host.now c.requires.few none drew ∙ ap (λ (s : Counted _). s.sink.ghost_name) c.new-counted.ensures in
    exact_call sinks storages hosts F c.args.commands.now c.args.style c.args.dashes.now c.args.budget c.new-counted.result c.args.storage.now c.args.host.now c.requires.few (ap (λ (s : Counted _). s.sink.now) c.new-counted.ensures) none drew c.answer.ensures (search (rules, name))
