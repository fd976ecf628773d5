use Rattle.std.proofs.Common.{◌≡◌, Ok, drop}
use Rattle.stroke.specs.Events.{draw}
use Rattle.stroke.specs.Outlines.{onward, sides, last_side}
use Rattle.stroke.specs.Outliners.{stage}
use Rattle.stroke.proofs.outliner.Outliner.walk_there.Given as goal

-- what is left to draw, from here, ends as all of it does from the start
abbrev pub invariant-loop-i : goal.invariant-loop-i
invariant-loop-i g l =
    let sinks = g.S.Sink.acts in
    let hosts = g.K.MathsHost.acts in
    let row = g.R.Row.pieces l.row in
    let all = sides l.fn.self.nib (drop l.start row) in
    let left = sides l.fn.self.nib (drop l.i row) in
    record {
      nib : l.self.nib ≡ l.fn.self.nib;
      last : last_side l.last left ≡ last_side l.fn.before all;
      drawn : draw sinks hosts (onward l.split l.last left) (stage hosts l.self (Ok tt)) ≡ draw sinks hosts (onward l.split l.fn.before all) (stage hosts l.fn.self (Ok tt));
    }
