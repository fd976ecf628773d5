-- What an outliner is seen as.
use Rattle.std.specs.Prelude.{Result, Ok, Err}
use Rattle.maths.specs.Functions.{HostActs}
use Rattle.sinks.specs.declared.sink.Refused.{Refused}
use Rattle.stroke.specs.declared.outliner.Outliner.{Outliner}
use Rattle.stroke.specs.Events.{Standing}

-- with what its sink answered
abbrev pub stage : {S K : Type 0} → HostActs K → Outliner S K → Result (Unit {0}) Refused → Standing S K
stage hosts o answer = record {
  drawing = record { sink = o.sink.now; host = o.host.now; answer = answer };
  functions = hosts.functions o.host.now;
  nib = o.nib;
  names = (o.sink.ghost_name, o.host.ghost_name);
}

-- what the sink answered, without what comes of it
abbrev pub sink_answer : {X : Type 0} → Result X Refused → Result (Unit {0}) Refused
sink_answer (Ok x) = Ok tt
sink_answer (Err e) = Err e
