use Rattle.std.proofs.Common.{◌≤◌, length}
use Rattle.nam_io.specs.Fronts.{AppendsBefore}
use Rattle.nam_io.proofs.writing.write_all.Given as goal

-- what stands before the rest went out
abbrev pub invariant-loop-rest : goal.invariant-loop-rest
invariant-loop-rest g l = record {
  gone : AppendsBefore (g.K.Sink.taken l.fn.sink) (g.K.Sink.taken l.sink) l.bytes l.rest;
  counted : g.K.Sink.faults l.fn.sink ≤ g.K.Sink.faults l.sink;
}

abbrev pub decreases-loop-rest : goal.decreases-loop-rest
decreases-loop-rest g l = length l.rest
