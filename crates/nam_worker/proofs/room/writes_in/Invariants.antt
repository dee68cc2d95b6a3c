use Rattle.std.proofs.Common.{◌≡◌, ◌+◌, drop}
use Rattle.nam_protocol.specs.Left.{writes_in}
use Rattle.nam_worker.proofs.room.writes_in.Given as goal

abbrev pub invariant-loop-op : goal.invariant-loop-op
invariant-loop-op l = l.writes + writes_in (drop l.op-index l.ops) ≡ writes_in l.ops
