use Rattle.std.proofs.Common.{◌≡◌, ◌+◌, drop}
use Rattle.std.specs.List.{AllByRecursion}
use Rattle.si_model.specs.Evaluation.{OpFits}
use Rattle.nam_catalog.specs.Tables.{widths_of}
use Rattle.nam_protocol.specs.Left.{ops_weight}
use Rattle.nam_worker.proofs.room.ops_weight.Given as goal

abbrev pub invariant-loop-op : goal.invariant-loop-op
invariant-loop-op l =
    (l.weight + ops_weight l.layout (drop l.op-index l.ops) ≡ ops_weight l.layout l.ops)
    × AllByRecursion (OpFits (widths_of l.layout.tables)) (drop l.op-index l.ops)
