use Rattle.std.proofs.Common.{◌≡◌, take}
use Rattle.nam_core.proofs.world.copied.Given as goal

abbrev pub invariant-loop-table : goal.invariant-loop-table
invariant-loop-table l = l.tables ≡ take l.table-index l.shape.tables
