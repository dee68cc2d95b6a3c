use Rattle.std.proofs.Common.{◌≡◌, ◌-◌, []}
use Rattle.nam_protocol.specs.Closed.{table_rows}
use Rattle.nam_core.proofs.SortLemmas.{sorted_from}
use Rattle.nam_core.proofs.audited.table_rows.Given as goal

abbrev pub invariant-loop-passed : goal.invariant-loop-passed
invariant-loop-passed l =
    sorted_from [] l.rows.items ≡ table_rows l.layout l.words l.table (l.capacity - l.passed) l.passed
