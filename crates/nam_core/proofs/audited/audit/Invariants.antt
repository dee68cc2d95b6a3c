use Rattle.std.proofs.Common.{◌≡◌, ◌++◌, drop}
use Rattle.nam_protocol.specs.Closed.{tables_rows, audit_of}
use Rattle.nam_core.proofs.audited.audit.Given as goal

abbrev pub invariant-loop-table : goal.invariant-loop-table
invariant-loop-table l =
    l.rows ++ tables_rows l.shape l.words l.table (drop l.table l.shape.tables) ≡ audit_of l.shape l.words
