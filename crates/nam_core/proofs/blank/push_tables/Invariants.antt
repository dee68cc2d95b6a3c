use Rattle.std.proofs.Common.{◌≡◌, ◌++◌, drop}
use Rattle.nam_protocol.specs.Opening.{blank_tables}
use Rattle.nam_core.proofs.blank.push_tables.Given as goal

abbrev pub invariant-loop-table : goal.invariant-loop-table
invariant-loop-table l =
    l.words.items ++ blank_tables (drop l.table-index l.tables) ≡ l.fn.words.items ++ blank_tables l.tables
