use Rattle.std.proofs.Common.{◌≡◌, ◌≤◌, length, take}
use Rattle.nam_catalog.specs.declared.bounds.TheConstants.{MOST_TABLES}
use Rattle.nam_layout.proofs.layout.copied.Given as goal

-- the tables so far
abbrev pub invariant-loop-table : goal.invariant-loop-table
invariant-loop-table l = (l.copied ≡ take l.table-index l.tables) × (length l.tables ≤ MOST_TABLES)
