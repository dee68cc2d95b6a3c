use Rattle.std.proofs.Common.{◌≡◌, ◌+◌, ◌*◌, ◌≤◌, ◌++◌, length, drop}
use Rattle.nam_catalog.specs.declared.bounds.TheConstants.{MOST_CAPACITY}
use Rattle.nam_catalog.specs.Words.{tables_words}
use Rattle.nam_layout.specs.Extent.{extents_of}
use Rattle.nam_layout.proofs.extent.lay_out.Given as goal

-- the extents so far, with those that are still to come, are all
abbrev pub invariant-loop-table : goal.invariant-loop-table
invariant-loop-table l = record {
  all : l.extents ++ extents_of l.at l.row (drop l.table-index l.tables) ≡ extents_of l.fn.begin 0 l.tables;
  words : l.at + tables_words (drop l.table-index l.tables) ≡ l.fn.begin + tables_words l.tables;
  rows : l.row ≤ MOST_CAPACITY * l.table-index;
  so_far : length l.extents ≡ l.table-index;
}
