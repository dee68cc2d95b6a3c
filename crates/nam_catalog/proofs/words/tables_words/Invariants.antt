use Rattle.std.proofs.Common.{◌≡◌, ◌+◌, drop}
use Rattle.nam_catalog.specs.Words.{tables_words}
use Rattle.nam_catalog.proofs.words.tables_words.Given as goal

abbrev pub invariant-loop-table : goal.invariant-loop-table
invariant-loop-table l = l.words + tables_words (drop l.table-index l.tables) ≡ tables_words l.tables
