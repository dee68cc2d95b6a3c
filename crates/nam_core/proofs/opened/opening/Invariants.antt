use Rattle.std.proofs.Common.{◌≡◌, drop, length}
use Rattle.nam_catalog.specs.Words.{words_of}
use Rattle.nam_protocol.specs.Opening.{with_rows, opening_words}
use Rattle.nam_core.proofs.opened.opening.Given as goal

abbrev pub invariant-loop-row : goal.invariant-loop-row
invariant-loop-row l = record {
  long : length l.words.items ≡ words_of l.shape;
  rest : with_rows l.shape (drop l.row-index l.rows) l.words.items ≡ opening_words l.shape l.rows;
}
