use Rattle.std.proofs.Common.{◌≡◌, drop}
use Rattle.nam_core.specs.Opening.{first_overfull}
use Rattle.nam_core.proofs.opened.overfull.Given as goal

abbrev pub invariant-loop-table : goal.invariant-loop-table
invariant-loop-table l = record {
  number : l.number ≡ l.table-index;
  rest : first_overfull l.table-index (drop l.table-index l.tables) l.rows ≡ first_overfull 0 l.tables l.rows;
}
