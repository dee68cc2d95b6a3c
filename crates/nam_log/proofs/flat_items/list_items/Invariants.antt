use Rattle.std.proofs.Common.{◌≡◌, ◌+◌, ◌≤◌, ◌++◌, length, drop}
use Rattle.nam_log.specs.Flat.{items_in, AreItems}
use Rattle.nam_log.proofs.flat_items.list_items.Given as goal

abbrev pub invariant-loop-head : goal.invariant-loop-head
invariant-loop-head l = record {
  within : l.at ≤ length l.words;
  fits : AreItems (drop l.head-index l.heads) (drop l.at l.words);
  items : l.list.items ++ items_in (drop l.head-index l.heads) (drop l.at l.words)
      ≡ l.fn.list.items ++ items_in l.heads l.words;
  room : l.list.room + l.head-index ≡ l.fn.list.room;
  enough : length l.heads ≤ l.fn.list.room;
}
