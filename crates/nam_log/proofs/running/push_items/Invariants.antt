use Rattle.std.proofs.Common.{◌≡◌, ◌+◌, ◌++◌, take}
use Rattle.nam_log.proofs.running.push_items.Given as goal

abbrev pub invariant-loop-item : goal.invariant-loop-item
invariant-loop-item l = record {
  items : l.list.items ≡ l.fn.list.items ++ take l.item-index l.items;
  room : l.list.room + l.item-index ≡ l.fn.list.room;
}
