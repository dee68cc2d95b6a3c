use Rattle.std.proofs.Common.{◌≡◌, ◌+◌, ◌≤◌, ◌++◌, length, drop}
use Rattle.nam_log.specs.Flat.{lists_in, AreLists}
use Rattle.nam_log.proofs.flat_snaps.list_snaps.Given as goal

abbrev pub invariant-loop-count : goal.invariant-loop-count
invariant-loop-count l = record {
  within : l.at ≤ length l.words;
  fits : AreLists (drop l.count-index l.counts) (drop l.at l.words);
  items : l.list.items ++ lists_in (drop l.count-index l.counts) (drop l.at l.words)
      ≡ l.fn.list.items ++ lists_in l.counts l.words;
  room : l.list.room + l.count-index ≡ l.fn.list.room;
  enough : length l.counts ≤ l.fn.list.room;
}
