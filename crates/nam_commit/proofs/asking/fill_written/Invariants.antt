use Rattle.std.proofs.Common.{◌≡◌, ◌+◌, ◌++◌, length, map, drop}
use Rattle.si_model.specs.Rows.{item_key}
use Rattle.nam_protocol.specs.Commit.{record_in}
use Rattle.nam_commit.proofs.asking.fill_written.Given as goal

abbrev pub invariant-loop-item : goal.invariant-loop-item
invariant-loop-item l = record {
  filled : l.records ++ map (record_in l.claims) (map item_key (drop l.item-index l.writes))
      ≡ l.initial.records ++ map (record_in l.claims) (map item_key l.writes);
  counted : length l.records ≡ length l.initial.records + l.item-index;
}
