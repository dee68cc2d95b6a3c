use Rattle.std.proofs.Common.{◌≡◌, ◌-◌, map, take}
use Rattle.nam_protocol.specs.Log.{with_reads}
use Rattle.nam_protocol.specs.ScanCall.{item_of}
use Rattle.nam_client.proofs.scanning.list_items.Given as goal

abbrev pub invariant-loop-row : goal.invariant-loop-row
invariant-loop-row l = record {
  log : l.log.log ≡ with_reads l.fn.log.log (map (item_of l.table) (take l.row-index l.rows));
  room : l.log.room ≡ record l.fn.log.room { reads = l.fn.log.room.reads - l.row-index };
}
