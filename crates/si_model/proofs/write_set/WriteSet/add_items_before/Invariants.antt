use Rattle.std.proofs.Common.{◌≡◌, ◌-◌, ◌≤◌, ◌++◌}
use Rattle.si_model.specs.Rows.{overlay, items_from}
use Rattle.si_model.specs.Committed.{rows_held}
use Rattle.si_model.specs.Places.{place_of}
use Rattle.si_model.proofs.ScanLemmas.{Lists}
use Rattle.si_model.proofs.write_set.WriteSet.add_items_before.Given as goal

-- the written keys that are left are those from here on, and with the items from here on all are there
abbrev pub invariant-loop-key : goal.invariant-loop-key
invariant-loop-key l = record {
  low : l.fn.low ≤ l.from;
  high : l.from ≤ l.fn.end;
  left : Lists (place_of l.fn.self) l.fn.table l.from l.fn.end l.key-iterator;
  items : l.items ++ items_from (overlay l.fn.self (rows_held l.rows)) l.fn.table l.from (l.fn.end - l.from)
      ≡ l.fn.items ++ items_from (overlay l.fn.self (rows_held l.rows)) l.fn.table l.fn.low (l.fn.end - l.fn.low);
}
