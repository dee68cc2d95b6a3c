use Rattle.std.proofs.Common.{◌≡◌, ◌++◌}
use Rattle.std.specs.Prelude.{map}
use Rattle.si_model.proofs.ScanLemmas.{item_of}
use Rattle.si_model.proofs.committed.CommittedRows.add_items_before.Given as goal

-- with the items of the entries that are left, all are there
abbrev pub invariant-loop-key : goal.invariant-loop-key
invariant-loop-key l = l.items ++ map item_of l.key-iterator ≡ l.fn.items ++ map item_of l.initial.key-iterator
