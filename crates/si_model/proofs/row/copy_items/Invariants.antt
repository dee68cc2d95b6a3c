use Rattle.std.proofs.Common.{◌≡◌, ◌++◌, drop}
use Rattle.si_model.proofs.row.copy_items.Given as goal

-- the copies so far, and the items to come
abbrev pub invariant-loop-item : goal.invariant-loop-item
invariant-loop-item l = l.copies ++ drop l.item-index l.items ≡ l.items
