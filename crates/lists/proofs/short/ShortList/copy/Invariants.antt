use Rattle.std.proofs.Common.{◌≡◌, ◌≤◌, length, take}
use Rattle.lists.proofs.short.ShortList.copy.Given as goal

-- the elements so far
abbrev pub invariant-loop-item : goal.invariant-loop-item
invariant-loop-item g l = (l.buffer.items ≡ take l.item-index l.item-items) × (length l.item-items ≤ g.row.N)
