use Rattle.std.proofs.Common.{◌≡◌}
use Rattle.si_model.specs.declared.row.Key.{Key}
use Rattle.si_model.specs.Held.{held_at}
use Rattle.si_model.specs.Rows.{overlay}
use Rattle.si_model.proofs.committed.write_over.Given as goal

-- the writes that are left give what all give
abbrev pub invariant-loop-item : goal.invariant-loop-item
invariant-loop-item l = (key : Key) → overlay l.item-iterator.iter.rest.now (held_at l.held) key
    ≡ overlay l.writes (held_at l.fn.held) key
