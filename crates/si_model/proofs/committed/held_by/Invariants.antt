use Rattle.std.proofs.Common.{◌≡◌}
use Rattle.std.specs.Option.{option_or}
use Rattle.si_model.specs.declared.row.Key.{Key}
use Rattle.si_model.specs.Held.{held_at}
use Rattle.si_model.specs.Rows.{rows_of}
use Rattle.si_model.proofs.committed.held_by.Given as goal

-- the rows that are left count more than what is held
abbrev pub invariant-loop-row : goal.invariant-loop-row
invariant-loop-row l = (key : Key) → option_or (rows_of l.row-iterator.iter.rest.now key) (held_at l.held key)
    ≡ rows_of l.rows key
