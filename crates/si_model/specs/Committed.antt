-- What committed rows hold.
use Rattle.si_model.specs.declared.committed.CommittedRows.{CommittedRows}
use Rattle.si_model.specs.Held.{held_at}
use Rattle.si_model.specs.Rows.{Rows}

-- what each key holds
abbrev pub rows_held : CommittedRows → Rows
rows_held c = held_at c.held
