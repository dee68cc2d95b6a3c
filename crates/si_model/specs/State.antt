-- The committed state: the rows after the first entries of a history.
use Rattle.std.specs.Prelude.{List, [], ◌∷◌}
use Rattle.si_model.specs.declared.report.CommitLine.{CommitLine}
use Rattle.si_model.specs.Rows.{Rows, overlay}

-- the rows after these entries, one write set over another
abbrev pub state_at : Rows → List CommitLine → Rows
state_at rows [] = rows
state_at rows (e ∷ es) = state_at (overlay e.writes rows) es
