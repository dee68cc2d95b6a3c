-- A closed world: the logs, and the audit of the words under their last vector.
use Rattle.std.specs.Prelude.{ℕ, zero, suc, ◌+◌, ◌-◌, ◌==◌, ◌||◌, not, nat_lt, Bool, true, if◌then◌else◌, List, []}
use Rattle.std.specs.Prelude.{◌∷◌, ◌++◌, take, Option, Some, None}
use Rattle.si_model.specs.declared.report.AuditRow.{AuditRow}
use Rattle.si_model.specs.declared.report.Closed.{Closed}
use Rattle.nam_verbs.specs.declared.now.Now.{Now}
use Rattle.nam_verbs.specs.declared.now.Now.TheVariants.{At, Over}
use Rattle.nam_verbs.specs.VerbAt.{found_at}
use Rattle.nam_catalog.specs.declared.shape.Table.{Table}
use Rattle.nam_catalog.specs.declared.shape.Shape.{Shape}
use Rattle.nam_header.specs.Stamp.{is_locked}
use Rattle.nam_layout.specs.declared.field.Field.{Field}
use Rattle.nam_layout.specs.declared.field.Field.TheVariants.{Key, Header}
use Rattle.nam_layout.specs.Rows.{row_of}
use Rattle.nam_calls.specs.Memory.{memory}
use Rattle.nam_calls.specs.declared.reading.Sight.{Sight}
use Rattle.nam_calls.specs.declared.reading.ReadPoint.{ReadPoint}
use Rattle.nam_calls.specs.declared.reading.ReadingEnd.{ReadingEnd}
use Rattle.nam_calls.specs.declared.reading.ReadingEnd.TheVariants.{Got}
use Rattle.nam_calls.specs.Reading.{sight_of, read_begin, read_verb, read_after, read_left}
use Rattle.nam_protocol.specs.World.{World}
use Rattle.nam_protocol.specs.Schedule.{logs_of}

-- a read on words that nobody changes, of at most so many verbs
abbrev pub read_alone : Sight → List ℕ → (Field → ℕ) → ℕ → Now ReadPoint ReadingEnd → Option (List ℕ)
read_alone sight seen words verbs (Over (Got value)) = value
read_alone sight seen words (suc verbs) (At place) =
    read_alone sight seen words verbs (read_after sight seen place (found_at words (read_verb sight place)))
read_alone sight seen words verbs end = None

-- a present row is audited, and an absent one that is locked
abbrev pub is_audited : Option (List ℕ) → Bool → Bool
is_audited None locked = locked
is_audited (Some value) locked = true

-- a row goes before the first of a greater key
abbrev pub inserted : AuditRow → List AuditRow → List AuditRow
inserted row [] = row ∷ []
inserted row (r ∷ rs) = if nat_lt row.key r.key then row ∷ r ∷ rs else r ∷ inserted row rs

abbrev pub inserted_all : List AuditRow → List AuditRow → List AuditRow
inserted_all [] rows = rows
inserted_all (r ∷ rs) rows = inserted r (inserted_all rs rows)

module _ (shape : Shape) (words : List ℕ) where
  -- the last vector
  abbrev pub vector : List ℕ
  vector = take shape.workers words

  -- what a position holds under it
  abbrev pub value_under : ℕ → ℕ → Option (List ℕ)
  value_under table position =
      let sight = sight_of shape table position in
      read_alone sight vector (memory shape words) (read_left sight read_begin) (At read_begin)

  abbrev pub audit_row : ℕ → ℕ → Option (List ℕ) → List AuditRow
  audit_row table row value =
      let locked = is_locked shape.form (memory shape words (Header row)) in
      let key = memory shape words (Key row) in
      if (key == 0) || not (is_audited value locked) then []
      else record { table = table; key = key - 1; value = value; locked = locked } ∷ []

  -- the rows of a table's positions from one on, in order of keys
  abbrev pub table_rows : ℕ → ℕ → ℕ → List AuditRow
  table_rows table position zero = []
  table_rows table position (suc rest) =
      inserted_all (audit_row table (row_of shape.tables table position) (value_under table position))
      (table_rows table (position + 1) rest)

  abbrev pub tables_rows : ℕ → List Table → List AuditRow
  tables_rows table [] = []
  tables_rows table (t ∷ ts) = table_rows table 0 t.capacity ++ tables_rows (table + 1) ts

  -- the audit of the words
  abbrev pub audit_of : List AuditRow
  audit_of = tables_rows 0 shape.tables

-- what is left of a world whose sessions have no verb to come
abbrev pub closed : Shape → World → Closed
closed shape world = record { logs = logs_of shape world; audit = audit_of shape world.words }
