-- The rows of a table, from its last position on, and of all tables.
use Rattle.std.proofs.Common.{◌≡◌, ℕ, zero, suc, ◌+◌, ◌-◌, ◌<◌, List, [], ◌∷◌, ◌++◌, length, drop, Option, Some, None}
use Rattle.std.proofs.Common.{refl, sym, ◌∙◌, ap, arith, append-nil}
use Rattle.std.specs.Prelude.{slice_index}
use Rattle.std.specs.Option.{option_to_list}
use Rattle.si_model.specs.declared.report.AuditRow.{AuditRow}
use Rattle.nam_catalog.specs.declared.shape.Table.{Table}
use Rattle.nam_catalog.specs.declared.shape.Shape.{Shape}
use Rattle.nam_catalog.specs.Tables.{capacities_of}
use Rattle.nam_layout.specs.Rows.{row_of}
use Rattle.nam_protocol.specs.Closed.{inserted_all, value_under, audit_row, table_rows, tables_rows}
use Rattle.nam_core.proofs.SortLemmas.{sorted_from, sorted-push}

inserts : (rows : List AuditRow) (row : Option AuditRow)
    → sorted_from [] (rows ++ option_to_list row) ≡ inserted_all (option_to_list row) (sorted_from [] rows)
inserts rows None = ap (sorted_from []) (append-nil rows)
inserts rows (Some row) = sorted-push [] rows row

module _ (shape : Shape) (words : List ℕ) where
  abbrev row_at : ℕ → ℕ → List AuditRow
  row_at table position =
      audit_row shape words table (row_of shape.tables table position) (value_under shape words table position)

  rows_next : (table capacity passed : ℕ) → passed < capacity
      → table_rows shape words table (capacity - (passed + 1)) (passed + 1)
      ≡ inserted_all (row_at table (capacity - 1 - passed)) (table_rows shape words table (capacity - passed) passed)
  rows_next table capacity passed less =
      let one : passed + 1 ≡ suc passed = omega arith in
      let here : capacity - (passed + 1) ≡ capacity - 1 - passed = omega arith in
      let next : capacity - 1 - passed + 1 ≡ capacity - passed = omega arith in
      ap (λ n. table_rows shape words table n (passed + 1)) here
      ∙ ap (λ n. table_rows shape words table (capacity - 1 - passed) n) one
      ∙ ap (λ n. inserted_all (row_at table (capacity - 1 - passed)) (table_rows shape words table n passed)) next

  -- the row of the position before those that are sorted
  pub rows_pushed : (table capacity passed : ℕ) (rows : List AuditRow) (row : Option AuditRow) → passed < capacity
      → sorted_from [] rows ≡ table_rows shape words table (capacity - passed) passed
      → option_to_list row ≡ row_at table (capacity - 1 - passed)
      → sorted_from [] (rows ++ option_to_list row)
      ≡ table_rows shape words table (capacity - (passed + 1)) (passed + 1)
  rows_pushed table capacity passed rows row less sorted is =
      inserts rows row ∙ ap (inserted_all (option_to_list row)) sorted
      ∙ ap (λ l. inserted_all l (table_rows shape words table (capacity - passed) passed)) is
      ∙ sym (rows_next table capacity passed less)

  from_nth : (table n : ℕ) (ts : List Table) → n < length ts
      → tables_rows shape words table (drop n ts)
      ≡ table_rows shape words table 0 (slice_index (capacities_of ts) n)
      ++ tables_rows shape words (table + 1) (drop (suc n) ts)
  from_nth table n [] less = absurd (omega arith)
  from_nth table zero (t ∷ ts) less = refl
  from_nth table (suc n) (t ∷ ts) less = from_nth table n ts (omega arith)

  pub tables_next : (table : ℕ) → table < length shape.tables
      → tables_rows shape words table (drop table shape.tables)
      ≡ table_rows shape words table 0 (slice_index (capacities_of shape.tables) table)
      ++ tables_rows shape words (table + 1) (drop (table + 1) shape.tables)
  tables_next table less =
      let one : suc table ≡ table + 1 = omega arith in
      from_nth table table shape.tables less
      ∙ ap (λ n. table_rows shape words table 0 (slice_index (capacities_of shape.tables) table)
      ++ tables_rows shape words (table + 1) (drop n shape.tables)) one

  pub tables_end : (table : ℕ) (ts : List Table) → ts ≡ [] → tables_rows shape words table ts ≡ []
  tables_end table ts none = ap (tables_rows shape words table) none
