-- A row is a position of a table, and each position is a row.
use Rattle.std.specs.Prelude.{◌≡◌, ℕ, ◌<◌, List, length, slice_index}
use Rattle.nam_catalog.specs.declared.shape.Table.{Table}
use Rattle.nam_catalog.specs.Tables.{widths_of, capacities_of, rings_of}
use Rattle.nam_layout.specs.Rows.{rows_in, row_of, table_of, position_of, width_at, ring_at}

-- there is such a table, and it has such a position
abbrev pub IsPosition : List Table → ℕ → ℕ → Type 0
IsPosition tables table position = (table < length tables) × (position < slice_index (capacities_of tables) table)

-- the row is that position of that table
pub record IsRowOf (tables : List Table) (table position row : ℕ) : Type 0 where
  pub place : IsPosition tables table position
  pub within : row < rows_in tables
  pub row_is : row_of tables table position ≡ row
  pub table_is : table_of tables row ≡ table
  pub position_is : position_of tables row ≡ position
  pub width_is : width_at tables row ≡ slice_index (widths_of tables) table
  pub ring_is : ring_at tables row ≡ slice_index (rings_of tables) table

-- each position is a row
abbrev pub PositionLaw : Type 0
PositionLaw =
    (tables : List Table) (table position : ℕ) → IsPosition tables table position
    → IsRowOf tables table position (row_of tables table position)

-- each row is a position
abbrev pub RowLaw : Type 0
RowLaw =
    (tables : List Table) (row : ℕ) → row < rows_in tables
    → IsRowOf tables (table_of tables row) (position_of tables row) row
