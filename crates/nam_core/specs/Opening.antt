-- When a store with rows can't be opened.
use Rattle.std.specs.Prelude.{◌≡◌, ℕ, ◌+◌, ◌-◌, ◌^◌, ◌<◌, ◌==◌, nat_lt, List, [], ◌∷◌, length, Option, Some, None}
use Rattle.std.specs.Prelude.{if◌then◌else◌}
use Rattle.std.specs.List.{filter}
use Rattle.si_model.specs.declared.row.Row.{Row}
use Rattle.nam_catalog.specs.declared.shape.Table.{Table}
use Rattle.nam_catalog.specs.declared.shape.Shape.{Shape}
use Rattle.nam_protocol.specs.OpeningLaw.{IsOfTable}
use Rattle.nam_core.specs.declared.make_error.MakeError.{MakeError}
use Rattle.nam_core.specs.declared.make_error.MakeError.TheVariants.{Shape as ShapeFails, NoSpace, Memory}

-- a row of a table, of its width, whose key has a word
pub record FitsRow (shape : Shape) (row : Row) : Type 0 where
  pub of : IsOfTable shape row
  pub key : row.key < 2 ^ 64 - 1

-- how many of the rows are the table's
abbrev pub rows_of : ℕ → List Row → ℕ
rows_of table rows = length (filter (λ (row : Row). row.table == table) rows)

-- the first table that has more rows than positions, where the first of these tables has this number
abbrev pub first_overfull : ℕ → List Table → List Row → Option ℕ
first_overfull table [] rows = None
first_overfull table (t ∷ ts) rows =
    if nat_lt t.capacity (rows_of table rows) then Some table else first_overfull (table + 1) ts rows

abbrev pub overfull : Shape → List Row → Option ℕ
overfull shape rows = first_overfull 0 shape.tables rows

-- why the store of a shape that fits isn't opened: one of its tables has no space, or memory was not found
abbrev pub NotOpened : Shape → List Row → MakeError → Type 0
NotOpened shape rows (ShapeFails fault) = ⊥
NotOpened shape rows (NoSpace table) = overfull shape rows ≡ Some table
NotOpened shape rows Memory = overfull shape rows ≡ None
