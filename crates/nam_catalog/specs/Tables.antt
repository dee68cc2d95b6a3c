-- The tables of a shape, numbered from 0.
use Rattle.std.specs.Prelude.{ℕ, List, [], Option, Some, None, slice_get, map, bytes_eq}
use Rattle.std.specs.List.{position_from}
use Rattle.nam_catalog.specs.declared.shape.Table.{Table}

abbrev pub name_in : Option Table → List ℕ
name_in None = []
name_in (Some t) = t.name

-- the name of a table, and nothing where there is no such table
abbrev pub name_of : List Table → ℕ → List ℕ
name_of tables t = name_in (slice_get tables t)

-- the number of the first table that bears the name
abbrev pub first_named : List ℕ → List Table → Option ℕ
first_named name tables = position_from (λ t. bytes_eq t.name name) 0 tables

abbrev pub widths_of : List Table → List ℕ
widths_of tables = map (λ t. t.width) tables

abbrev pub capacities_of : List Table → List ℕ
capacities_of tables = map (λ t. t.capacity) tables

abbrev pub rings_of : List Table → List ℕ
rings_of tables = map (λ t. t.ring) tables
