-- The setting that a store is of: its shape, and the rows that are loaded. Jobs, owners and the policy are a script's.
use Rattle.nam_catalog.specs.Greatest.{greatest_number}
use Rattle.nam_catalog.specs.Tables.{capacities_of, rings_of, widths_of}
use Rattle.nam_catalog.specs.declared.form.Form.TheVariants.{Held}
use Rattle.nam_catalog.specs.declared.shape.Shape.{Shape}
use Rattle.si_model.specs.Setting.{Setting}
use Rattle.si_model.specs.declared.row.Row.{Row}
use Rattle.std.specs.Prelude.{IsTrue, List, ◌≡◌, ◌↔◌}

pub record IsOfShape (shape : Shape) (rows : List Row) (s : Setting) : Type 0 where
  pub workers : s.workers ≡ shape.workers
  pub start : s.start ≡ shape.start
  pub greatest : s.greatest ≡ greatest_number shape.form
  -- a locked header names its holder in form Held alone
  pub held : IsTrue s.held ↔ (shape.form ≡ Held)
  pub widths : s.widths ≡ widths_of shape.tables
  pub capacities : s.capacities ≡ capacities_of shape.tables
  pub rings : s.rings ≡ rings_of shape.tables
  pub cells : s.cells ≡ shape.cells
  pub rows_are : s.rows ≡ rows
