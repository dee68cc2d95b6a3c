-- No bucket.
use Rattle.nam_catalog.specs.declared.form.Form.TheVariants.{Narrow}
use Rattle.nam_layout.specs.declared.field.Cells.{Cells}

-- no cells of a store
abbrev pub no_cells : Cells
no_cells = record { bucket = 0; first = 0; cells = 0; form = Narrow }
