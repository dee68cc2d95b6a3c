-- The greatest commit number of each form.
use Rattle.std.specs.Prelude.{ℕ}
use Rattle.nam_catalog.specs.declared.form.Form.{Form}
use Rattle.nam_catalog.specs.declared.form.Form.TheVariants.{Narrow, Wide, Held}

abbrev pub greatest_number : Form → ℕ
greatest_number Narrow = 4294967295
greatest_number Wide = 35184372088831
greatest_number Held = 4294967295
