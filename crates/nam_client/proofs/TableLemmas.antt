-- The first position of a table.
use Rattle.std.proofs.Common.{◌≡◌, ℕ, ◌<◌}
use Rattle.nam_catalog.specs.declared.shape.Shape.{Shape}
use Rattle.nam_catalog.specs.Fits.{FitsLimits}
use Rattle.nam_layout.specs.Place.{place_of}
use Rattle.nam_layout.specs.RowLaw.{IsPosition}
use Rattle.nam_calls.specs.Fits.{IsTableOf}
use Rattle.nam_calls.specs.Words.{width_of}
use Rattle.nam_calls.proofs.FallsTables.{has_capacity, width_is}

module _ (shape : Shape) (limits : FitsLimits shape) (table : ℕ) (is : IsTableOf shape table) where
  -- each table has one
  pub first_position : IsPosition shape.tables table 0
  first_position = (is, has_capacity shape limits table is)

  pub first_width : (place_of shape table 0).width ≡ width_of shape table
  first_width = width_is shape limits table 0 is (has_capacity shape limits table is)
