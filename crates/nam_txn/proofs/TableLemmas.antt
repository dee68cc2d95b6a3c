-- What a transaction knows of a table.
use Rattle.std.proofs.Common.{◌≡◌, ℕ, ◌+◌, ◌*◌, refl, ap, ◌∙◌}
use Rattle.nam_catalog.specs.declared.shape.Shape.{Shape}
use Rattle.nam_catalog.specs.Fits.{FitsLimits}
use Rattle.nam_layout.specs.declared.field.Place.{Place}
use Rattle.nam_layout.specs.declared.field.Cells.{Cells}
use Rattle.nam_layout.specs.Place.{place_of, cells_of}
use Rattle.nam_calls.specs.Words.{width_of, ring_of}
use Rattle.nam_calls.specs.Reading.{read_most}
use Rattle.nam_calls.specs.Fits.{IsTableOf}
use Rattle.nam_calls.proofs.FallsTables.{has_capacity, width_is, ring_is}

module _ (shape : Shape) (limits : FitsLimits shape) (table : ℕ) (is : IsTableOf shape table) (place : Place) where
  pub table_width : place ≡ place_of shape table 0 → place.width ≡ width_of shape table
  table_width p =
      ap (λ (q : Place). q.width) p ∙ width_is shape limits table 0 is (has_capacity shape limits table is)

  table_ring : place ≡ place_of shape table 0 → place.ring ≡ ring_of shape table
  table_ring p =
      ap (λ (q : Place). q.ring) p ∙ ring_is shape limits table 0 is (has_capacity shape limits table is)

  pub table_most : (cells : Cells) (workers : ℕ) → place ≡ place_of shape table 0 → cells ≡ cells_of shape 0
      → workers ≡ shape.workers
      → 4 + place.width + 2 * (place.ring * (place.width + 3)) + cells.cells * (place.width + 5) + workers
      ≡ read_most shape table
  table_most cells workers p c w =
      let n = ap (λ (q : Cells). q.cells) c in
      rw (table_width p, table_ring p, n, w) refl
