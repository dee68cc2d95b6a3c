-- What a layout keeps of its shape.
use Rattle.std.specs.Prelude.{◌≡◌, ℕ, List}
use Rattle.nam_catalog.specs.declared.shape.Shape.{Shape}
use Rattle.nam_catalog.specs.Fits.{FitsLimits}
use Rattle.nam_catalog.specs.Words.{words_of}
use Rattle.nam_layout.specs.declared.extent.Extent.{Extent}
use Rattle.nam_layout.specs.Address.{tables_at, cells_at, intents_at}
use Rattle.nam_layout.specs.Extent.{extents_of}

pub record IsLaidOut (shape : Shape) (extents : List Extent) (cells intents total : ℕ) : Type 0 where
  pub fits : FitsLimits shape
  pub extents_are : extents ≡ extents_of (tables_at shape) 0 shape.tables
  pub cells_are : cells ≡ cells_at shape
  pub intents_are : intents ≡ intents_at shape
  pub total_is : total ≡ words_of shape
