-- The limits of a shape: what has no fault.
use Rattle.std.specs.Prelude.{◌≡◌, ◌≤◌, ◌↔◌, length, All, EachIndex, Some, None}
use Rattle.nam_catalog.specs.declared.bounds.TheConstants.{MOST_WORKERS, MOST_WIDTH, MOST_CAPACITY, MOST_RING}
use Rattle.nam_catalog.specs.declared.bounds.TheConstants.{MOST_BUCKETS, MOST_CELLS, MOST_WORDS}
use Rattle.nam_catalog.specs.declared.shape.Table.{Table}
use Rattle.nam_catalog.specs.declared.shape.Shape.{Shape}
use Rattle.nam_catalog.specs.Greatest.{greatest_number}
use Rattle.nam_catalog.specs.Tables.{name_of, first_named}
use Rattle.nam_catalog.specs.Words.{words_of}
use Rattle.nam_catalog.specs.Limits.{fault_of}

-- the numbers of a table are within their limits
pub record FitsTable (table : Table) : Type 0 where
  pub least_width : 1 ≤ table.width
  pub most_width : table.width ≤ MOST_WIDTH
  pub least_capacity : 1 ≤ table.capacity
  pub most_capacity : table.capacity ≤ MOST_CAPACITY
  pub least_ring : 1 ≤ table.ring
  pub most_ring : table.ring ≤ MOST_RING

-- Each number and each table is within its limits, and no two tables bear one name, so that each is found by its name.
-- That there are at most `MOST_TABLES` tables is in the type of the shape, and `check` says it.
pub record FitsLimits (shape : Shape) : Type 0 where
  pub least_workers : 1 ≤ shape.workers
  pub most_workers : shape.workers ≤ MOST_WORKERS
  pub least_tables : 1 ≤ length shape.tables
  pub tables : All FitsTable shape.tables
  pub least_buckets : 1 ≤ shape.buckets
  pub most_buckets : shape.buckets ≤ MOST_BUCKETS
  pub least_cells : 1 ≤ shape.cells
  pub most_cells : shape.cells ≤ MOST_CELLS
  pub start : shape.start ≤ greatest_number shape.form
  pub names : EachIndex shape.tables (λ k. first_named (name_of shape.tables k) shape.tables ≡ Some k)
  pub words : words_of shape ≤ MOST_WORDS

-- a shape has no fault exactly where it fits
abbrev pub FitsLaw : Type 0
FitsLaw = (shape : Shape) → (fault_of shape ≡ None) ↔ FitsLimits shape
