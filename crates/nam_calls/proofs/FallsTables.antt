-- The positions of a table: what holds of their places, and the figure of a whole read there.
use Rattle.std.proofs.Common.{◌≡◌, ℕ, zero, suc, ◌+◌, ◌<◌, ◌≤◌, List, [], ◌∷◌, length}
use Rattle.std.proofs.Common.{arith, ◌*◌}
use Rattle.std.specs.Prelude.{slice_index}
use Rattle.std.specs.List.{AllByRecursion}
use Rattle.std.proofs.lemmas.List.Elements.{recursion_from_All}
use Rattle.nam_catalog.specs.declared.shape.Table.{Table}
use Rattle.nam_catalog.specs.declared.shape.Shape.{Shape}
use Rattle.nam_catalog.specs.Fits.{FitsTable, FitsLimits}
use Rattle.nam_catalog.specs.Tables.{capacities_of}
use Rattle.nam_layout.specs.Rows.{row_of}
use Rattle.nam_layout.specs.RowLaw.{IsRowOf}
use Rattle.nam_layout.specs.Place.{place_of, bucket_of}
use Rattle.nam_layout.specs.PlaceFits.{FitsPlace}
use Rattle.nam_layout.proofs.PositionLemmas.{position_is_row}
use Rattle.nam_layout.proofs.LimitLemmas.{place_within_limits, cells_within_limits}
use Rattle.nam_calls.specs.Words.{width_of, capacity_of, ring_of}
use Rattle.nam_calls.specs.Reading.{sight_of, read_begin, read_left, read_most}
use Rattle.nam_calls.specs.Fits.{SightFits, IsTableOf}
use Rattle.nam_calls.proofs.FallsRead.{read_begins}

-- the figure of a whole read, by the table's numbers
figure_of : (w w' r r' cells workers n : ℕ) → w ≡ w' → r ≡ r'
    → n ≡ 3 + w + 2 * (r * (w + 3)) + cells * (w + 5) + workers
    → n + 1 ≡ 4 + w' + 2 * (r' * (w' + 3)) + cells * (w' + 5) + workers
figure_of w w' r r' cells workers n e f g = rw (← e, ← f) (omega arith)

module _ (shape : Shape) (limits : FitsLimits shape) where
  capacity_least : (tables : List Table) (table : ℕ) → AllByRecursion FitsTable tables → table < length tables
      → 1 ≤ slice_index (capacities_of tables) table
  capacity_least [] table all l = absurd (omega arith)
  capacity_least (t ∷ ts) zero all l = all.0.least_capacity
  capacity_least (t ∷ ts) (suc table) all l = capacity_least ts table all.1 (omega arith)

  pub has_capacity : (table : ℕ) → IsTableOf shape table → 1 ≤ capacity_of shape table
  has_capacity table is = capacity_least shape.tables table (recursion_from_All FitsTable shape.tables limits.tables) is

  module _ (table position : ℕ) (is : IsTableOf shape table) (l : position < capacity_of shape table) where
    row_is : IsRowOf shape.tables table position (row_of shape.tables table position)
    row_is = position_is_row shape.tables table position (is, l)

    pub place_fits : FitsPlace (place_of shape table position)
    place_fits = place_within_limits shape (row_of shape.tables table position) limits row_is.within

    pub width_is : (place_of shape table position).width ≡ width_of shape table
    width_is = row_is.width_is

    pub ring_is : (place_of shape table position).ring ≡ ring_of shape table
    ring_is = row_is.ring_is

    pub bucket_within : bucket_of shape (place_of shape table position).row < shape.buckets
    bucket_within = let b = limits.least_buckets in omega arith

    pub sight_fits : SightFits (sight_of shape table position)
    sight_fits = record {
      place = place_fits;
      cells = cells_within_limits shape (bucket_of shape (place_of shape table position).row) limits bucket_within;
      workers = limits.least_workers;
    }

  -- a whole read at a position of a table
  pub read_figure : (table position : ℕ) → IsTableOf shape table → position < capacity_of shape table
      → read_left (sight_of shape table position) read_begin + 1 ≡ read_most shape table
  read_figure table position is l =
      let w = width_is table position is l in
      let r = ring_is table position is l in
      let b = read_begins (sight_of shape table position) (sight_fits table position is l) in
      figure_of (sight_of shape table position).place.width (width_of shape table)
      (sight_of shape table position).place.ring
      (ring_of shape table) shape.cells shape.workers
      (read_left (sight_of shape table position) read_begin) w r b
