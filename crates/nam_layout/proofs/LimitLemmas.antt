-- limits of rows, places and cells
use Rattle.std.proofs.Common.{◌≡◌, ℕ, ◌+◌, ◌-◌, ◌*◌, ◌<◌, ◌≤◌, inl, inr, List, [], ◌∷◌, refl, sym, subst, arith}
use Rattle.std.specs.Prelude.{All}
use Rattle.std.proofs.lemmas.Bool.{cases_lt}
use Rattle.std.proofs.lemmas.Nat.{row_fits}
use Rattle.std.proofs.lemmas.List.Elements.{All-head, All-tail}
use Rattle.nam_catalog.specs.declared.bounds.TheConstants.{MOST_WIDTH, MOST_RING}
use Rattle.nam_catalog.specs.declared.shape.Table.{Table}
use Rattle.nam_catalog.specs.declared.shape.Shape.{Shape}
use Rattle.nam_catalog.specs.Fits.{FitsTable, FitsLimits}
use Rattle.nam_catalog.specs.Words.{slot_words}
use Rattle.nam_layout.specs.Rows.{rows_in, width_at, ring_at}
use Rattle.nam_layout.specs.Address.{IsRow}
use Rattle.nam_layout.specs.Place.{place_at, cells_of}
use Rattle.nam_layout.specs.PlaceFits.{FitsPlace, FitsCells}
use Rattle.nam_layout.proofs.TestLemmas.{if_less, if_not_less}
use Rattle.nam_layout.proofs.RowLemmas.{row_stands}

-- a row has as many words as a table's row can have
pub record FitsRow (width ring : ℕ) : Type 0 where
  pub least_width : 1 ≤ width
  pub most_width : width ≤ MOST_WIDTH
  pub least_ring : 1 ≤ ring
  pub most_ring : ring ≤ MOST_RING

row_within : (tables : List Table) (row : ℕ) → All FitsTable tables → row < rows_in tables
    → FitsRow (width_at tables row) (ring_at tables row)
row_within [] row fit within = absurd (omega arith)
row_within (t ∷ ts) row fit within = elim (cases_lt row t.capacity) [
  | inl here ↦
      let head = All-head FitsTable t ts fit in
      let width : width_at (t ∷ ts) row ≡ t.width = if_less _ _ _ _ here in
      let ring : ring_at (t ∷ ts) row ≡ t.ring = if_less _ _ _ _ here in
      subst (λ w. FitsRow w (ring_at (t ∷ ts) row)) (sym width) (subst (FitsRow t.width) (sym ring)
      (record {
        least_width = head.least_width;
        most_width = head.most_width;
        least_ring = head.least_ring;
        most_ring = head.most_ring;
      }))
  | inr past ↦
      let before = row - t.capacity in
      let width : width_at (t ∷ ts) row ≡ width_at ts before = if_not_less _ _ _ _ past in
      let ring : ring_at (t ∷ ts) row ≡ ring_at ts before = if_not_less _ _ _ _ past in
      subst (λ w. FitsRow w (ring_at (t ∷ ts) row)) (sym width) (subst (FitsRow (width_at ts before)) (sym ring)
      (row_within ts before (All-tail FitsTable t ts fit) (omega arith)))
]

-- the place of a row is within its limits
pub place_within_limits : (shape : Shape) (row : ℕ) → FitsLimits shape → IsRow shape row
    → FitsPlace (place_at shape row)
place_within_limits shape row fits is =
    let width = width_at shape.tables row in
    let ring = ring_at shape.tables row in
    let small = row_within shape.tables row fits.tables is in
    let stands = row_stands shape.tables row (2 + width + ring * slot_words width) is (omega arith) in
    let within = stands.offset_within in
    let most = fits.words in
    record {
      least_width = small.least_width;
      most_width = small.most_width;
      least_ring = small.least_ring;
      most_ring = small.most_ring;
      header_follows = refl;
      count_follows = omega arith;
      words_follow = omega arith;
      ring_follows = omega arith;
      last = omega arith;
    }

-- the cells of a bucket are within their limits
pub cells_within_limits : (shape : Shape) (bucket : ℕ) → FitsLimits shape → bucket < shape.buckets
    → FitsCells (cells_of shape bucket)
cells_within_limits shape bucket fits less =
    let within = row_fits bucket shape.cells shape.buckets shape.cells less (omega arith) in
    let most = fits.words in
    record {
      least_cells = fits.least_cells;
      most_cells = fits.most_cells;
      last = omega arith;
    }
