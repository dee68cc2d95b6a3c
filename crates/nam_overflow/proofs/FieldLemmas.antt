-- Each verb is at a field of its bucket's cells, whatever words are found.
use Rattle.std.proofs.Common.{ℕ, ◌<◌, ◌≤◌, length, refl, arith}
use Rattle.nam_verbs.specs.VerbAt.{target}
use Rattle.nam_verbs.specs.Falls.{Any}
use Rattle.nam_verbs.proofs.TakenLemmas.{holds_always}
use Rattle.nam_catalog.specs.declared.bounds.TheConstants.{MOST_WIDTH}
use Rattle.nam_layout.specs.declared.field.Cells.{Cells}
use Rattle.nam_layout.specs.Known.{IsOfCells}
use Rattle.nam_calls.specs.declared.overflow.ClaimPoint.{ClaimPoint}
use Rattle.nam_calls.specs.declared.overflow.ClaimPoint.TheVariants.{ClaimLook, ClaimTake}
use Rattle.nam_calls.specs.declared.overflow.FillPoint.{FillPoint}
use Rattle.nam_calls.specs.declared.overflow.FillPoint.TheVariants.{FillOwner, FillBegin, FillEnding, FillWord}
use Rattle.nam_calls.specs.declared.overflow.Version.{Version}
use Rattle.nam_calls.specs.Overflow.{cell_verb, claim_verb, fill_verb}
use Rattle.nam_calls.specs.Fits.{CellFits, SearchEnds, ClaimFits, ClaimEnds, FillFits}
use Rattle.nam_calls.proofs.FallsCells.{cell_falls, claim_falls, fill_falls}
use Rattle.nam_calls.proofs.FieldLemmas.{cell_field}
use Rattle.nam_overflow.specs.Search as search
use Rattle.nam_overflow.specs.Claim as claim
use Rattle.nam_overflow.specs.Fill as fill
use Rattle.nam_overflow.specs.SearchLaw.{SearchFieldLaw}
use Rattle.nam_overflow.specs.ClaimLaw.{ClaimFieldLaw}
use Rattle.nam_overflow.specs.FillLaw.{FillFieldLaw}

module _ (cells : Cells) where
  -- without a place, which claims and fillings don't need
  claim_field : (at : ClaimPoint) → ClaimFits cells at → IsOfCells cells (target (claim_verb cells at))
  claim_field (ClaimLook cell) here = (refl, here)
  claim_field (ClaimTake cell tag) here = (refl, here)

  fill_field : (cell owner : ℕ) (version : Version) → cell < cells.cells → length version.value ≤ MOST_WIDTH
      → (at : FillPoint) → FillFits (length version.value) at
      → IsOfCells cells (target (fill_verb cells cell owner version at))
  fill_field cell owner version within most FillOwner here = (refl, within)
  fill_field cell owner version within most FillBegin here = (refl, within)
  fill_field cell owner version within most FillEnding here = (refl, within)
  fill_field cell owner version within most (FillWord nth) here = ((refl, within), omega arith)

pub search_fields : SearchFieldLaw
search_fields cells place room fits seen =
    holds_always (CellFits cells place) (SearchEnds place) (search.running (search.searching cells place seen))
    (λ at here found. cell_falls cells place fits seen at found here)
    (λ at. IsOfCells cells (target (cell_verb cells at))) room.least_cells (cell_field place fits cells)

pub claim_fields : ClaimFieldLaw
claim_fields cells room =
    holds_always (ClaimFits cells) (ClaimEnds cells) (claim.running (claim.claiming cells))
    (λ at here found. claim_falls cells at found here)
    (λ at. IsOfCells cells (target (claim_verb cells at))) room.least_cells (claim_field cells)

pub fill_fields : FillFieldLaw
fill_fields cells cell within owner begin ending words least most =
    let version : Version = record { begin = begin; «end» = ending; value = words } in
    holds_always (FillFits (length words)) Any (fill.running (fill.filling cells cell owner begin ending words))
    (λ at here found. fill_falls (length words) least at here)
    (λ at. IsOfCells cells (target (fill_verb cells cell owner version at))) tt
    (fill_field cells cell owner version within most)
