-- The verbs to come fall in the machines of a bucket's cells, and in a move.
use Rattle.std.specs.Prelude.{if◌then◌else◌}
use Rattle.std.proofs.Common.{◌≡◌, ℕ, ◌+◌, ◌-◌, ◌*◌, ◌<◌, ◌≤◌, List, [], length, arith, Some, None}
use Rattle.nam_verbs.specs.declared.now.Now.{Now}
use Rattle.nam_verbs.specs.declared.now.Now.TheVariants.{At, Over}
use Rattle.nam_verbs.specs.Falls.{Falls, Any}
use Rattle.nam_header.specs.Stamp.{is_deleted, without_moved}
use Rattle.nam_header.specs.Tag.{written}
use Rattle.nam_layout.specs.declared.field.Place.{Place}
use Rattle.nam_layout.specs.declared.field.Cells.{Cells}
use Rattle.nam_layout.specs.PlaceFits.{FitsPlace, FitsCells}
use Rattle.nam_calls.specs.declared.ring.SearchEnd.{SearchEnd}
use Rattle.nam_calls.specs.declared.ring.SearchEnd.TheVariants.{Found, NotThere}
use Rattle.nam_calls.specs.declared.overflow.CellPoint.{CellPoint}
use Rattle.nam_calls.specs.declared.overflow.CellPoint.TheVariants.{CellTag, CellOwner, CellBegin, CellEnding}
use Rattle.nam_calls.specs.declared.overflow.CellPoint.TheVariants.{CellWords, CellAgain}
use Rattle.nam_calls.specs.declared.overflow.ClaimPoint.{ClaimPoint}
use Rattle.nam_calls.specs.declared.overflow.ClaimPoint.TheVariants.{ClaimLook, ClaimTake}
use Rattle.nam_calls.specs.declared.overflow.ClaimEnd.{ClaimEnd}
use Rattle.nam_calls.specs.declared.overflow.ClaimEnd.TheVariants.{Claimed, NoRoom}
use Rattle.nam_calls.specs.declared.overflow.Version.{Version}
use Rattle.nam_calls.specs.declared.overflow.FillPoint.{FillPoint}
use Rattle.nam_calls.specs.declared.overflow.FillPoint.TheVariants.{FillOwner, FillBegin, FillEnding, FillWord}
use Rattle.nam_calls.specs.declared.mover.MovePoint.{MovePoint}
use Rattle.nam_calls.specs.declared.mover.MovePoint.TheVariants.{MoveCount, MoveHead, MoveEnding, MoveClaim}
use Rattle.nam_calls.specs.declared.mover.MovePoint.TheVariants.{MoveWords}
use Rattle.nam_calls.specs.declared.mover.MovePoint.TheVariants.{MoveFill, MoveAgain, MoveFull, MoveFlag, MoveBack}
use Rattle.nam_calls.specs.declared.mover.MoveAnswer.{MoveAnswer}
use Rattle.nam_calls.specs.Overflow.{cell_after, cell_left, cells_left, next_cell, claim_next, claim_after}
use Rattle.nam_calls.specs.Overflow.{claim_left}
use Rattle.nam_calls.specs.Overflow.{fill_begin, fill_after, fill_left}
use Rattle.nam_calls.specs.Mover.{on_claim, on_fill, move_after, move_left}
use Rattle.nam_calls.specs.Fits.{SearchEnds, CellFits, ClaimFits, ClaimEnds, FillFits, MoveFits}
use Rattle.nam_calls.proofs.FallsTests.{either, or_last, one_more, later_row, wide_or_none}
use Rattle.nam_calls.proofs.FallsMachines.{slot_within}
use Rattle.nam_calls.specs.declared.mover.MoveAnswer.TheVariants as answer

-- 1. The search of a bucket

module _ (cells : Cells) (place : Place) (fits : FitsPlace place) where
  abbrev pub CellFalls : ℕ → Now CellPoint SearchEnd → Type 0
  CellFalls = Falls (CellFits cells place) (SearchEnds place) (cell_left cells place)

  next_cell_falls : (cell n : ℕ) → cell < cells.cells → cells_left cells place cell < n
      → CellFalls n (next_cell cells cell)
  next_cell_falls cell n l m =
      or_last (CellFalls n) cells.cells cell (Over NotThere) (At (CellTag (cell + 1))) l (λ e. (tt, omega arith))
      (λ e. (e, rw (later_row cells.cells cell (place.width + 5) e) m))

  pub cell_falls : (seen : List ℕ) (at : CellPoint) (found : ℕ) → CellFits cells place at
      → CellFalls (cell_left cells place at) (cell_after cells place seen at found)
  cell_falls seen (CellTag cell) found l =
      either (CellFalls (cell_left cells place (CellTag cell))) _ (At (CellOwner cell found)) (next_cell cells cell)
      (l, omega arith)
      (next_cell_falls cell _ l (omega arith))
  cell_falls seen (CellOwner cell tag) found l =
      either (CellFalls (cell_left cells place (CellOwner cell tag))) _ (At (CellBegin cell tag))
      (next_cell cells cell) (l, omega arith)
      (next_cell_falls cell _ l (omega arith))
  cell_falls seen (CellBegin cell tag) found l =
      either (CellFalls (cell_left cells place (CellBegin cell tag))) _ (At (CellEnding cell tag found))
      (next_cell cells cell) (l, omega arith)
      (next_cell_falls cell _ l (omega arith))
  cell_falls seen (CellEnding cell tag header) found l =
      let w = fits.least_width in
      either (CellFalls (cell_left cells place (CellEnding cell tag header))) _ (next_cell cells cell)
      (At (CellWords cell tag header []))
      (next_cell_falls cell _ l (omega arith)) ((l, omega arith), omega arith)
  cell_falls seen (CellWords cell tag header got) found l =
      one_more (λ at. CellFits cells place at
      × (cell_left cells place at < cell_left cells place (CellWords cell tag header got)))
      place.width got found (CellWords cell tag header) (CellAgain cell tag header) l.1 (λ e m. ((l.0, m), omega arith))
      (λ e m. ((l.0, m), omega arith))
  cell_falls seen (CellAgain cell tag header value) found l =
      either (CellFalls (cell_left cells place (CellAgain cell tag header value))) _
      (Over (Found (if is_deleted place.form header then None else Some value))) (next_cell cells cell)
      (wide_or_none place.width (is_deleted place.form header) value l.1, omega arith)
      (next_cell_falls cell _ l.0 (omega arith))

-- 2. The claim of a cell and its filling

module _ (cells : Cells) where
  abbrev pub ClaimFalls : ℕ → Now ClaimPoint ClaimEnd → Type 0
  ClaimFalls = Falls (ClaimFits cells) (ClaimEnds cells) (claim_left cells)

  claim_next_falls : (cell n : ℕ) → cell < cells.cells → (cells.cells - cell - 1) * 2 < n
      → ClaimFalls n (claim_next cells cell)
  claim_next_falls cell n l m =
      or_last (ClaimFalls n) cells.cells cell (Over NoRoom) (At (ClaimLook (cell + 1))) l (λ e. (tt, omega arith))
      (λ e. (e, omega arith))

  pub claim_falls : (at : ClaimPoint) (found : ℕ) → ClaimFits cells at
      → ClaimFalls (claim_left cells at) (claim_after cells at found)
  claim_falls (ClaimLook cell) found l =
      either (ClaimFalls (claim_left cells (ClaimLook cell))) _ (At (ClaimTake cell found)) (claim_next cells cell)
      (l, omega arith)
      (claim_next_falls cell _ l (omega arith))
  claim_falls (ClaimTake cell tag) found l =
      either (ClaimFalls (claim_left cells (ClaimTake cell tag))) _ (Over (Claimed cell (written tag)))
      (claim_next cells cell) (l, omega arith)
      (claim_next_falls cell _ l (omega arith))

module _ (width : ℕ) (least : 1 ≤ width) where
  abbrev pub FillFalls : ℕ → Now FillPoint (Unit {0}) → Type 0
  FillFalls = Falls (FillFits width) Any (fill_left width)

  pub fill_falls : (at : FillPoint) → FillFits width at → FillFalls (fill_left width at) (fill_after width at)
  fill_falls FillOwner l = (tt, omega arith)
  fill_falls FillBegin l = (tt, omega arith)
  fill_falls FillEnding l = (omega arith, omega arith)
  fill_falls (FillWord nth) l =
      or_last (FillFalls (width - nth)) width nth (Over tt) (At (FillWord (nth + 1))) l (λ e. (tt, omega arith))
      (λ e. (e, omega arith))

-- 3. A move

module _ (place : Place) (cells : Cells) (fits : FitsPlace place) (room : FitsCells cells) where
  abbrev pub MoveFalls : ℕ → Now MovePoint MoveAnswer → Type 0
  MoveFalls = Falls (MoveFits place cells) Any (move_left place cells)

  on_claim_falls : (slot header ending n : ℕ) (now : Now ClaimPoint ClaimEnd) → slot < place.ring
      → ClaimFalls cells n now
      → MoveFalls (n + 2 * place.width + 6) (on_claim cells slot header ending now)
  on_claim_falls slot header ending n (At at) l h = ((l, h.0), omega arith)
  on_claim_falls slot header ending n (Over (Claimed cell tag)) l h =
      let w = fits.least_width in ((l, h.0, omega arith), omega arith)
  on_claim_falls slot header ending n (Over NoRoom) l h = (tt, omega arith)

  on_fill_falls : (slot header cell tag n : ℕ) (version : Version) (now : Now FillPoint (Unit {0}))
      → slot < place.ring → cell < cells.cells
      → length version.value ≡ place.width → FillFalls place.width fits.least_width n now
      → MoveFalls (n + 3) (on_fill slot header cell tag version now)
  on_fill_falls slot header cell tag n version (At at) l m e h = ((l, m, e, h.0), omega arith)
  on_fill_falls slot header cell tag n version (Over done) l m e h = ((l, m), omega arith)

  pub move_falls : (at : MovePoint) (found : ℕ) → MoveFits place cells at
      → MoveFalls (move_left place cells at) (move_after place cells at found)
  move_falls MoveCount found l = (slot_within place fits found, omega arith)
  move_falls (MoveHead slot) found l =
      either (MoveFalls (move_left place cells (MoveHead slot))) _ (Over answer.Nothing) (At (MoveEnding slot found))
      (tt, omega arith)
      (l, omega arith)
  move_falls (MoveEnding slot header) found l = let c = room.least_cells in ((l, c), omega arith)
  move_falls (MoveClaim slot header ending at) found l =
      on_claim_falls slot header ending _ _ l.0 (claim_falls cells at found l.1)
  move_falls (MoveWords slot header ending cell tag got) found l =
      one_more (λ at. MoveFits place cells at
      × (move_left place cells at < move_left place cells (MoveWords slot header ending cell tag got)))
      place.width got found (MoveWords slot header ending cell tag)
      (λ value. MoveFill slot header cell tag
      record { begin = without_moved place.form header; «end» = ending; value = value } fill_begin)
      l.2 (λ e m. ((l.0, l.1, m), omega arith)) (λ e m. ((l.0, l.1, m, tt), omega arith))
  move_falls (MoveFill slot header cell tag version at) found l =
      on_fill_falls slot header cell tag _ version _ l.0 l.1 l.2 (fill_falls place.width fits.least_width at l.3)
  move_falls (MoveAgain slot header cell tag) found l =
      either (MoveFalls 3) _ (At (MoveFull slot header cell tag)) (At (MoveBack header cell tag)) (l, omega arith)
      (l.1, omega arith)
  move_falls (MoveFull slot header cell tag) found l = (l.0, omega arith)
  move_falls (MoveFlag slot header) found l = (tt, omega arith)
  move_falls (MoveBack header cell tag) found l = (tt, omega arith)
