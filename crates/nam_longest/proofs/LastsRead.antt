-- Words that make a read last as long as it can: it looks at everything, or it finds a value at the very last.
use Rattle.std.proofs.Common.{◌≡◌, ℕ, suc, ◌+◌, ◌-◌, ◌*◌, List, length, refl, arith, Some}
use Rattle.nam_verbs.specs.declared.now.Now.{Now}
use Rattle.nam_verbs.specs.declared.now.Now.TheVariants.{At, Over}
use Rattle.nam_header.specs.Stamp.{same_stamp}
use Rattle.nam_calls.specs.declared.ring.SearchEnd.TheVariants.{NotThere}
use Rattle.nam_calls.specs.declared.overflow.CellPoint.TheVariants.{CellTag}
use Rattle.nam_calls.specs.declared.reading.Sight.{Sight}
use Rattle.nam_calls.specs.declared.reading.ReadPoint.{ReadPoint}
use Rattle.nam_calls.specs.declared.reading.ReadPoint.TheVariants.{ReadCurrent, ReadUnsure, ReadRecheck, ReadRing}
use Rattle.nam_calls.specs.declared.reading.ReadPoint.TheVariants.{ReadCells, ReadHorizon}
use Rattle.nam_calls.specs.declared.reading.ReadingEnd.{ReadingEnd}
use Rattle.nam_calls.specs.declared.reading.ReadingEnd.TheVariants.{Got, Astray}
use Rattle.nam_calls.specs.Ring.{ring_begin}
use Rattle.nam_calls.specs.Reading.{read_begin, on_current, on_unsure, on_ring, on_cells, on_horizon, read_after}
use Rattle.nam_calls.specs.Reading.{ring_whole, cells_whole, read_left}
use Rattle.nam_calls.specs.Holds.{IsWord}
use Rattle.nam_calls.specs.Fits.{SightFits}
use Rattle.nam_calls.proofs.FallsTests.{or_last}
use Rattle.nam_longest.proofs.LastsMachines.{AreAll, LastsMore, on_false, other_8, current_lasts, ring_lasts, lost_cell}
use Rattle.nam_longest.proofs.LastsMachines.{found_cell, to_last_cell, entries_last}
use Rattle.std.proofs.Math.Nat.{suc-mul}

module _ (sight : Sight) (fits : SightFits sight) (seen : List ℕ) (row : IsWord sight.place.row)
    (word : ℕ) (is : IsWord word)
    (Lasts : Now ReadPoint ReadingEnd → ℕ → Type 0) (step : LastsMore Lasts (read_after sight seen)) where
  -- up to the cells
  to_cells : (n m : ℕ) → m ≡ n + (sight.place.width + 3 + 2 * ring_whole sight)
      → Lasts (At (ReadCells (CellTag 0))) n → Lasts (At read_begin) m
  to_cells n m e last =
      let r = ring_whole sight in
      current_lasts sight.place fits.place seen word is (λ now n. Lasts (on_current now) n)
      (λ at. step (ReadCurrent at)) (n + (r + 1 + r)) m (omega arith)
      (λ value wide. ring_lasts sight.place fits.place seen word is (λ now n. Lasts (on_unsure value 0 now) n)
      (λ at. step (ReadUnsure value 0 at)) (n + (r + 1)) (n + (r + 1 + r)) (omega arith)
      (step (ReadRecheck value 0) 8 (n + r) (n + (r + 1)) (omega arith) (omega arith)
      (on_false (λ now. Lasts now (n + r)) (same_stamp sight.place.form 8 0) (Over (Got (Some value)))
      (At (ReadRing ring_begin)) (other_8 sight.place.form)
      (ring_lasts sight.place fits.place seen word is (λ now n. Lasts (on_ring now) n)
      (λ at. step (ReadRing at)) n (n + r) refl last))))

  -- up to the last cell
  to_last : (n m : ℕ)
      → m + sight.place.width + 5 ≡ n + (sight.place.width + 3 + 2 * ring_whole sight) + cells_whole sight
      → ((last : ℕ) → last + 1 ≡ sight.cells.cells → Lasts (At (ReadCells (CellTag last))) n) → Lasts (At read_begin) m
  to_last n m e last =
      let c = fits.cells.least_cells in
      let k = n + (sight.cells.cells - 1) * (sight.place.width + 5) in
      let rows = all_cells sight.cells.cells (sight.cells.cells - 1) (sight.place.width + 5) (omega arith) in
      to_cells k m (omega arith)
      (to_last_cell sight.place fits.place seen word is row sight.cells (λ now n. Lasts (on_cells now) n)
      (λ at. step (ReadCells at)) (sight.cells.cells - 1) 0 n k (omega arith) refl last)
    where
      all_cells : (r m k : ℕ) → r ≡ suc m → r * k ≡ m * k + k
      all_cells r m k e = rw (e, suc-mul) refl

  -- each cell is lost, and no entry of the horizon is above the snapshot's
  pub goes_astray : (n m : ℕ) → m ≡ n + read_left sight read_begin → Lasts (Over Astray) n → Lasts (At read_begin) m
  goes_astray n m e end =
      let w = fits.workers in
      to_last (n + sight.workers + (sight.place.width + 5)) m (omega arith)
      (λ last l. lost_cell sight.place fits.place seen word is row sight.cells (λ now n. Lasts (on_cells now) n)
      (λ at. step (ReadCells at)) last (n + sight.workers) _ refl
      (or_last (λ now. Lasts (on_cells now) (n + sight.workers)) sight.cells.cells last (Over NotThere)
      (At (CellTag (last + 1))) (omega arith)
      (λ t. entries_last sight.workers seen (λ now n. Lasts (on_horizon now) n) (λ at. step (ReadHorizon at))
      (sight.workers - 1) 1 n (n + sight.workers) (omega arith) (omega arith) end)
      (λ t. absurd (omega arith))))

  -- the last cell has the version
  pub finds_last : (n m : ℕ) → m + sight.workers ≡ n + read_left sight read_begin
      → ((value : List ℕ) → length value ≡ sight.place.width → AreAll word value → Lasts (Over (Got (Some value))) n)
      → Lasts (At read_begin) m
  finds_last n m e found =
      to_last (n + (sight.place.width + 5)) m (omega arith)
      (λ last l. found_cell sight.place fits.place seen word is row sight.cells (λ now n. Lasts (on_cells now) n)
      (λ at. step (ReadCells at)) last n _ refl found)
