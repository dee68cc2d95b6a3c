-- The verbs to come fall in the machines of the horizon, and in a whole read.
use Rattle.std.proofs.Common.{◌≡◌, ℕ, ◌+◌, ◌-◌, ◌*◌, ◌<◌, ◌≤◌, List, [], ◌∷◌, ◌++◌, length, arith, Some}
use Rattle.std.specs.Prelude.{if◌then◌else◌, ◌==◌, slice_index}
use Rattle.std.proofs.lemmas.Bool.Decides.{nat_tests}
use Rattle.nam_verbs.specs.declared.now.Now.{Now}
use Rattle.nam_verbs.specs.declared.now.Now.TheVariants.{At, Over}
use Rattle.nam_verbs.proofs.TestLemmas.{by_test}
use Rattle.nam_verbs.specs.Falls.{Falls}
use Rattle.nam_layout.specs.declared.field.Cells.{Cells}
use Rattle.nam_layout.specs.PlaceFits.{FitsCells}
use Rattle.nam_calls.specs.declared.record.CurrentPoint.{CurrentPoint}
use Rattle.nam_calls.specs.declared.record.CurrentEnd.{CurrentEnd}
use Rattle.nam_calls.specs.declared.ring.RingPoint.{RingPoint}
use Rattle.nam_calls.specs.declared.ring.SearchEnd.{SearchEnd}
use Rattle.nam_calls.specs.declared.ring.SearchEnd.TheVariants.{Found, NotThere}
use Rattle.nam_calls.specs.declared.overflow.CellPoint.{CellPoint}
use Rattle.nam_calls.specs.declared.horizon.CollectPoint.{CollectPoint}
use Rattle.nam_calls.specs.declared.horizon.CollectPoint.TheVariants.{HorizonLook, HorizonRaise, CollectTag}
use Rattle.nam_calls.specs.declared.horizon.CollectPoint.TheVariants.{CollectEnding, CollectFree}
use Rattle.nam_calls.specs.declared.horizon.OldEnd.{OldEnd}
use Rattle.nam_calls.specs.declared.horizon.OldEnd.TheVariants.{TooOld, NotPassed}
use Rattle.nam_calls.specs.declared.reading.Sight.{Sight}
use Rattle.nam_calls.specs.declared.reading.ReadPoint.{ReadPoint}
use Rattle.nam_calls.specs.declared.reading.ReadPoint.TheVariants.{ReadCurrent, ReadUnsure, ReadRecheck, ReadRing}
use Rattle.nam_calls.specs.declared.reading.ReadPoint.TheVariants.{ReadCells, ReadHorizon}
use Rattle.nam_calls.specs.declared.reading.ReadingEnd.{ReadingEnd}
use Rattle.nam_calls.specs.declared.reading.ReadingEnd.TheVariants.{Got}
use Rattle.nam_calls.specs.Record.{current_begin}
use Rattle.nam_calls.specs.Ring.{ring_begin}
use Rattle.nam_calls.specs.Horizon.{collect_after, collect_next, collect_left, entry_known, old_after, old_left}
use Rattle.nam_calls.specs.Reading.{on_current, on_unsure, on_ring, on_cells, on_horizon, read_after, ring_whole}
use Rattle.nam_calls.specs.Reading.{cells_whole, old_versions_left, read_left}
use Rattle.nam_calls.specs.Fits.{IsOf, CollectFits, CollectEnds, OldEnds, SightFits, ReadFits, ReadEnds}
use Rattle.nam_calls.proofs.FallsTests.{either, or_last, one_more, all_rows}
use Rattle.nam_calls.proofs.FallsMachines.{CurrentFalls, current_falls, RingFalls, ring_falls}
use Rattle.nam_calls.proofs.FallsCells.{CellFalls, cell_falls}
use Rattle.nam_calls.specs.declared.record.CurrentEnd.TheVariants as current

-- 1. A collection

module _ (cells : Cells) (workers : ℕ) (room : FitsCells cells) where
  abbrev pub CollectFalls : ℕ → Now CollectPoint (List ℕ) → Type 0
  CollectFalls = Falls (CollectFits cells workers) (CollectEnds workers) (collect_left cells workers)

  entry_falls : (known : List ℕ) (entry n : ℕ) → length known < workers
      → 2 * (workers - length known) - 1 + 3 * cells.cells ≤ n
      → CollectFalls n (entry_known workers (known ++ entry ∷ []))
  entry_falls known entry n l m =
      let c = room.least_cells in
      one_more (λ at. CollectFits cells workers at × (collect_left cells workers at < n))
      workers known entry HorizonLook (λ all. CollectTag all 0) l (λ e f. (f, omega arith))
      (λ e f. ((f, c), omega arith))

  next_falls : (known : List ℕ) (cell n : ℕ) → length known ≡ workers → cell < cells.cells
      → 3 * (cells.cells - cell - 1) < n
      → CollectFalls n (collect_next cells known cell)
  next_falls known cell n e l m =
      or_last (CollectFalls n) cells.cells cell (Over known) (At (CollectTag known (cell + 1))) l
      (λ f. (e, omega arith)) (λ f. ((e, f), omega arith))

  pub collect_falls : (seen : List ℕ) (at : CollectPoint) (found : ℕ) → CollectFits cells workers at
      → CollectFalls (collect_left cells workers at) (collect_after cells workers seen at found)
  collect_falls seen (HorizonLook known) found l =
      either (CollectFalls (collect_left cells workers (HorizonLook known))) _ (At (HorizonRaise known found))
      (entry_known workers (known ++ found ∷ []))
      (l, omega arith) (entry_falls known found _ l (omega arith))
  collect_falls seen (HorizonRaise known expected) found l =
      entry_falls known (if found == expected then slice_index seen (length known) else found) _ l (omega arith)
  collect_falls seen (CollectTag known cell) found l =
      either (CollectFalls (collect_left cells workers (CollectTag known cell))) _ (At (CollectEnding known cell found))
      (collect_next cells known cell)
      (l, omega arith) (next_falls known cell _ l.0 l.1 (omega arith))
  collect_falls seen (CollectEnding known cell tag) found l =
      either (CollectFalls (collect_left cells workers (CollectEnding known cell tag))) _
      (At (CollectFree known cell tag))
      (collect_next cells known cell)
      (l, omega arith) (next_falls known cell _ l.0 l.1 (omega arith))
  collect_falls seen (CollectFree known cell tag) found l = next_falls known cell _ l.0 l.1 (omega arith)

-- 2. Showing that a snapshot is too old

module _ (workers : ℕ) where
  abbrev pub OldFalls : ℕ → Now ℕ OldEnd → Type 0
  OldFalls = Falls (IsOf workers) (OldEnds workers) (old_left workers)

  pub old_falls : (seen : List ℕ) (worker found : ℕ) → IsOf workers worker
      → OldFalls (old_left workers worker) (old_after workers seen worker found)
  old_falls seen worker found l =
      let n = old_left workers worker in
      either (OldFalls n) _ (Over (TooOld worker (slice_index seen (worker - 1)) found))
      (if worker == workers then Over NotPassed else At (worker + 1))
      (l, omega arith)
      (by_test (OldFalls n) (worker == workers) (Over NotPassed) (At (worker + 1)) (λ e. (tt, omega arith))
      (λ e. grind (arith, nat_tests)))

-- 3. A whole read

module _ (sight : Sight) (fits : SightFits sight) where
  abbrev pub ReadFalls : ℕ → Now ReadPoint ReadingEnd → Type 0
  ReadFalls = Falls (ReadFits sight) (ReadEnds sight) (read_left sight)

  on_current_falls : (n : ℕ) (now : Now CurrentPoint CurrentEnd) → CurrentFalls sight.place fits.place n now
      → ReadFalls (n + (ring_whole sight + (1 + old_versions_left sight))) (on_current now)
  on_current_falls n (At at) h = (h.0, omega arith)
  on_current_falls n (Over (current.Found value)) h = (h.0, omega arith)
  on_current_falls n (Over (current.Unsure value header)) h =
      let r = all_rows sight.place.ring (sight.place.width + 3) fits.place.least_ring in
      ((h.0, fits.place.least_ring), omega arith)
  on_current_falls n (Over current.GoOld) h =
      let r = all_rows sight.place.ring (sight.place.width + 3) fits.place.least_ring in
      (fits.place.least_ring, omega arith)

  on_unsure_falls : (value : List ℕ) (header n : ℕ) (now : Now RingPoint SearchEnd) → length value ≡ sight.place.width
      → RingFalls sight.place fits.place n now
      → ReadFalls (n + (1 + old_versions_left sight)) (on_unsure value header now)
  on_unsure_falls value header n (At at) e h = ((e, h.0), omega arith)
  on_unsure_falls value header n (Over (Found old)) e h = (h.0, omega arith)
  on_unsure_falls value header n (Over NotThere) e h = (e, omega arith)

  on_ring_falls : (n : ℕ) (now : Now RingPoint SearchEnd) → RingFalls sight.place fits.place n now
      → ReadFalls (n + (cells_whole sight + sight.workers)) (on_ring now)
  on_ring_falls n (At at) h = (h.0, omega arith)
  on_ring_falls n (Over (Found old)) h = (h.0, omega arith)
  on_ring_falls n (Over NotThere) h =
      let r = all_rows sight.cells.cells (sight.place.width + 5) fits.cells.least_cells in
      (fits.cells.least_cells, omega arith)

  on_cells_falls : (n : ℕ) (now : Now CellPoint SearchEnd) → CellFalls sight.cells sight.place fits.place n now
      → ReadFalls (n + sight.workers) (on_cells now)
  on_cells_falls n (At at) h = (h.0, omega arith)
  on_cells_falls n (Over (Found old)) h = (h.0, omega arith)
  on_cells_falls n (Over NotThere) h = let w = fits.workers in ((omega arith, w), omega arith)

  on_horizon_falls : (n : ℕ) (now : Now ℕ OldEnd) → OldFalls sight.workers n now → ReadFalls n (on_horizon now)
  on_horizon_falls n (At worker) h = h
  on_horizon_falls n (Over (TooOld worker entry horizon)) h = h
  on_horizon_falls n (Over NotPassed) h = h

  pub read_falls : (seen : List ℕ) (at : ReadPoint) (found : ℕ) → ReadFits sight at
      → ReadFalls (read_left sight at) (read_after sight seen at found)
  read_falls seen (ReadCurrent at) found l = on_current_falls _ _ (current_falls sight.place fits.place seen at found l)
  read_falls seen (ReadUnsure value header at) found l =
      on_unsure_falls value header _ _ l.0 (ring_falls sight.place fits.place seen at found l.1)
  read_falls seen (ReadRecheck value header) found l =
      let r = all_rows sight.place.ring (sight.place.width + 3) fits.place.least_ring in
      either (ReadFalls (1 + old_versions_left sight)) _ (Over (Got (Some value))) (At (ReadRing ring_begin))
      (l, omega arith)
      (fits.place.least_ring, omega arith)
  read_falls seen (ReadRing at) found l = on_ring_falls _ _ (ring_falls sight.place fits.place seen at found l)
  read_falls seen (ReadCells at) found l =
      on_cells_falls _ _ (cell_falls sight.cells sight.place fits.place seen at found l)
  read_falls seen (ReadHorizon worker) found l = on_horizon_falls _ _ (old_falls sight.workers seen worker found l)

  -- a whole read
  pub read_begins : read_left sight (ReadCurrent current_begin) ≡ 3 + sight.place.width + 2 * ring_whole sight
      + cells_whole sight + sight.workers
  read_begins = omega arith
