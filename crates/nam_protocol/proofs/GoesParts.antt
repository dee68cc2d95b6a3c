-- Where a composed call goes on, by what its part has come to: for the read, the move, and the scan.
use Rattle.std.proofs.Common.{◌≡◌, ℕ, true, false, List, [], Option, Some, refl}
use Rattle.std.proofs.lemmas.Bool.{cond_both}
use Rattle.si_model.specs.Rows.{key_at, item_at}
use Rattle.nam_verbs.specs.declared.now.Now.{Now}
use Rattle.nam_verbs.specs.declared.now.Now.TheVariants.{At, Over}
use Rattle.nam_layout.specs.declared.field.Cells.{Cells}
use Rattle.nam_calls.specs.declared.record.CurrentPoint.{CurrentPoint}
use Rattle.nam_calls.specs.declared.record.CurrentEnd.{CurrentEnd}
use Rattle.nam_calls.specs.declared.ring.RingPoint.{RingPoint}
use Rattle.nam_calls.specs.declared.ring.SearchEnd.{SearchEnd}
use Rattle.nam_calls.specs.declared.ring.SearchEnd.TheVariants.{Found, NotThere}
use Rattle.nam_calls.specs.declared.overflow.CellPoint.{CellPoint}
use Rattle.nam_calls.specs.declared.overflow.ClaimPoint.{ClaimPoint}
use Rattle.nam_calls.specs.declared.overflow.ClaimEnd.{ClaimEnd}
use Rattle.nam_calls.specs.declared.overflow.ClaimEnd.TheVariants.{Claimed, NoRoom}
use Rattle.nam_calls.specs.declared.overflow.FillPoint.{FillPoint}
use Rattle.nam_calls.specs.declared.overflow.Version.{Version}
use Rattle.nam_calls.specs.declared.horizon.OldEnd.{OldEnd}
use Rattle.nam_calls.specs.declared.horizon.OldEnd.TheVariants.{TooOld, NotPassed}
use Rattle.nam_calls.specs.declared.reading.Sight.{Sight}
use Rattle.nam_calls.specs.declared.reading.ReadPoint.{ReadPoint}
use Rattle.nam_calls.specs.declared.reading.ReadPoint.TheVariants.{ReadCurrent, ReadUnsure, ReadRecheck, ReadRing}
use Rattle.nam_calls.specs.declared.reading.ReadPoint.TheVariants.{ReadCells, ReadHorizon}
use Rattle.nam_calls.specs.declared.reading.ReadingEnd.{ReadingEnd}
use Rattle.nam_calls.specs.declared.mover.MovePoint.{MovePoint}
use Rattle.nam_calls.specs.declared.mover.MovePoint.TheVariants.{MoveClaim, MoveWords, MoveFill, MoveAgain}
use Rattle.nam_calls.specs.declared.mover.MoveAnswer.{MoveAnswer}
use Rattle.nam_calls.specs.Ring.{ring_begin}
use Rattle.nam_calls.specs.Overflow.{cell_begin}
use Rattle.nam_calls.specs.Horizon.{old_begin}
use Rattle.nam_calls.specs.Record.{recheck_end}
use Rattle.nam_calls.specs.Reading.{on_current, on_unsure, on_ring, on_cells, on_horizon, read_after}
use Rattle.nam_calls.specs.Mover.{on_claim, on_fill}
use Rattle.nam_calls.specs.declared.record.CurrentEnd.TheVariants as current
use Rattle.nam_calls.specs.declared.reading.ReadingEnd.TheVariants as read_end
use Rattle.nam_calls.specs.declared.mover.MoveAnswer.TheVariants as move_end
use Rattle.nam_protocol.specs.declared.scan.ScanPoint.{ScanPoint}
use Rattle.nam_protocol.specs.declared.scan.ScanPoint.TheVariants.{ScanRead}
use Rattle.nam_protocol.specs.declared.scan.ScanAnswer.{ScanAnswer}
use Rattle.nam_protocol.specs.Scan.{on_scan_read}
use Rattle.nam_protocol.specs.declared.scan.ScanAnswer.TheVariants as scan_answer

-- 1. The read

module _ (P : Now ReadPoint ReadingEnd → Type 0) where
  pub current_goes : (now : Now CurrentPoint CurrentEnd)
      → ((place : CurrentPoint) → now ≡ At place → P (At (ReadCurrent place)))
      → ((value : Option (List ℕ)) → now ≡ Over (current.Found value) → P (Over (read_end.Got value)))
      → ((value : List ℕ) (header : ℕ) → now ≡ Over (current.Unsure value header)
      → P (At (ReadUnsure value header ring_begin)))
      → (now ≡ Over current.GoOld → P (At (ReadRing ring_begin)))
      → P (on_current now)
  current_goes (At place) stays found unsure old = stays place refl
  current_goes (Over (current.Found value)) stays found unsure old = found value refl
  current_goes (Over (current.Unsure value header)) stays found unsure old = unsure value header refl
  current_goes (Over current.GoOld) stays found unsure old = old refl

  pub unsure_goes : (value : List ℕ) (header : ℕ) (now : Now RingPoint SearchEnd)
      → ((place : RingPoint) → now ≡ At place → P (At (ReadUnsure value header place)))
      → ((old : Option (List ℕ)) → now ≡ Over (Found old) → P (Over (read_end.Got old)))
      → (now ≡ Over NotThere → P (At (ReadRecheck value header)))
      → P (on_unsure value header now)
  unsure_goes value header (At place) stays found none = stays place refl
  unsure_goes value header (Over (Found old)) stays found none = found old refl
  unsure_goes value header (Over NotThere) stays found none = none refl

  pub recheck_goes : (sight : Sight) (seen : List ℕ) (value : List ℕ) (header word : ℕ)
      → (recheck_end sight.place header word ≡ true → P (Over (read_end.Got (Some value))))
      → (recheck_end sight.place header word ≡ false → P (At (ReadRing ring_begin)))
      → P (read_after sight seen (ReadRecheck value header) word)
  recheck_goes sight seen value header word found old = cond_both (recheck_end sight.place header word) _ _ P found old

  pub ring_goes : (now : Now RingPoint SearchEnd)
      → ((place : RingPoint) → now ≡ At place → P (At (ReadRing place)))
      → ((old : Option (List ℕ)) → now ≡ Over (Found old) → P (Over (read_end.Got old)))
      → (now ≡ Over NotThere → P (At (ReadCells cell_begin)))
      → P (on_ring now)
  ring_goes (At place) stays found none = stays place refl
  ring_goes (Over (Found old)) stays found none = found old refl
  ring_goes (Over NotThere) stays found none = none refl

  pub cells_goes : (now : Now CellPoint SearchEnd)
      → ((place : CellPoint) → now ≡ At place → P (At (ReadCells place)))
      → ((old : Option (List ℕ)) → now ≡ Over (Found old) → P (Over (read_end.Got old)))
      → (now ≡ Over NotThere → P (At (ReadHorizon old_begin)))
      → P (on_cells now)
  cells_goes (At place) stays found none = stays place refl
  cells_goes (Over (Found old)) stays found none = found old refl
  cells_goes (Over NotThere) stays found none = none refl

  pub horizon_goes : (now : Now ℕ OldEnd)
      → ((worker : ℕ) → now ≡ At worker → P (At (ReadHorizon worker)))
      → ((worker entry horizon : ℕ) → now ≡ Over (TooOld worker entry horizon)
      → P (Over (read_end.Passed worker entry horizon)))
      → (now ≡ Over NotPassed → P (Over read_end.Astray))
      → P (on_horizon now)
  horizon_goes (At worker) stays passed none = stays worker refl
  horizon_goes (Over (TooOld worker entry horizon)) stays passed none = passed worker entry horizon refl
  horizon_goes (Over NotPassed) stays passed none = none refl

-- 2. The move

module _ (P : Now MovePoint MoveAnswer → Type 0) where
  pub claim_cell_goes : (cells : Cells) (slot header ending : ℕ) (now : Now ClaimPoint ClaimEnd)
      → ((place : ClaimPoint) → now ≡ At place → P (At (MoveClaim slot header ending place)))
      → ((cell tag : ℕ) → now ≡ Over (Claimed cell tag) → P (At (MoveWords slot header ending cell tag [])))
      → (now ≡ Over NoRoom → P (Over (move_end.NoRoom cells.bucket)))
      → P (on_claim cells slot header ending now)
  claim_cell_goes cells slot header ending (At place) stays claimed none = stays place refl
  claim_cell_goes cells slot header ending (Over (Claimed cell tag)) stays claimed none = claimed cell tag refl
  claim_cell_goes cells slot header ending (Over NoRoom) stays claimed none = none refl

  pub fill_goes : (slot header cell tag : ℕ) (version : Version) (now : Now FillPoint (Unit {0}))
      → ((place : FillPoint) → now ≡ At place → P (At (MoveFill slot header cell tag version place)))
      → (now ≡ Over tt → P (At (MoveAgain slot header cell tag)))
      → P (on_fill slot header cell tag version now)
  fill_goes slot header cell tag version (At place) stays done = stays place refl
  fill_goes slot header cell tag version (Over tt) stays done = done refl

-- 3. The scan

module _ (table : ℕ) (P : Now ScanPoint ScanAnswer → Type 0) where
  pub scan_read_goes : (position key : ℕ) (now : Now ReadPoint ReadingEnd)
      → ((place : ReadPoint) → now ≡ At place → P (At (ScanRead position key place)))
      → ((value : Option (List ℕ)) → now ≡ Over (read_end.Got value)
      → P (Over (scan_answer.Row (item_at (key_at table key) value))))
      → ((worker entry horizon : ℕ) → now ≡ Over (read_end.Passed worker entry horizon)
      → P (Over (scan_answer.TooOld worker entry horizon)))
      → (now ≡ Over read_end.Astray → P (Over scan_answer.Astray))
      → P (on_scan_read table position key now)
  scan_read_goes position key (At place) stays found passed astray = stays place refl
  scan_read_goes position key (Over (read_end.Got value)) stays found passed astray = found value refl
  scan_read_goes position key (Over (read_end.Passed worker entry horizon)) stays found passed astray =
      passed worker entry horizon refl
  scan_read_goes position key (Over read_end.Astray) stays found passed astray = astray refl
