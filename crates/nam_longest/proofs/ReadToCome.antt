-- The verbs to come at the very most fall in a read.
use Rattle.std.proofs.Common.{◌≡◌, ℕ, ◌+◌, ◌<◌, ◌≤◌, List, arith}
use Rattle.std.specs.Prelude.{max}
use Rattle.nam_verbs.specs.declared.now.Now.{Now}
use Rattle.nam_verbs.specs.declared.now.Now.TheVariants.{At, Over}
use Rattle.nam_verbs.specs.Falls.{FallsTo}
use Rattle.nam_catalog.specs.declared.shape.Shape.{Shape}
use Rattle.nam_catalog.specs.Fits.{FitsLimits}
use Rattle.nam_calls.specs.declared.horizon.OldEnd.{OldEnd}
use Rattle.nam_calls.specs.declared.horizon.OldEnd.TheVariants.{TooOld, NotPassed}
use Rattle.nam_calls.specs.declared.reading.Sight.{Sight}
use Rattle.nam_calls.specs.declared.reading.ReadPoint.{ReadPoint}
use Rattle.nam_calls.specs.declared.reading.ReadPoint.TheVariants.{ReadCurrent, ReadUnsure, ReadRecheck, ReadRing}
use Rattle.nam_calls.specs.declared.reading.ReadPoint.TheVariants.{ReadCells, ReadHorizon}
use Rattle.nam_calls.specs.declared.reading.ReadingEnd.{ReadingEnd}
use Rattle.nam_calls.specs.declared.reading.ReadingEnd.TheVariants.{Got, Passed, Astray}
use Rattle.nam_calls.specs.declared.record.CurrentPoint.{CurrentPoint}
use Rattle.nam_calls.specs.declared.record.CurrentPoint.TheVariants.{CurrentHead, CurrentWords, CurrentAgain}
use Rattle.nam_calls.specs.declared.ring.RingPoint.{RingPoint}
use Rattle.nam_calls.specs.declared.ring.RingPoint.TheVariants.{SlotHead, SlotEnding, SlotWords, SlotAgain}
use Rattle.nam_calls.specs.declared.overflow.CellPoint.{CellPoint}
use Rattle.nam_calls.specs.declared.overflow.CellPoint.TheVariants.{CellTag, CellOwner, CellBegin, CellEnding}
use Rattle.nam_calls.specs.declared.overflow.CellPoint.TheVariants.{CellWords, CellAgain}
use Rattle.nam_calls.specs.Words.{capacity_of}
use Rattle.nam_calls.specs.Record.{current_left}
use Rattle.nam_calls.specs.Ring.{ring_left}
use Rattle.nam_calls.specs.Overflow.{cell_left}
use Rattle.nam_calls.specs.Reading.{sight_of, read_begin, on_horizon, read_after, ring_whole, cells_whole, read_left}
use Rattle.nam_calls.specs.Fits.{SightFits, ReadFits, ReadEnds, IsTableOf}
use Rattle.nam_calls.proofs.FallsRead.{OldFalls, old_falls, ReadFalls, read_falls}
use Rattle.nam_calls.proofs.FallsTables.{read_figure}
use Rattle.nam_longest.specs.Longest.{read_to_come, value_longest}

-- what follows an end of a read: so many verbs follow a value
abbrev pub after_value : ℕ → ReadingEnd → ℕ
after_value after (Got value) = after
after_value after _ = 0

module _ (sight : Sight) (fits : SightFits sight) (after : ℕ) where
  abbrev pub ReadLowers : ℕ → Now ReadPoint ReadingEnd → Type 0
  ReadLowers = FallsTo (ReadFits sight) (ReadEnds sight) (read_to_come sight after) (after_value after)

  -- before the horizon's entries: the figures differ by what follows alone
  before_horizon : (early n most : ℕ) (now : Now ReadPoint ReadingEnd) → 1 ≤ early → early + sight.workers ≡ n
      → early + max after sight.workers ≡ most
      → ReadFalls sight fits n now → ReadLowers most now
  before_horizon early n most (At (ReadCurrent at)) some e f h = (h.0, let l = h.1 in omega arith)
  before_horizon early n most (At (ReadUnsure value header at)) some e f h = (h.0, let l = h.1 in omega arith)
  before_horizon early n most (At (ReadRecheck value header)) some e f h = (h.0, let l = h.1 in omega arith)
  before_horizon early n most (At (ReadRing at)) some e f h = (h.0, let l = h.1 in omega arith)
  before_horizon early n most (At (ReadCells at)) some e f h = (h.0, let l = h.1 in omega arith)
  before_horizon early n most (At (ReadHorizon worker)) some e f h =
      (h.0, let l = h.0.0 in let m = h.0.1 in omega arith)
  before_horizon early n most (Over (Got value)) some e f h = (h.0, omega arith)
  before_horizon early n most (Over (Passed worker entry horizon)) some e f h = (h.0, omega arith)
  before_horizon early n most (Over Astray) some e f h = (h.0, omega arith)

  at_horizon : (n : ℕ) (now : Now ℕ OldEnd) → OldFalls sight.workers n now → ReadLowers n (on_horizon now)
  at_horizon n (At worker) h = h
  at_horizon n (Over (TooOld worker entry horizon)) h = h
  at_horizon n (Over NotPassed) h = h

  current_some : (at : CurrentPoint) → 1 ≤ current_left sight.place at
  current_some CurrentHead = omega arith
  current_some (CurrentWords header got) = omega arith
  current_some (CurrentAgain header value) = omega arith

  ring_some : (at : RingPoint) → 1 ≤ ring_left sight.place at
  ring_some (SlotHead slot) = omega arith
  ring_some (SlotEnding slot header) = omega arith
  ring_some (SlotWords slot header got) = omega arith
  ring_some (SlotAgain slot header value) = omega arith

  cell_some : (at : CellPoint) → 1 ≤ cell_left sight.cells sight.place at
  cell_some (CellTag cell) = omega arith
  cell_some (CellOwner cell tag) = omega arith
  cell_some (CellBegin cell tag) = omega arith
  cell_some (CellEnding cell tag header) = omega arith
  cell_some (CellWords cell tag header got) = omega arith
  cell_some (CellAgain cell tag header value) = omega arith

  abbrev old : ℕ
  old = ring_whole sight + cells_whole sight

  pub read_lowers : (seen : List ℕ) (at : ReadPoint) (found : ℕ) → ReadFits sight at
      → ReadLowers (read_to_come sight after at) (read_after sight seen at found)
  read_lowers seen (ReadCurrent at) found l =
      let s = current_some at in
      before_horizon (current_left sight.place at + (ring_whole sight + (1 + old))) _ _ _ (omega arith) (omega arith)
      (omega arith) (read_falls sight fits seen (ReadCurrent at) found l)
  read_lowers seen (ReadUnsure value header at) found l =
      let s = ring_some at in
      before_horizon (ring_left sight.place at + (1 + old)) _ _ _ (omega arith) (omega arith) (omega arith)
      (read_falls sight fits seen (ReadUnsure value header at) found l)
  read_lowers seen (ReadRecheck value header) found l =
      before_horizon (1 + old) _ _ _ (omega arith) (omega arith) (omega arith)
      (read_falls sight fits seen (ReadRecheck value header) found l)
  read_lowers seen (ReadRing at) found l =
      let s = ring_some at in
      before_horizon (ring_left sight.place at + cells_whole sight) _ _ _ (omega arith) (omega arith) (omega arith)
      (read_falls sight fits seen (ReadRing at) found l)
  read_lowers seen (ReadCells at) found l =
      let s = cell_some at in
      before_horizon (cell_left sight.cells sight.place at) _ _ _ s (omega arith) (omega arith)
      (read_falls sight fits seen (ReadCells at) found l)
  read_lowers seen (ReadHorizon worker) found l = at_horizon _ _ (old_falls sight.workers seen worker found l)

-- no more than the verbs to come, and so many more
pub read_within : (sight : Sight) (after more : ℕ) → max after sight.workers ≤ sight.workers + more → (at : ReadPoint)
    → read_to_come sight after at ≤ read_left sight at + more
read_within sight after more l (ReadCurrent at) = omega arith
read_within sight after more l (ReadUnsure value header at) = omega arith
read_within sight after more l (ReadRecheck value header) = omega arith
read_within sight after more l (ReadRing at) = omega arith
read_within sight after more l (ReadCells at) = omega arith
read_within sight after more l (ReadHorizon worker) = omega arith

-- a whole read at a position of a table
pub read_begins : (shape : Shape) → FitsLimits shape → (table position after : ℕ) → IsTableOf shape table
    → position < capacity_of shape table
    → read_to_come (sight_of shape table position) after read_begin
    ≡ value_longest shape table + max after shape.workers
read_begins shape limits table position after is l =
    let f = read_figure shape limits table position is l in
    omega arith
