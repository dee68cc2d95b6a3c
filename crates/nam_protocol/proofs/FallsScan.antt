-- The verbs to come fall in a scan, and how many it begins with.
use Rattle.std.proofs.Common.{◌≡◌, ℕ, suc, ◌+◌, ◌-◌, ◌*◌, ◌<◌, ◌≤◌, List, refl, subst, arith}
use Rattle.std.proofs.Math.Nat.{suc-mul}
use Rattle.nam_verbs.specs.declared.now.Now.{Now}
use Rattle.nam_verbs.specs.declared.now.Now.TheVariants.{At, Over}
use Rattle.nam_verbs.specs.Falls.{FallsTo}
use Rattle.nam_catalog.specs.declared.shape.Shape.{Shape}
use Rattle.nam_catalog.specs.Fits.{FitsLimits}
use Rattle.nam_calls.specs.declared.reading.ReadPoint.{ReadPoint}
use Rattle.nam_calls.specs.declared.reading.ReadingEnd.{ReadingEnd}
use Rattle.nam_calls.specs.Words.{capacity_of}
use Rattle.nam_calls.specs.Reading.{sight_of, read_begin, read_most}
use Rattle.nam_calls.specs.Fits.{HasWidth, IsTableOf}
use Rattle.nam_calls.proofs.FallsTests.{either, or_last}
use Rattle.nam_calls.proofs.FallsRead.{ReadFalls, read_falls}
use Rattle.nam_calls.proofs.FallsTables.{has_capacity, width_is, sight_fits, read_figure}
use Rattle.nam_calls.specs.declared.reading.ReadingEnd.TheVariants as read_end
use Rattle.nam_protocol.specs.declared.scan.ScanPoint.{ScanPoint}
use Rattle.nam_protocol.specs.declared.scan.ScanPoint.TheVariants.{ScanKey, ScanRead}
use Rattle.nam_protocol.specs.declared.scan.ScanAnswer.{ScanAnswer}
use Rattle.nam_protocol.specs.declared.scan.ScanAnswer.TheVariants.{Key, Done}
use Rattle.nam_protocol.specs.Scan.{in_range, scan_begin, scan_skip, scan_read, on_scan_read, scan_after, position_of}
use Rattle.nam_protocol.specs.Scan.{positions_left, scan_left}
use Rattle.nam_protocol.specs.Bound.{scan_bound}
use Rattle.nam_protocol.specs.TxnFits.{ScanFits, ScanEnds, after_scan}

-- the verbs of this position, and of those after it
first_row : (r k m q : ℕ) → r ≡ suc m → m ≡ q → q * k + k ≡ r * k
first_row r k m q e f = rw (← f, e, suc-mul) refl

module _ (shape : Shape) (limits : FitsLimits shape) (table : ℕ) (is : IsTableOf shape table) where
  abbrev pub ScanFalls : ℕ → ℕ → Now ScanPoint ScanAnswer → Type 0
  ScanFalls position =
      FallsTo (ScanFits shape table) (ScanEnds shape table) (scan_left shape table) (after_scan shape table position)

  position_figure : (position : ℕ) → position < capacity_of shape table
      → positions_left shape table (capacity_of shape table - position - 1) + (1 + read_most shape table)
      ≡ positions_left shape table (capacity_of shape table - position)
  position_figure position l =
      first_row (capacity_of shape table - position) (1 + read_most shape table)
      (capacity_of shape table - position - 1) _ (omega arith) refl

  -- the position is left
  pub scan_skip_falls : (position n : ℕ) → position < capacity_of shape table
      → positions_left shape table (capacity_of shape table - position - 1) < n
      → ScanFalls position n (scan_skip shape table position)
  scan_skip_falls position n l m =
      or_last (ScanFalls position n) (capacity_of shape table) position (Over Done) (At (ScanKey (position + 1))) l
      (λ e. (tt, omega arith))
      (λ e. let f : capacity_of shape table - (position + 1) ≡ capacity_of shape table - position - 1 = omega arith in
      (e, rw f m))

  -- the position is read
  pub scan_read_falls : (position key n : ℕ) → position < capacity_of shape table
      → scan_left shape table (ScanRead position key read_begin) < n
      → ScanFalls position n (scan_read position key)
  scan_read_falls position key n l m = ((l, tt), m)

  on_scan_read_falls : (position key n : ℕ) (now : Now ReadPoint ReadingEnd) (l : position < capacity_of shape table)
      → ReadFalls (sight_of shape table position) (sight_fits shape limits table position is l) n now
      → ScanFalls position (n + positions_left shape table (capacity_of shape table - position - 1))
      (on_scan_read table position key now)
  on_scan_read_falls position key n (At at) l h = ((l, h.0), let m = h.1 in omega arith)
  on_scan_read_falls position key n (Over (read_end.Got value)) l h =
      (subst (λ w. HasWidth w value) (width_is shape limits table position is l) h.0, let m = h.1 in omega arith)
  on_scan_read_falls position key n (Over (read_end.Passed worker entry horizon)) l h =
      (h.0, let m = h.1 in omega arith)
  on_scan_read_falls position key n (Over read_end.Astray) l h = (tt, let m = h.1 in omega arith)

  -- a word is taken
  pub scan_falls : (low high : ℕ) (seen : List ℕ) (place : ScanPoint) (found : ℕ) → ScanFits shape table place
      → ScanFalls (position_of place) (scan_left shape table place) (scan_after shape table low high seen place found)
  scan_falls low high seen (ScanKey position) found l =
      let f = position_figure position l in
      let r = read_figure shape limits table position is l in
      either (ScanFalls position (scan_left shape table (ScanKey position))) (in_range low high found)
      (Over (Key (found - 1)))
      (scan_skip shape table position)
      (tt, omega arith) (scan_skip_falls position _ l (omega arith))
  scan_falls low high seen (ScanRead position key at) found l =
      on_scan_read_falls position key _ _ l.0
      (read_falls (sight_of shape table position) (sight_fits shape limits table position is l.0) seen at found l.1)

  -- a scan begins
  pub scan_begins : ScanFits shape table scan_begin × (scan_left shape table scan_begin ≤ scan_bound shape table)
  scan_begins =
      let e : capacity_of shape table - 0 ≡ capacity_of shape table = omega arith in
      (has_capacity shape limits table is, rw e (omega arith))
