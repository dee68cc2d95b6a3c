-- The verbs to come at the very most fall in a scan.
use Rattle.std.proofs.Common.{◌≡◌, ℕ, suc, ◌+◌, ◌-◌, ◌*◌, ◌<◌, ◌≤◌, List, refl, arith}
use Rattle.std.proofs.Math.Nat.{suc-mul, mul-le-mul_left}
use Rattle.nam_verbs.specs.declared.now.Now.{Now}
use Rattle.nam_verbs.specs.declared.now.Now.TheVariants.{At, Over}
use Rattle.nam_verbs.specs.Falls.{FallsTo, Any}
use Rattle.nam_catalog.specs.declared.shape.Shape.{Shape}
use Rattle.nam_catalog.specs.Fits.{FitsLimits}
use Rattle.nam_calls.specs.declared.reading.ReadPoint.{ReadPoint}
use Rattle.nam_calls.specs.declared.reading.ReadingEnd.{ReadingEnd}
use Rattle.nam_calls.specs.Words.{capacity_of}
use Rattle.nam_calls.specs.Reading.{sight_of, read_begin, read_most}
use Rattle.nam_calls.specs.Fits.{IsTableOf}
use Rattle.nam_calls.proofs.FallsTests.{either, or_last}
use Rattle.nam_calls.proofs.FallsTables.{sight_fits}
use Rattle.nam_calls.specs.declared.reading.ReadingEnd.TheVariants as read_end
use Rattle.nam_protocol.specs.declared.scan.ScanPoint.{ScanPoint}
use Rattle.nam_protocol.specs.declared.scan.ScanPoint.TheVariants.{ScanKey, ScanRead}
use Rattle.nam_protocol.specs.declared.scan.ScanAnswer.{ScanAnswer}
use Rattle.nam_protocol.specs.declared.scan.ScanAnswer.TheVariants.{Key, Row, Done}
use Rattle.nam_protocol.specs.Scan.{in_range, scan_skip, on_scan_read, scan_after, position_of}
use Rattle.nam_protocol.specs.Scan.{positions_left, scan_left}
use Rattle.nam_protocol.specs.TxnFits.{ScanFits}
use Rattle.nam_longest.specs.Longest.{value_longest, positions_longest, scan_to_come}
use Rattle.nam_longest.proofs.ReadToCome.{ReadLowers, read_lowers, read_within, read_begins}

-- this position, and those after it
first_of : (r k m q : ℕ) → r ≡ suc m → m ≡ q → q * k + k ≡ r * k
first_of r k m q e f = rw (← f, e, suc-mul) refl

module _ (shape : Shape) (table : ℕ) where
  -- the positions after this one
  abbrev pub rest : ℕ → ℕ
  rest position = positions_longest shape table (capacity_of shape table - position - 1)

  abbrev after_end : ℕ → ScanAnswer → ℕ
  after_end position (Key key) = scan_to_come shape table (ScanRead position key read_begin)
  after_end position (Row item) = rest position
  after_end position _ = 0

  abbrev pub ScanLowers : ℕ → ℕ → Now ScanPoint ScanAnswer → Type 0
  ScanLowers position = FallsTo Any Any (scan_to_come shape table) (after_end position)

  position_figure : (position : ℕ) → position < capacity_of shape table
      → rest position + (1 + value_longest shape table)
      ≡ positions_longest shape table (capacity_of shape table - position)
  position_figure position l =
      let e = first_of (capacity_of shape table - position) (1 + value_longest shape table)
      (capacity_of shape table - position - 1) (capacity_of shape table - position - 1) (omega arith) refl in
      omega arith

  -- the position is left
  pub scan_skip_lowers : (position n : ℕ) → position < capacity_of shape table → rest position < n
      → ScanLowers position n (scan_skip shape table position)
  scan_skip_lowers position n l m =
      or_last (ScanLowers position n) (capacity_of shape table) position (Over Done) (At (ScanKey (position + 1))) l
      (λ e. (tt, omega arith))
      (λ e. let f : capacity_of shape table - (position + 1) ≡ capacity_of shape table - position - 1 = omega arith in
      (tt, rw f m))

  -- the positions from one on are no more than their bound
  positions_within : (n : ℕ)
      → positions_longest shape table n ≤ shape.workers + positions_left shape table n
  positions_within n =
      let m : n * (1 + value_longest shape table) ≤ n * (1 + read_most shape table) = mul-le-mul_left n (omega arith) in
      omega arith

  -- no more than the verbs to come
  pub scan_within : (place : ScanPoint) → ScanFits shape table place
      → scan_to_come shape table place ≤ scan_left shape table place
  scan_within (ScanKey position) l =
      let e = position_figure position l in
      let f = first_of (capacity_of shape table - position) (1 + read_most shape table)
      (capacity_of shape table - position - 1) (capacity_of shape table - position - 1) (omega arith) refl in
      let m = positions_within (capacity_of shape table - position - 1) in
      omega arith
  scan_within (ScanRead position key at) l =
      let m = positions_within (capacity_of shape table - position - 1) in
      read_within (sight_of shape table position) (rest position)
      (positions_left shape table (capacity_of shape table - position - 1)) (omega arith) at

module _ (shape : Shape) (limits : FitsLimits shape) (table : ℕ) (is : IsTableOf shape table) where
  -- a key is found, and the position is read or left
  key_figure : (position key : ℕ) → position < capacity_of shape table
      → scan_to_come shape table (ScanRead position key read_begin) < scan_to_come shape table (ScanKey position)
  key_figure position key l =
      let e = position_figure shape table position l in
      let b = read_begins shape limits table position (rest shape table position) is l in
      omega arith

  on_scan_read_lowers : (position key n : ℕ) (now : Now ReadPoint ReadingEnd) (l : position < capacity_of shape table)
      → ReadLowers (sight_of shape table position) (sight_fits shape limits table position is l)
      (rest shape table position) n now
      → ScanLowers shape table position n (on_scan_read table position key now)
  on_scan_read_lowers position key n (At at) l h = (tt, h.1)
  on_scan_read_lowers position key n (Over (read_end.Got value)) l h = (tt, h.1)
  on_scan_read_lowers position key n (Over (read_end.Passed worker entry horizon)) l h = (tt, h.1)
  on_scan_read_lowers position key n (Over read_end.Astray) l h = (tt, h.1)

  -- a word is taken
  pub scan_lowers : (low high : ℕ) (seen : List ℕ) (place : ScanPoint) (found : ℕ) → ScanFits shape table place
      → ScanLowers shape table (position_of place) (scan_to_come shape table place)
      (scan_after shape table low high seen place found)
  scan_lowers low high seen (ScanKey position) found l =
      let e = position_figure shape table position l in
      either (ScanLowers shape table position (scan_to_come shape table (ScanKey position))) (in_range low high found)
      (Over (Key (found - 1)))
      (scan_skip shape table position)
      (tt, key_figure position (found - 1) l) (scan_skip_lowers shape table position _ l (omega arith))
  scan_lowers low high seen (ScanRead position key at) found l =
      on_scan_read_lowers position key _ _ l.0
      (read_lowers (sight_of shape table position) (sight_fits shape limits table position is l.0)
      (rest shape table position) seen at found l.1)
