-- A scan of the keys of a range as a value.
use Rattle.std.specs.Prelude.{◌≡◌, ℕ, ◌+◌, ◌<◌, ◌≤◌, List, length}
use Rattle.nam_verbs.specs.declared.now.Now.{Now}
use Rattle.nam_verbs.specs.declared.now.Now.TheVariants.{At, Over}
use Rattle.nam_verbs.specs.Now.{FitsNow}
use Rattle.nam_verbs.specs.Running.{Running}
use Rattle.nam_catalog.specs.declared.bounds.TheConstants.{MOST_WORKERS}
use Rattle.nam_catalog.specs.declared.shape.Shape.{Shape}
use Rattle.nam_catalog.specs.Fits.{FitsLimits}
use Rattle.nam_catalog.specs.Words.{words_of}
use Rattle.nam_layout.specs.declared.field.Field.{Field}
use Rattle.nam_layout.specs.Address.{address}
use Rattle.nam_calls.specs.declared.reading.Sight.{Sight}
use Rattle.nam_calls.specs.Words.{capacity_of}
use Rattle.nam_calls.specs.Reading.{sight_of, read_begin, read_left}
use Rattle.nam_calls.specs.Fits.{SightFits, ReadFits, IsTableOf}
use Rattle.nam_protocol.specs.declared.scan.ScanPoint.{ScanPoint}
use Rattle.nam_protocol.specs.declared.scan.ScanPoint.TheVariants.{ScanKey, ScanRead}
use Rattle.nam_protocol.specs.declared.scan.ScanAnswer.{ScanAnswer}
use Rattle.nam_protocol.specs.declared.scan.ScanAnswer.TheVariants.{Key, Row}
use Rattle.nam_protocol.specs.Scan.{scan_begin, scan_verb, scan_after, scan_left, position_of}
use Rattle.nam_scan.specs.declared.range.ScanRange.{ScanRange}

-- 1. Points

-- a read that is under way fits the position at hand
abbrev pub ReadsIn : Sight → ScanPoint → Type 0
ReadsIn sight (ScanKey position) = Unit {0}
ReadsIn sight (ScanRead position key at) = ReadFits sight at

-- so many positions are the table's, and this is where a read of this position looks
pub record IsSightIn (shape : Shape) (range : ScanRange) (sight : Sight) (position : ℕ) : Type 0 where
  pub capacity_is : range.capacity ≡ capacity_of shape range.table
  pub sight_is : sight ≡ sight_of shape range.table position

-- a position's key word and a whole read there
abbrev pub position_whole : Sight → ℕ
position_whole sight = 2 + read_left sight read_begin

-- 2. A scan

-- a range under a snapshot, the position at hand and where its read looks, and where the scan stands
pub record Scanning : Type 0 where
  pub range : ScanRange
  pub seen : List ℕ
  pub position : ℕ
  pub sight : Sight
  pub state : Now ScanPoint ScanAnswer

abbrev pub scanning_at : ScanRange → List ℕ → ℕ → Sight → Now ScanPoint ScanAnswer → Scanning
scanning_at range seen position sight state =
    record { range = range; seen = seen; position = position; sight = sight; state = state }

-- the range of a table's keys, of as many positions as the table has
abbrev pub range_of : Shape → ℕ → ℕ → ℕ → ScanRange
range_of shape table low high =
    record { table = table; low = low; high = high; capacity = capacity_of shape table }

-- a new scan, at the first position
abbrev pub scanning : Shape → ℕ → ℕ → ℕ → List ℕ → Scanning
scanning shape table low high seen =
    scanning_at (range_of shape table low high) seen 0 (sight_of shape table 0) (At scan_begin)

-- the point is at the position at hand
abbrev pub StandsAt : Sight → ℕ → ScanPoint → Type 0
StandsAt sight position at = (position_of at ≡ position) × ReadsIn sight at

-- what the scan knows fits
pub record ScanningFits (a : Scanning) : Type 0 where
  pub sight : SightFits a.sight
  pub workers : a.sight.workers ≤ MOST_WORKERS
  pub seen : length a.seen ≡ a.sight.workers
  pub position : a.position < a.range.capacity
  pub at : FitsNow (StandsAt a.sight a.position) a.state

-- the scan is of a table of the shape
pub record IsScanOf (shape : Shape) (a : Scanning) : Type 0 where
  pub limits : FitsLimits shape
  pub table_is : IsTableOf shape a.range.table
  pub seen_is : length a.seen ≡ shape.workers
  pub sees : IsSightIn shape a.range a.sight a.position

-- the same as a running call over the words of the shape
abbrev pub running : Shape → Scanning → Running Field ScanPoint ScanAnswer
running shape a = record {
  address = address shape;
  reach = words_of shape;
  verb = scan_verb shape a.range.table;
  after = scan_after shape a.range.table a.range.low a.range.high a.seen;
  left = scan_left shape a.range.table;
  state = a.state;
}

-- 3. How it goes on

-- the position at hand after the scan has gone there: an answer leaves it
abbrev pub position_after : ℕ → Now ScanPoint ScanAnswer → ℕ
position_after position (At at) = position_of at
position_after position (Over answer) = position

abbrev pub goes_on : Shape → Scanning → Now ScanPoint ScanAnswer → Scanning
goes_on shape a now = record a {
  position = position_after a.position now;
  sight = sight_of shape a.range.table (position_after a.position now);
  state = now;
}

-- it has answered a key
abbrev pub HasKey : Now ScanPoint ScanAnswer → Type 0
HasKey (Over (Key key)) = Unit {0}
HasKey _ = ⊥

-- it has answered a key or a row
abbrev pub HasKeyOrRow : Now ScanPoint ScanAnswer → Type 0
HasKeyOrRow (Over (Key key)) = Unit {0}
HasKeyOrRow (Over (Row item)) = Unit {0}
HasKeyOrRow _ = ⊥

-- the key that it has answered
abbrev pub key_in : Now ScanPoint ScanAnswer → ℕ
key_in (Over (Key key)) = key
key_in _ = 0
