-- What a scan gathers, and what its answers do with the registers.
use Rattle.std.specs.Prelude.{◌≡◌, ℕ, ◌+◌, ◌-◌, ◌<◌, ◌≤◌, ◌^◌, min, if◌then◌else◌, List, [], ◌∷◌, ◌++◌, length}
use Rattle.std.specs.Prelude.{Option, Some, None}
use Rattle.si_model.specs.Rows.{key_at, writes_key}
use Rattle.si_model.specs.declared.log.Outcome.{Outcome}
use Rattle.si_model.specs.declared.log.Outcome.TheVariants as outcome
use Rattle.nam_verbs.specs.declared.now.Now.{Now}
use Rattle.nam_verbs.specs.declared.now.Now.TheVariants.{At, Over}
use Rattle.nam_catalog.specs.declared.bounds.TheConstants.{MOST_CAPACITY}
use Rattle.nam_catalog.specs.declared.shape.Shape.{Shape}
use Rattle.nam_log.specs.Roomy.{Roomy}
use Rattle.nam_protocol.specs.declared.scan.ScanPoint.{ScanPoint}
use Rattle.nam_protocol.specs.declared.scan.ScanAnswer.{ScanAnswer}
use Rattle.nam_protocol.specs.declared.scan.ScanAnswer.TheVariants as scan_answer
use Rattle.nam_protocol.specs.declared.client.Scanned.{Scanned}
use Rattle.nam_protocol.specs.Log.{with_reads}
use Rattle.nam_protocol.specs.Operations.{own_value}
use Rattle.nam_protocol.specs.Scan.{scan_read, scan_skip}
use Rattle.nam_protocol.specs.ScanCall.{scanned_items}
use Rattle.nam_scan.specs.Scan.{Scanning as ScanValue, IsScanOf, goes_on, HasKeyOrRow}
use Rattle.nam_client.specs.declared.registers.Registers.{Registers}
use Rattle.nam_client.specs.declared.registers.Step.TheVariants as step
use Rattle.nam_client.specs.declared.registers.Told.{Told}
use Rattle.nam_client.specs.declared.registers.Told.TheVariants as told
use Rattle.nam_client.specs.Gathered.{RiseWithin}
use Rattle.nam_client.specs.Ending.{attempt_listed}

-- 1. What an answer does

abbrev pub emptied : Roomy Scanned → Roomy Scanned
emptied rows = record { items = []; room = rows.room + length rows.items }

-- what a position's key holds is gathered, where it is present
abbrev pub gathered : Registers → ℕ → ℕ → Option (List ℕ) → Registers
gathered a position key None = a
gathered a position key (Some value) = record a {
  scanned = record {
    items = a.scanned.items ++ record { position = position; key = key; value = value } ∷ [];
    room = a.scanned.room - 1;
  };
}

-- the rows are listed in order of keys
abbrev pub rows_listed : Registers → ℕ → Registers
rows_listed a table =
    let items = scanned_items table a.scanned.items in
    record a {
      log = record {
        log = with_reads a.log.log items;
        room = record a.log.room { reads = a.log.room.reads - length items };
      };
      attempt = record a.attempt { reads = a.attempt.reads + length items };
      scan = None;
      scanned = emptied a.scanned;
      step = step.Answered (told.Scanned (length items));
    }

-- the scan ends the attempt, and lists no read
abbrev pub scan_failed : Registers → Outcome → Told → Registers
scan_failed a end told =
    record (attempt_listed (record a { scan = None; scanned = emptied a.scanned }) end 0) {
      step = step.Answered told;
    }

module _ (shape : Shape) where
  -- the scan at hand goes on there
  abbrev pub with_scan : Registers → ScanValue → Now ScanPoint ScanAnswer → Registers
  with_scan a scan now = record a { scan = Some (goes_on shape scan now) }

  -- a position is left
  abbrev pub after_skip : Registers → ScanValue → Now ScanPoint ScanAnswer → Registers
  after_skip a scan (At at) = with_scan a scan (At at)
  after_skip a scan (Over end) = rows_listed (with_scan a scan (Over end)) scan.range.table

  abbrev pub left_at : Registers → ScanValue → ℕ → ℕ → Option (List ℕ) → Registers
  left_at a scan position key value =
      after_skip (gathered a position key value) scan (scan_skip shape scan.range.table position)

  abbrev pub after_key : Registers → ScanValue → ℕ → ℕ → Registers
  after_key a scan position key =
      let own = key_at scan.range.table key in
      if writes_key a.txn.state.writes own then left_at a scan position key (own_value a.txn.state.writes own)
      else with_scan a scan (scan_read position key)

  -- the scan has come there from this position
  abbrev pub after_scan : Registers → ScanValue → ℕ → Now ScanPoint ScanAnswer → Registers
  after_scan a scan position (At at) = a
  after_scan a scan position (Over (scan_answer.Key key)) = after_key a scan position key
  after_scan a scan position (Over (scan_answer.Row item)) = left_at a scan position item.key item.value
  after_scan a scan position (Over scan_answer.Done) = rows_listed a scan.range.table
  after_scan a scan position (Over (scan_answer.TooOld worker entry horizon)) =
      scan_failed a (outcome.TooOld worker entry horizon) (told.TooOld worker entry horizon)
  after_scan a scan position (Over scan_answer.Astray) = scan_failed a outcome.Left told.Astray

-- 2. When there is room for it

-- the rows that the scan has gathered are listed, and one more
pub record CanListRows (a : Registers) (capacity : ℕ) : Type 0 where
  pub few : capacity ≤ MOST_CAPACITY
  pub events : 0 < a.log.room.events
  pub reads : capacity ≤ a.log.room.reads
  pub word : a.attempt.reads + capacity < 2 ^ 32
  pub scanned : min capacity MOST_CAPACITY ≤ length a.scanned.items + a.scanned.room

-- the scan has come to this position
pub record HasCome (shape : Shape) (a : Registers) (position : ℕ) (scan : ScanValue) : Type 0 where
  pub of : IsScanOf shape scan
  pub position_is : position ≡ scan.position
  pub within : scan.position < scan.range.capacity
  pub can : CanListRows a scan.range.capacity
  pub rows : RiseWithin 0 scan.position a.scanned.items

-- and its answer is of such a kind
abbrev pub HasLeft : Shape → Registers → ℕ → ScanValue → Type 0
HasLeft shape a position scan = HasCome shape a position scan × HasKeyOrRow scan.state

abbrev pub HasNamed : Shape → Registers → ℕ → ℕ → ScanValue → Type 0
HasNamed shape a position key scan =
    HasCome shape a position scan × (scan.state ≡ Over (scan_answer.Key key))

abbrev pub IsOver : Now ScanPoint ScanAnswer → Type 0
IsOver (At at) = ⊥
IsOver (Over end) = Unit {0}

abbrev pub HasAnswered : Shape → Registers → ℕ → ScanValue → Type 0
HasAnswered shape a position scan = HasCome shape a position scan × IsOver scan.state
