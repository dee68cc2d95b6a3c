-- What an answer of a scan does is what the client does.
use Rattle.std.proofs.Common.{◌≡◌, ℕ, ◌+◌, Bool, true, false, List, Option, Some, None, if◌then◌else◌, refl}
use Rattle.nam_verbs.specs.declared.now.Now.{Now}
use Rattle.nam_verbs.specs.declared.now.Now.TheVariants.{At, Over}
use Rattle.nam_catalog.specs.declared.shape.Shape.{Shape}
use Rattle.si_model.specs.Rows.{key_at, writes_key}
use Rattle.nam_protocol.specs.declared.scan.ScanPoint.{ScanPoint}
use Rattle.nam_protocol.specs.declared.scan.ScanPoint.TheVariants.{ScanKey}
use Rattle.nam_protocol.specs.declared.scan.ScanAnswer.{ScanAnswer}
use Rattle.nam_protocol.specs.declared.scan.ScanAnswer.TheVariants as scan_answer
use Rattle.nam_protocol.specs.declared.client.Answer.{Answer}
use Rattle.nam_protocol.specs.declared.client.CallPoint.{CallPoint}
use Rattle.nam_protocol.specs.declared.client.CallPoint.TheVariants.{Scanning}
use Rattle.nam_protocol.specs.declared.client.ClientState.{ClientState}
use Rattle.nam_protocol.specs.declared.client.Open.{Open}
use Rattle.nam_protocol.specs.Client.{client_after}
use Rattle.nam_protocol.specs.Operations.{own_value}
use Rattle.nam_protocol.specs.Scan.{position_of, scan_after as point_after, scan_skip}
use Rattle.nam_protocol.specs.ScanCall.{on_scan, on_skip, scan_listed, with_gathered}
use Rattle.nam_protocol.specs.Telling.{go}
use Rattle.nam_scan.specs.Scan.{Scanning as ScanValue}
use Rattle.nam_client.specs.declared.registers.Registers.{Registers}
use Rattle.nam_client.specs.declared.registers.Step.TheVariants as step
use Rattle.nam_client.specs.Registers.{client_of, open_of}
use Rattle.nam_client.specs.Scanning.{gathered, rows_listed, with_scan, after_skip, left_at, after_scan, IsOver}

module _ (shape : Shape) (call : Option (Now CallPoint Answer)) where
  -- the client before the answer
  abbrev pub before : Registers → ClientState
  before a = record (client_of a) { call = call }

  listed_is : (a : Registers) (table : ℕ) → a.is_open ≡ true
      → client_of (rows_listed a table) ≡ scan_listed (before a) (open_of a) table
  listed_is a table opened = rw opened refl

  scanning_is : (a : Registers) (scan : ScanValue) (place : ScanPoint) → a.step ≡ step.Scanning
      → client_of (with_scan shape a scan (At place))
      ≡ go (before a) (Scanning scan.range.table scan.range.low scan.range.high place)
  scanning_is a scan place at = rw at refl

  skip_is : (a : Registers) (scan : ScanValue) (position : ℕ) → a.is_open ≡ true → a.step ≡ step.Scanning
      → (last : Bool)
      → client_of (after_skip shape a scan (if last then Over scan_answer.Done else At (ScanKey (position + 1))))
      ≡ on_skip (before a) (open_of a) scan.range.table scan.range.low scan.range.high
      (if last then Over scan_answer.Done else At (ScanKey (position + 1)))
  skip_is a scan position opened at true = listed_is a scan.range.table opened
  skip_is a scan position opened at false = scanning_is a scan (ScanKey (position + 1)) at

  left_is : (a : Registers) (scan : ScanValue) (position key : ℕ) (value : Option (List ℕ)) → a.is_open ≡ true
      → a.step ≡ step.Scanning
      → client_of (left_at shape a scan position key value)
      ≡ on_skip (with_gathered (before a) position key value) (open_of a) scan.range.table scan.range.low
      scan.range.high (scan_skip shape scan.range.table position)
  left_is a scan position key None opened at = skip_is a scan position opened at _
  left_is a scan position key (Some value) opened at =
      skip_is (gathered a position key (Some value)) scan position opened at _

  either_is : (b : Bool) (x y : Registers) (u v : ClientState) → client_of x ≡ u → client_of y ≡ v
      → client_of (if b then x else y) ≡ (if b then u else v)
  either_is true x y u v left right = left
  either_is false x y u v left right = right

  pub after_is : (a : Registers) (scan : ScanValue) (position : ℕ) → a.is_open ≡ true → a.step ≡ step.Scanning
      → (now : Now ScanPoint ScanAnswer) → IsOver now
      → client_of (after_scan shape a scan position now)
      ≡ on_scan shape (before a) (open_of a) scan.range.table scan.range.low scan.range.high position now
  after_is a scan position opened at (At place) is = absurd is
  after_is a scan position opened at (Over (scan_answer.Key key)) is =
      either_is (writes_key a.txn.state.writes (key_at scan.range.table key)) _ _ _ _
      (left_is a scan position key (own_value a.txn.state.writes (key_at scan.range.table key)) opened at)
      (scanning_is a scan _ at)
  after_is a scan position opened at (Over (scan_answer.Row item)) is =
      left_is a scan position item.key item.value opened at
  after_is a scan position opened at (Over scan_answer.Done) is = listed_is a scan.range.table opened
  after_is a scan position opened at (Over (scan_answer.TooOld worker entry horizon)) is = refl
  after_is a scan position opened at (Over scan_answer.Astray) is = refl

pub client_goes : (shape : Shape) (client : ClientState) (attempt : Open) (table low high found : ℕ) (place : ScanPoint)
    → client.call ≡ Some (At (Scanning table low high place)) → client.txn ≡ Some attempt
    → client_after shape client found
    ≡ on_scan shape client attempt table low high (position_of place)
    (point_after shape table low high attempt.state.seen place found)
client_goes shape client attempt table low high found place c t = rw (c, t) refl
