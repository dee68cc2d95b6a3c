-- What a client knows of keys is of positions in its table.
use Rattle.std.proofs.Common.{None, Option, Some}
use Rattle.std.proofs.Common.{ℕ, ◌<◌}
use Rattle.si_model.specs.Evaluation.{op_key}
use Rattle.si_model.specs.declared.row.Key.{Key}
use Rattle.nam_verbs.specs.declared.now.Now.{Now}
use Rattle.nam_verbs.specs.declared.now.Now.TheVariants.{At, Over}
use Rattle.nam_catalog.specs.declared.shape.Shape.{Shape}
use Rattle.nam_calls.specs.Fits.{ClaimKeyFits}
use Rattle.nam_calls.specs.Words.{capacity_of}
use Rattle.nam_calls.specs.declared.index.ClaimKeyPoint.{ClaimKeyPoint}
use Rattle.nam_calls.specs.declared.index.ClaimKeyPoint.TheVariants.{KeyLook, KeyTake}
use Rattle.nam_protocol.specs.ClientFits.{NowFits, OpenPointFits}
use Rattle.nam_protocol.specs.Scan.{position_of}
use Rattle.nam_protocol.specs.TxnFits.{ScanFits}
use Rattle.nam_protocol.specs.declared.client.Answer.{Answer}
use Rattle.nam_protocol.specs.declared.client.CallPoint.{CallPoint}
use Rattle.nam_protocol.specs.declared.client.CallPoint.TheVariants.{InTxn, Moving, Scanning, Seeking}
use Rattle.nam_protocol.specs.declared.client.Open.{Open}
use Rattle.nam_protocol.specs.declared.scan.ScanPoint.{ScanPoint}
use Rattle.nam_protocol.specs.declared.scan.ScanPoint.TheVariants.{ScanKey, ScanRead}
use Rattle.nam_protocol.specs.declared.txn.TxnPoint.{TxnPoint}
use Rattle.nam_protocol.specs.declared.txn.TxnPoint.TheVariants.{Claiming, Committing, Finding, Reading}
use Rattle.nam_ghost.specs.Keys.{HasFound, KeyView, LooksFor, NoKey}
use Rattle.nam_ghost.specs.Keys.{claim_view, key_view, scan_view, txn_view}

module _ (shape : Shape) where
  abbrev pub ViewWithin : KeyView → Type 0
  ViewWithin NoKey = Unit {0}
  ViewWithin (LooksFor table key passed) = passed < capacity_of shape table
  ViewWithin (HasFound table key position) = position < capacity_of shape table

  claim_within : (key : Key) (at : ClaimKeyPoint) → ClaimKeyFits (capacity_of shape key.table) at
      → ViewWithin (claim_view key at)
  claim_within key (KeyLook passed) fits = fits
  claim_within key (KeyTake passed) fits = fits

  txn_within : (opened : Option Open) (at : TxnPoint) → OpenPointFits shape opened at → ViewWithin (txn_view at)
  txn_within None at fits = absurd fits
  txn_within (Some attempt) (Finding op passed) fits = fits.1
  txn_within (Some attempt) (Reading op position at) fits = fits.1
  txn_within (Some attempt) (Claiming op at) fits = claim_within (op_key op) at fits.1
  txn_within (Some attempt) (Committing at) fits = tt

  scan_within : (table : ℕ) (at : ScanPoint) → ScanFits shape table at → ViewWithin (scan_view table at)
  scan_within table (ScanKey position) fits = tt
  scan_within table (ScanRead position key at) fits = fits.0

  pub view_within : (opened : Option Open) (call : Option (Now CallPoint Answer)) → NowFits shape opened call
      → ViewWithin (key_view call)
  view_within opened (Some (At (InTxn at))) fits = txn_within opened at fits
  view_within opened (Some (At (Scanning table low high at))) fits = scan_within table at fits.2
  view_within opened (Some (At (Seeking table key passed))) fits = fits.1
  view_within opened (Some (At (Moving table key position at))) fits = fits.1
  view_within opened (Some (At _)) fits = tt
  view_within opened (Some (Over answer)) fits = tt
  view_within opened None fits = tt

  pub position_within : (table : ℕ) (at : ScanPoint) → ScanFits shape table at
      → position_of at < capacity_of shape table
  position_within table (ScanKey position) fits = fits
  position_within table (ScanRead position key at) fits = fits.0
