-- The number of verbs to come of transactions, scans and clients falls with each word taken, and what it is at the
-- begin.
use Rattle.std.specs.Prelude.{◌≡◌, ℕ, ◌-◌, ◌<◌, ◌≤◌, false, List, Some}
use Rattle.nam_verbs.specs.declared.now.Now.TheVariants.{At}
use Rattle.nam_verbs.specs.Falls.{FallsTo}
use Rattle.nam_catalog.specs.declared.shape.Shape.{Shape}
use Rattle.nam_catalog.specs.Fits.{FitsLimits}
use Rattle.nam_calls.specs.Words.{capacity_of}
use Rattle.nam_calls.specs.Reading.{read_begin}
use Rattle.nam_calls.specs.Fits.{IsTableOf}
use Rattle.nam_protocol.specs.declared.txn.TxnState.{TxnState}
use Rattle.nam_protocol.specs.declared.txn.TxnCall.{TxnCall}
use Rattle.nam_protocol.specs.declared.txn.TxnPoint.{TxnPoint}
use Rattle.nam_protocol.specs.declared.scan.ScanPoint.{ScanPoint}
use Rattle.nam_protocol.specs.declared.scan.ScanPoint.TheVariants.{ScanRead}
use Rattle.nam_protocol.specs.declared.client.Call.{Call}
use Rattle.nam_protocol.specs.declared.client.CallPoint.{CallPoint}
use Rattle.nam_protocol.specs.declared.client.ClientState.{ClientState}
use Rattle.nam_protocol.specs.TxnCalls.{txn_ask, txn_after}
use Rattle.nam_protocol.specs.Scan.{scan_begin, scan_skip, scan_read, scan_after, scan_left, position_of}
use Rattle.nam_protocol.specs.Scan.{positions_left}
use Rattle.nam_protocol.specs.Client.{client_ask, client_after}
use Rattle.nam_protocol.specs.Bound.{txn_left, scan_bound}
use Rattle.nam_protocol.specs.TxnFits.{StateFits, TxnPointFits, TxnFalls, TxnBegins, TxnCallFits, txn_call_bound}
use Rattle.nam_protocol.specs.TxnFits.{ScanFits, ScanEnds, after_scan}
use Rattle.nam_protocol.specs.Left.{client_left}
use Rattle.nam_protocol.specs.ClientFits.{ClientFits, CallStands, call_bound}

-- 1. A transaction, its commit included

abbrev pub TxnLaw : Type 0
TxnLaw =
    (shape : Shape) → FitsLimits shape → (state : TxnState) (place : TxnPoint) (found : ℕ) → StateFits shape state
    → TxnPointFits shape state place
    → TxnFalls shape (txn_left shape state place) (txn_after shape state place found)

abbrev pub TxnBeginsLaw : Type 0
TxnBeginsLaw = (shape : Shape) → FitsLimits shape → (state : TxnState) (call : TxnCall) → StateFits shape state
    → TxnCallFits shape state call
    → TxnBegins shape (txn_call_bound shape state call) (txn_ask shape state call)

-- 2. A scan: it begins, takes a word, and goes on by its caller's choice after a key or a row

pub record ScanFacts (shape : Shape) (table : ℕ) : Type 0 where
  pub begins : ScanFits shape table scan_begin × (scan_left shape table scan_begin ≤ scan_bound shape table)
  pub falls : (low high : ℕ) (seen : List ℕ) (at : ScanPoint) (found : ℕ) → ScanFits shape table at
      → FallsTo (ScanFits shape table) (ScanEnds shape table) (scan_left shape table)
      (after_scan shape table (position_of at))
      (scan_left shape table at) (scan_after shape table low high seen at found)
  pub skips : (position n : ℕ) → position < capacity_of shape table
      → positions_left shape table (capacity_of shape table - position - 1) < n
      → FallsTo (ScanFits shape table) (ScanEnds shape table) (scan_left shape table)
      (after_scan shape table position) n
      (scan_skip shape table position)
  pub reads : (position key n : ℕ) → position < capacity_of shape table
      → scan_left shape table (ScanRead position key read_begin) < n
      → FallsTo (ScanFits shape table) (ScanEnds shape table) (scan_left shape table)
      (after_scan shape table position) n
      (scan_read position key)

abbrev pub ScanLaw : Type 0
ScanLaw = (shape : Shape) → FitsLimits shape → (table : ℕ) → IsTableOf shape table → ScanFacts shape table

-- 3. A client, which takes a word only where it isn't cut off

abbrev pub ClientLaw : Type 0
ClientLaw = (shape : Shape) → FitsLimits shape → (client : ClientState) (place : CallPoint) (found : ℕ)
    → ClientFits shape client
    → client.cut ≡ false → client.call ≡ Some (At place)
    → ClientFits shape (client_after shape client found)
    × (client_left shape (client_after shape client found) < client_left shape client)

abbrev pub ClientBeginsLaw : Type 0
ClientBeginsLaw = (shape : Shape) → FitsLimits shape → (client : ClientState) (call : Call) → ClientFits shape client
    → CallStands shape client.txn call
    → ClientFits shape (client_ask shape client call)
    × (client_left shape (client_ask shape client call) ≤ call_bound shape client call)
