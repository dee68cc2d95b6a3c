-- What holds of a client and of the points of its calls, and how many verbs a call takes.
use Rattle.std.specs.Prelude.{◌≡◌, ℕ, ◌*◌, ◌<◌, ◌≤◌, length, Option, Some, None, IsNone, IsSome}
use Rattle.si_model.specs.Rows.{key_at}
use Rattle.nam_verbs.specs.declared.now.Now.{Now}
use Rattle.nam_verbs.specs.declared.now.Now.TheVariants.{At}
use Rattle.nam_catalog.specs.declared.shape.Shape.{Shape}
use Rattle.nam_catalog.specs.Greatest.{greatest_number}
use Rattle.nam_layout.specs.Place.{place_of, cells_of, cells_by}
use Rattle.nam_vector.specs.Snap.{SnapFits}
use Rattle.nam_calls.specs.Holds.{IsWord}
use Rattle.nam_calls.specs.Words.{capacity_of, key_word}
use Rattle.nam_calls.specs.Fits.{IsOf, FindFits, MoveFits, CollectFits, IsTableOf}
use Rattle.nam_protocol.specs.declared.txn.TxnPoint.{TxnPoint}
use Rattle.nam_protocol.specs.declared.txn.TxnCall.{TxnCall}
use Rattle.nam_protocol.specs.declared.client.Call.{Call}
use Rattle.nam_protocol.specs.declared.client.Call.TheVariants.{Begin, Txn, Scan, Tidy, Collect}
use Rattle.nam_protocol.specs.declared.client.Answer.{Answer}
use Rattle.nam_protocol.specs.declared.client.CallPoint.{CallPoint}
use Rattle.nam_protocol.specs.declared.client.CallPoint.TheVariants.{Beginning, InTxn, Scanning, Seeking, Moving}
use Rattle.nam_protocol.specs.declared.client.CallPoint.TheVariants.{Snapping, Collecting}
use Rattle.nam_protocol.specs.declared.client.Open.{Open}
use Rattle.nam_protocol.specs.declared.client.ClientState.{ClientState}
use Rattle.nam_protocol.specs.Bound.{scan_bound, tidy_bound, collect_bound}
use Rattle.nam_protocol.specs.TxnFits.{IsKeyOf, StateFits, TxnPointFits, ScanFits, TxnCallFits, txn_call_bound}

module _ (shape : Shape) where
  -- 1. Points

  -- what the open transaction has at hand
  abbrev pub OpenFits : Option Open → Type 0
  OpenFits None = Unit {0}
  OpenFits (Some attempt) = StateFits shape attempt.state

  -- a call of a transaction stands only where one is open
  abbrev pub OpenPointFits : Option Open → TxnPoint → Type 0
  OpenPointFits None at = ⊥
  OpenPointFits (Some attempt) at = TxnPointFits shape attempt.state at

  abbrev pub CallPointFits : Option Open → CallPoint → Type 0
  CallPointFits opened (Beginning txn nth at) = SnapFits shape.workers at
  CallPointFits opened (InTxn at) = OpenPointFits opened at
  CallPointFits opened (Scanning table low high at) = IsSome opened × IsTableOf shape table × ScanFits shape table at
  CallPointFits opened (Seeking table key passed) =
      IsTableOf shape table × FindFits (capacity_of shape table) passed × IsWord (key_word key)
  CallPointFits opened (Moving table key position at) =
      IsTableOf shape table × (position < capacity_of shape table)
      × MoveFits (place_of shape table position) (cells_by shape (place_of shape table position)) at
  CallPointFits opened (Snapping bucket at) = (bucket < shape.buckets) × SnapFits shape.workers at
  CallPointFits opened (Collecting bucket prefix seen at) =
      (bucket < shape.buckets) × (length seen ≡ shape.workers) × CollectFits (cells_of shape bucket) shape.workers at

  abbrev pub NowFits : Option Open → Option (Now CallPoint Answer) → Type 0
  NowFits opened (Some (At place)) = CallPointFits opened place
  NowFits opened _ = Unit {0}

  -- its last commit number is one of the form
  abbrev pub ClientFits : ClientState → Type 0
  ClientFits client =
      IsOf shape.workers client.worker × OpenFits client.txn × NowFits client.txn client.call
      × (client.last ≤ greatest_number shape.form)

  -- 2. Calls

  -- a call of the transaction that is open
  abbrev pub OpenCallFits : Option Open → TxnCall → Type 0
  OpenCallFits None call = ⊥
  OpenCallFits (Some attempt) call = TxnCallFits shape attempt.state call

  -- a call may be asked: a transaction is open exactly where the call is one of its, or a scan
  abbrev pub CallFits : Option Open → Call → Type 0
  CallFits opened (Begin txn nth) = IsNone opened
  CallFits opened (Txn call) = OpenCallFits opened call
  CallFits opened (Scan table low high) = IsSome opened × IsTableOf shape table
  CallFits opened (Tidy table key) = IsNone opened × IsKeyOf shape (key_at table key)
  CallFits opened (Collect bucket) = IsNone opened × (bucket < shape.buckets)

  -- less is enough for the verbs to come: one is open where the call is one of its
  abbrev pub CallStands : Option Open → Call → Type 0
  CallStands opened (Begin txn nth) = Unit {0}
  CallStands opened (Txn call) = OpenCallFits opened call
  CallStands opened (Scan table low high) = IsSome opened × IsTableOf shape table
  CallStands opened (Tidy table key) = IsKeyOf shape (key_at table key)
  CallStands opened (Collect bucket) = bucket < shape.buckets

  abbrev pub open_bound : Option Open → TxnCall → ℕ
  open_bound None call = 0
  open_bound (Some attempt) call = txn_call_bound shape attempt.state call

  -- how many verbs a call takes at the most
  abbrev pub call_bound : ClientState → Call → ℕ
  call_bound client (Begin txn nth) = 2 * shape.workers
  call_bound client (Txn call) = open_bound client.txn call
  call_bound client (Scan table low high) = scan_bound shape table
  call_bound client (Tidy table key) = tidy_bound shape table
  call_bound client (Collect bucket) = collect_bound shape
