-- A client's scan: it gathers the present rows of the range, and lists them in order of keys once it is done.
use Rattle.std.specs.Prelude.{ℕ, nat_lt, if◌then◌else◌, List, [], ◌∷◌, ◌++◌, map, length, Option, Some, None}
use Rattle.si_model.specs.declared.row.Item.{Item}
use Rattle.si_model.specs.declared.log.Outcome.{Outcome}
use Rattle.si_model.specs.Rows.{key_at, item_at, writes_key}
use Rattle.si_model.specs.declared.log.Outcome.TheVariants as outcome
use Rattle.nam_verbs.specs.declared.now.Now.{Now}
use Rattle.nam_verbs.specs.declared.now.Now.TheVariants.{At, Over}
use Rattle.nam_catalog.specs.declared.shape.Shape.{Shape}
use Rattle.nam_protocol.specs.declared.txn.TxnAnswer.{TxnAnswer}
use Rattle.nam_protocol.specs.declared.scan.ScanPoint.{ScanPoint}
use Rattle.nam_protocol.specs.declared.scan.ScanAnswer.{ScanAnswer}
use Rattle.nam_protocol.specs.declared.client.CallPoint.TheVariants.{Scanning}
use Rattle.nam_protocol.specs.declared.client.Open.{Open}
use Rattle.nam_protocol.specs.declared.client.Scanned.{Scanned}
use Rattle.nam_protocol.specs.declared.client.ClientState.{ClientState}
use Rattle.nam_protocol.specs.Operations.{own_value}
use Rattle.nam_protocol.specs.Scan.{scan_skip, scan_read}
use Rattle.nam_protocol.specs.Telling.{go, with_answer, with_end, read_listed}
use Rattle.nam_protocol.specs.declared.txn.TxnAnswer.TheVariants as txn_answer
use Rattle.nam_protocol.specs.declared.scan.ScanAnswer.TheVariants as scan_answer
use Rattle.nam_protocol.specs.declared.client.Answer.TheVariants as client_answer

-- 1. The rows that were found

-- a row goes before the first of a greater key
abbrev pub inserted : Scanned → List Scanned → List Scanned
inserted row [] = row ∷ []
inserted row (r ∷ rs) = if nat_lt row.key r.key then row ∷ r ∷ rs else r ∷ inserted row rs

-- the rows sorted by key, where those of one key stay in their order
abbrev pub sorted_onto : List Scanned → List Scanned → List Scanned
sorted_onto done [] = done
sorted_onto done (row ∷ rows) = sorted_onto (inserted row done) rows

abbrev pub item_of : ℕ → Scanned → Item
item_of table row = item_at (key_at table row.key) (Some row.value)

abbrev pub scanned_items : ℕ → List Scanned → List Item
scanned_items table rows = map (item_of table) (sorted_onto [] rows)

-- what a position's key holds, where it is present
abbrev pub with_gathered : ClientState → ℕ → ℕ → Option (List ℕ) → ClientState
with_gathered client position key None = client
with_gathered client position key (Some value) =
    record client { scanned = client.scanned ++ record { position = position; key = key; value = value } ∷ [] }

abbrev pub scan_listed : ClientState → Open → ℕ → ClientState
scan_listed client attempt table =
    let items = scanned_items table client.scanned in
    with_answer (record (read_listed client attempt items) { scanned = [] }) (client_answer.Scanned (length items))

-- the scan ends the attempt and lists no read
abbrev pub scan_ended : ClientState → Open → Outcome → TxnAnswer → ClientState
scan_ended client attempt outcome end =
    with_answer (with_end (record client { scanned = [] }) attempt outcome) (client_answer.Txn end)

-- 2. What follows

-- how a scan goes on once a position is left
abbrev pub on_skip : ClientState → Open → ℕ → ℕ → ℕ → Now ScanPoint ScanAnswer → ClientState
on_skip client attempt table low high (At place) = go client (Scanning table low high place)
on_skip client attempt table low high (Over end) = scan_listed client attempt table

module _ (shape : Shape) where
  -- a key of the write set is not read: its row is the write set's
  abbrev pub on_key : ClientState → Open → ℕ → ℕ → ℕ → ℕ → ℕ → ClientState
  on_key client attempt table low high position key =
      let own = key_at table key in
      if writes_key attempt.state.writes own
      then on_skip (with_gathered client position key (own_value attempt.state.writes own)) attempt table low high
      (scan_skip shape table position)
      else on_skip client attempt table low high (scan_read position key)

  abbrev pub on_scan : ClientState → Open → ℕ → ℕ → ℕ → ℕ → Now ScanPoint ScanAnswer → ClientState
  on_scan client attempt table low high position (At place) = go client (Scanning table low high place)
  on_scan client attempt table low high position (Over (scan_answer.Key key)) =
      on_key client attempt table low high position key
  on_scan client attempt table low high position (Over (scan_answer.Row item)) =
      on_skip (with_gathered client position item.key item.value) attempt table low high
      (scan_skip shape table position)
  on_scan client attempt table low high position (Over scan_answer.Done) = scan_listed client attempt table
  on_scan client attempt table low high position (Over (scan_answer.TooOld worker entry horizon)) =
      scan_ended client attempt (outcome.TooOld worker entry horizon) (txn_answer.TooOld worker entry horizon)
  on_scan client attempt table low high position (Over scan_answer.Astray) =
      scan_ended client attempt outcome.Left txn_answer.Astray
