-- Clients as movers and collectors: after each sort of word, and after what is asked.
use Rattle.std.proofs.Common.{List, None, Option, Some, refl, ℕ, ◌≡◌}
use Rattle.std.specs.Prelude.{length}
use Rattle.nam_calls.specs.declared.horizon.CollectPoint.{CollectPoint}
use Rattle.nam_calls.specs.declared.index.FindEnd.{FindEnd}
use Rattle.nam_calls.specs.declared.mover.MoveAnswer.{MoveAnswer}
use Rattle.nam_calls.specs.declared.mover.MovePoint.{MovePoint}
use Rattle.nam_catalog.specs.declared.shape.Shape.{Shape}
use Rattle.nam_cells.specs.Views.{IsStarting, UpkeepFits, collector_now, mover_now}
use Rattle.nam_ghost.specs.Upkeep.{NoUpkeep, upkeep_in, upkeep_of}
use Rattle.nam_layout.proofs.PositionLemmas.{position_is_row}
use Rattle.nam_layout.specs.Rows.{row_of}
use Rattle.nam_protocol.proofs.GoesClient.{scan_goes, seek_goes, stepped_goes}
use Rattle.nam_protocol.specs.Client.{abandon_open, ask_scan, ask_txn, client_abandon, client_ask, on_collect, on_move}
use Rattle.nam_protocol.specs.Client.{on_seek, take_scan, take_txn, with_call}
use Rattle.nam_protocol.specs.ClientFits.{ClientFits, NowFits}
use Rattle.nam_protocol.specs.Own.{Rests}
use Rattle.nam_protocol.specs.Telling.{go, stepped}
use Rattle.nam_protocol.specs.Txn.{Stepped}
use Rattle.nam_protocol.specs.TxnCalls.{taken_at, txn_after, txn_ask}
use Rattle.nam_protocol.specs.declared.client.Answer.{Answer}
use Rattle.nam_protocol.specs.declared.client.Call.{Call}
use Rattle.nam_protocol.specs.declared.client.Call.TheVariants.{Begin, Collect, Scan, Tidy, Txn}
use Rattle.nam_protocol.specs.declared.client.CallPoint.{CallPoint}
use Rattle.nam_protocol.specs.declared.client.CallPoint.TheVariants.{Collecting, InTxn, Moving, Scanning, Seeking}
use Rattle.nam_protocol.specs.declared.client.ClientState.{ClientState}
use Rattle.nam_protocol.specs.declared.client.Open.{Open}
use Rattle.nam_protocol.specs.declared.scan.ScanPoint.{ScanPoint}
use Rattle.nam_protocol.specs.declared.txn.TxnCall.{TxnCall}
use Rattle.nam_protocol.specs.declared.txn.TxnPoint.{TxnPoint}
use Rattle.nam_verbs.specs.declared.now.Now.{Now}
use Rattle.nam_verbs.specs.declared.now.Now.TheVariants.{At, Over}
use Rattle.nam_calls.specs.declared.mover.MoveAnswer.TheVariants as move_end

-- 1. After a word

module _ (shape : Shape) (client : ClientState) where
  pub move_view : (table key position bucket : ℕ) (now : Now MovePoint MoveAnswer)
      → upkeep_of shape (on_move shape client table key position bucket now)
      ≡ mover_now (row_of shape.tables table position) now
  move_view table key position bucket (At place) = refl
  move_view table key position bucket (Over (move_end.Moved stamp)) = refl
  move_view table key position bucket (Over (move_end.Back stamp)) = refl
  move_view table key position bucket (Over move_end.Nothing) = refl
  move_view table key position bucket (Over (move_end.NoRoom full)) = refl

  pub collect_view : (bucket prefix : ℕ) (seen : List ℕ) (now : Now CollectPoint (List ℕ))
      → upkeep_of shape (on_collect shape client bucket prefix seen now) ≡ collector_now bucket seen now
  collect_view bucket prefix seen (At place) = refl
  collect_view bucket prefix seen (Over known) = refl

  pub stepped_view : (attempt : Open) (before : ℕ) (step : Stepped)
      → upkeep_of shape (stepped client attempt before step) ≡ NoUpkeep
  stepped_view attempt before step =
      stepped_goes (λ c. upkeep_of shape c ≡ NoUpkeep) client attempt before step (λ place e. refl)
      (λ answer e. refl)

  pub txn_view : (at : TxnPoint) (opened : Option Open) (found : ℕ)
      → upkeep_of shape (take_txn shape (go client (InTxn at)) at opened found) ≡ NoUpkeep
  txn_view at None found = refl
  txn_view at (Some attempt) found =
      stepped_goes (λ c. upkeep_of shape c ≡ NoUpkeep) (go client (InTxn at)) attempt
      (length (taken_at attempt.state at)) (txn_after shape attempt.state at found) (λ place e. refl)
      (λ answer e. refl)

  pub scan_view : (table low high : ℕ) (at : ScanPoint) (opened : Option Open) (found : ℕ)
      → upkeep_of shape (take_scan shape (go client (Scanning table low high at)) table low high at opened found)
      ≡ NoUpkeep
  scan_view table low high at None found = refl
  scan_view table low high at (Some attempt) found =
      scan_goes (λ c. upkeep_of shape c ≡ NoUpkeep) shape (go client (Scanning table low high at)) attempt table low
      high _ _ (λ next e. refl) (λ key e. refl) (λ rows e. refl) (λ rows. refl) (λ outcome end e. refl)

  -- a key that was found is that of a position to be moved from
  pub seek_view : (table key passed : ℕ) (now : Now ℕ FindEnd)
      → IsStarting (upkeep_of shape (on_seek shape (go client (Seeking table key passed)) table key now))
  seek_view table key passed now =
      seek_goes (λ c. IsStarting (upkeep_of shape c)) shape (go client (Seeking table key passed)) table key now
      (λ next e. tt) (λ position e. tt) (λ e. tt)

-- 2. At rest, and after what is asked

pub rest_view : (shape : Shape) (call : Option (Now CallPoint Answer)) → Rests call → upkeep_in shape call ≡ NoUpkeep
rest_view shape None rests = refl
rest_view shape (Some (Over answer)) rests = refl
rest_view shape (Some (At place)) rests = absurd rests

module _ (shape : Shape) (client : ClientState) (rests : Rests client.call) where
  asks_txn : (call : TxnCall) (opened : Option Open)
      → upkeep_of shape (ask_txn shape client call opened) ≡ NoUpkeep
  asks_txn call None = rest_view shape client.call rests
  asks_txn call (Some attempt) =
      stepped_view shape client (with_call attempt call) 0 (txn_ask shape attempt.state call)

  asks_scan : (table low high : ℕ) (opened : Option Open)
      → upkeep_of shape (ask_scan shape client table low high opened) ≡ NoUpkeep
  asks_scan table low high None = rest_view shape client.call rests
  asks_scan table low high (Some attempt) = refl

  pub asked_view : (asked : Call) → upkeep_of shape (client_ask shape client asked) ≡ NoUpkeep
  asked_view (Begin txn nth) = refl
  asked_view (Txn call) = asks_txn call client.txn
  asked_view (Scan table low high) = asks_scan table low high client.txn
  asked_view (Tidy table key) = refl
  asked_view (Collect bucket) = refl

  abandons : (opened : Option Open) → upkeep_of shape (abandon_open client opened) ≡ NoUpkeep
  abandons None = rest_view shape client.call rests
  abandons (Some attempt) = rest_view shape client.call rests

  pub abandoned_view : upkeep_of shape (client_abandon client) ≡ NoUpkeep
  abandoned_view = abandons client.txn

-- 3. Its point fits

fits_in : (shape : Shape) (opened : Option Open) (call : Option (Now CallPoint Answer)) → NowFits shape opened call
    → UpkeepFits shape (upkeep_in shape call)
fits_in shape opened None fits = tt
fits_in shape opened (Some (Over answer)) fits = tt
fits_in shape opened (Some (At (Moving table key position at))) fits =
    ((position_is_row shape.tables table position (fits.0, fits.1)).within, fits.2)
fits_in shape opened (Some (At (Collecting bucket prefix seen at))) fits = (fits.0, fits.2)
fits_in shape opened (Some (At _)) fits = tt

pub upkeep_fits : (shape : Shape) (client : ClientState) → ClientFits shape client
    → UpkeepFits shape (upkeep_of shape client)
upkeep_fits shape client fits = fits_in shape client.txn client.call fits.2
