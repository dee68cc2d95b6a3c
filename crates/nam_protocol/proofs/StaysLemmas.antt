-- Only a stop cuts a client, and only a session gives it a medic.
use Rattle.std.proofs.Common.{◌≡◌, ℕ, false, Option, Some, None, refl, ◌∙◌}
use Rattle.nam_verbs.specs.declared.now.Now.{Now}
use Rattle.nam_verbs.specs.declared.now.Now.TheVariants.{At, Over}
use Rattle.nam_catalog.specs.declared.shape.Shape.{Shape}
use Rattle.nam_protocol.specs.declared.client.Answer.{Answer}
use Rattle.nam_protocol.specs.declared.client.Call.{Call}
use Rattle.nam_protocol.specs.declared.client.CallPoint.{CallPoint}
use Rattle.nam_protocol.specs.declared.client.CallPoint.TheVariants.{Beginning, Collecting, InTxn, Moving, Scanning}
use Rattle.nam_protocol.specs.declared.client.CallPoint.TheVariants.{Seeking, Snapping}
use Rattle.nam_protocol.specs.declared.client.ClientState.{ClientState}
use Rattle.nam_protocol.specs.declared.client.Open.{Open}
use Rattle.nam_protocol.specs.declared.scan.ScanPoint.{ScanPoint}
use Rattle.nam_protocol.specs.declared.txn.TxnCall.{TxnCall}
use Rattle.nam_protocol.specs.declared.txn.TxnPoint.{TxnPoint}
use Rattle.nam_protocol.specs.Client.{after_call, ask_scan, ask_txn, call_after, client_after, client_ask, take_scan}
use Rattle.nam_protocol.specs.Client.{take_txn, with_call}
use Rattle.nam_protocol.specs.Telling.{stepped}
use Rattle.nam_protocol.specs.Txn.{Stepped}
use Rattle.nam_protocol.proofs.GoesClient.{begin_goes, collect_goes, move_goes, on_answer_goes, scan_goes, seek_goes}
use Rattle.nam_protocol.proofs.GoesClient.{snap_goes, step_lists, step_opens, stepped_goes}
use Rattle.nam_protocol.specs.declared.client.Call.TheVariants as call

-- it is cut as it was, and has the same medic
abbrev pub Stays : ClientState → ClientState → Type 0
Stays before after = (after.cut ≡ before.cut) × (after.medic ≡ before.medic)

-- it is not cut, and has no medic
abbrev pub IsUncut : ClientState → Type 0
IsUncut client = (client.cut ≡ false) × (client.medic ≡ None)

pub still_uncut : (before after : ClientState) → Stays before after → IsUncut before → IsUncut after
still_uncut before after stays uncut = (stays.0 ∙ uncut.0, stays.1 ∙ uncut.1)

module _ (shape : Shape) where
  stepped_stays : (client : ClientState) (attempt : Open) (before : ℕ) (step : Stepped)
      → Stays client (stepped client attempt before step)
  stepped_stays client attempt before step =
      stepped_goes (Stays client) client attempt before step (λ place e. (refl, refl))
      (λ end e. on_answer_goes (Stays client) (step_lists client before step)
      (step_opens attempt before step) end (λ f. (refl, refl)) (λ how f. (refl, refl)) (λ how f. (refl, refl))
      (λ number f. (refl, refl)))

  take_txn_stays : (client : ClientState) (at : TxnPoint) (opened : Option Open) (found : ℕ)
      → Stays client (take_txn shape client at opened found)
  take_txn_stays client at None found = (refl, refl)
  take_txn_stays client at (Some attempt) found = stepped_stays client attempt _ _

  take_scan_stays : (client : ClientState) (table low high : ℕ) (at : ScanPoint) (opened : Option Open) (found : ℕ)
      → Stays client (take_scan shape client table low high at opened found)
  take_scan_stays client table low high at None found = (refl, refl)
  take_scan_stays client table low high at (Some attempt) found =
      scan_goes (Stays client) shape client attempt table low high _ _ (λ next e. (refl, refl)) (λ key e. (refl, refl))
      (λ rows e. (refl, refl)) (λ rows. (refl, refl)) (λ how end e. (refl, refl))

  call_stays : (client : ClientState) (place : CallPoint) (found : ℕ)
      → Stays client (call_after shape client place found)
  call_stays client (Beginning txn nth at) found =
      begin_goes (Stays client) shape client txn nth _ (λ next e. (refl, refl)) (λ seen e. (refl, refl))
      (λ worker first second e. (refl, refl))
  call_stays client (InTxn at) found = take_txn_stays client at client.txn found
  call_stays client (Scanning table low high at) found = take_scan_stays client table low high at client.txn found
  call_stays client (Seeking table key passed) found =
      seek_goes (Stays client) shape client table key _ (λ next e. (refl, refl)) (λ position e. (refl, refl))
      (λ e. (refl, refl))
  call_stays client (Moving table key position at) found =
      move_goes (Stays client) shape client table key position _ _ (λ next e. (refl, refl)) (λ stamp e. (refl, refl))
      (λ stamp e. (refl, refl)) (λ e. (refl, refl)) (λ full e. (refl, refl))
  call_stays client (Snapping bucket at) found =
      snap_goes (Stays client) shape client bucket _ (λ next e. (refl, refl)) (λ seen e. (refl, refl))
      (λ worker first second e. (refl, refl))
  call_stays client (Collecting bucket prefix seen at) found =
      collect_goes (Stays client) shape client bucket prefix seen _ (λ next e. (refl, refl)) (λ known e. (refl, refl))

  pub word_stays : (client : ClientState) (found : ℕ) → Stays client (client_after shape client found)
  word_stays client found = word_at client.call
    where
      word_at : (now : Option (Now CallPoint Answer)) → Stays client (after_call shape client now found)
      word_at None = (refl, refl)
      word_at (Some (At place)) = call_stays client place found
      word_at (Some (Over end)) = (refl, refl)

  ask_txn_stays : (client : ClientState) (asked : TxnCall) (opened : Option Open)
      → Stays client (ask_txn shape client asked opened)
  ask_txn_stays client asked None = (refl, refl)
  ask_txn_stays client asked (Some attempt) = stepped_stays client (with_call attempt asked) 0 _

  ask_scan_stays : (client : ClientState) (table low high : ℕ) (opened : Option Open)
      → Stays client (ask_scan shape client table low high opened)
  ask_scan_stays client table low high None = (refl, refl)
  ask_scan_stays client table low high (Some attempt) = (refl, refl)

  pub asked_stays : (client : ClientState) (asked : Call) → Stays client (client_ask shape client asked)
  asked_stays client (call.Begin txn nth) = (refl, refl)
  asked_stays client (call.Txn asked) = ask_txn_stays client asked client.txn
  asked_stays client (call.Scan table low high) = ask_scan_stays client table low high client.txn
  asked_stays client (call.Tidy table key) = (refl, refl)
  asked_stays client (call.Collect bucket) = (refl, refl)
