-- A transaction is open exactly for its calls, after each word and each call that may be asked.
use Rattle.std.specs.Prelude.{IsSome}
use Rattle.std.proofs.Common.{None, Option, Some, refl, ℕ}
use Rattle.nam_verbs.specs.declared.now.Now.{Now}
use Rattle.nam_verbs.specs.declared.now.Now.TheVariants.{At, Over}
use Rattle.nam_catalog.specs.declared.shape.Shape.{Shape}
use Rattle.nam_protocol.specs.declared.client.Answer.{Answer}
use Rattle.nam_protocol.specs.declared.client.Call.{Call}
use Rattle.nam_protocol.specs.declared.client.CallPoint.{CallPoint}
use Rattle.nam_protocol.specs.declared.client.CallPoint.TheVariants.{Beginning, InTxn, Scanning, Seeking, Moving}
use Rattle.nam_protocol.specs.declared.client.CallPoint.TheVariants.{Snapping, Collecting}
use Rattle.nam_protocol.specs.declared.client.ClientState.{ClientState}
use Rattle.nam_protocol.specs.declared.client.Open.{Open}
use Rattle.nam_protocol.specs.declared.scan.ScanPoint.{ScanPoint}
use Rattle.nam_protocol.specs.declared.txn.TxnCall.{TxnCall}
use Rattle.nam_protocol.specs.declared.txn.TxnPoint.{TxnPoint}
use Rattle.nam_protocol.specs.Client.{after_call, ask_scan, ask_txn, call_after, client_abandon}
use Rattle.nam_protocol.specs.Client.{client_after, client_ask, with_call, take_scan, take_txn}
use Rattle.nam_protocol.specs.CutClient.{client_cut}
use Rattle.nam_protocol.specs.ClientFits.{CallFits}
use Rattle.nam_protocol.proofs.FallsClient.{some_open}
use Rattle.nam_protocol.specs.Own.{IsOpenAt, IsOpenNow, MayAsk, OpenClient, Rests}
use Rattle.nam_protocol.specs.Telling.{go, stepped, new_client}
use Rattle.nam_protocol.specs.Txn.{Stepped}
use Rattle.nam_protocol.proofs.GoesClient.{begin_goes, seek_goes, move_goes, snap_goes, collect_goes, scan_goes}
use Rattle.nam_protocol.proofs.GoesClient.{stepped_goes}
use Rattle.nam_protocol.proofs.SteppedLemmas.{abandoned_view}
use Rattle.nam_protocol.specs.declared.client.Call.TheVariants as call

module _ (shape : Shape) where
  stepped_open : (client : ClientState) (attempt : Open) (before : ℕ) (step : Stepped)
      → OpenClient (stepped client attempt before step)
  stepped_open client attempt before step =
      stepped_goes OpenClient client attempt before step (λ place e. refl) (λ answer e. tt)

  -- 1. A word is taken

  take_txn_open : (client : ClientState) (at : TxnPoint) (opened : Option Open) (found : ℕ) → IsSome opened
      → OpenClient (take_txn shape client at opened found)
  take_txn_open client at None found some = absurd (cc)
  take_txn_open client at (Some attempt) found some = stepped_open client attempt _ _

  take_scan_open : (client : ClientState) (table low high : ℕ) (at : ScanPoint) (opened : Option Open) (found : ℕ)
      → IsSome client.txn → IsSome opened → OpenClient (take_scan shape client table low high at opened found)
  take_scan_open client table low high at None found is some = absurd (cc)
  take_scan_open client table low high at (Some attempt) found is some =
      scan_goes OpenClient shape client attempt table low high _ _ (λ next e. is) (λ key e. is) (λ rows e. is)
      (λ rows. tt) (λ outcome end e. tt)

  call_open : (client : ClientState) (place : CallPoint) (found : ℕ) → IsOpenAt client.txn place
      → OpenClient (call_after shape client place found)
  call_open client (Beginning txn nth at) found is =
      begin_goes OpenClient shape client txn nth _ (λ next e. is) (λ seen e. tt) (λ worker first second e. tt)
  call_open client (InTxn at) found is = take_txn_open client at client.txn found is
  call_open client (Scanning table low high at) found is =
      take_scan_open client table low high at client.txn found is is
  call_open client (Seeking table key passed) found is =
      seek_goes OpenClient shape client table key _ (λ next e. is) (λ position e. is) (λ e. tt)
  call_open client (Moving table key position at) found is =
      move_goes OpenClient shape client table key position _ _ (λ next e. is) (λ stamp e. tt) (λ stamp e. tt) (λ e. tt)
      (λ full e. tt)
  call_open client (Snapping bucket at) found is =
      snap_goes OpenClient shape client bucket _ (λ next e. is) (λ seen e. is) (λ worker first second e. tt)
  call_open client (Collecting bucket prefix seen at) found is =
      collect_goes OpenClient shape client bucket prefix seen _ (λ next e. is) (λ known e. tt)

  pub open_word : (client : ClientState) (found : ℕ) → OpenClient client → OpenClient (client_after shape client found)
  open_word client found is = word_at client.call is
    where
      word_at : (call : Option (Now CallPoint Answer)) → IsOpenNow client.txn call
          → OpenClient (after_call shape (record client { call = call }) call found)
      word_at None is = tt
      word_at (Some (At place)) is = call_open (go client place) place found is
      word_at (Some (Over answer)) is = tt

  -- 2. A call is asked

  ask_txn_open : (client : ClientState) (asked : TxnCall) (opened : Option Open) → IsSome opened
      → OpenClient (ask_txn shape client asked opened)
  ask_txn_open client asked None some = absurd (cc)
  ask_txn_open client asked (Some attempt) some = stepped_open client (with_call attempt asked) 0 _

  ask_scan_open : (client : ClientState) (table low high : ℕ) (opened : Option Open) → IsSome opened
      → OpenClient (ask_scan shape client table low high opened)
  ask_scan_open client table low high None some = absurd (cc)
  ask_scan_open client table low high (Some attempt) some = refl

  ask_open : (client : ClientState) (asked : Call) → CallFits shape client.txn asked
      → OpenClient (client_ask shape client asked)
  ask_open client (call.Begin txn nth) fits = fits
  ask_open client (call.Txn asked) fits = ask_txn_open client asked client.txn (some_open shape client.txn asked fits)
  ask_open client (call.Scan table low high) fits = ask_scan_open client table low high client.txn fits.0
  ask_open client (call.Tidy table key) fits = fits.0
  ask_open client (call.Collect bucket) fits = fits.0

  pub open_asked : (client : ClientState) (asked : Call) → MayAsk shape client asked
      → OpenClient (client_ask shape client asked)
  open_asked client asked may = ask_open client asked may.fits

-- 3. The transaction is given up, and the client stopped

pub open_abandoned : (client : ClientState) → Rests client.call → OpenClient (client_abandon client)
open_abandoned client rests =
    abandoned_view (λ call opened. IsOpenNow opened call) (λ opened. tt) (λ answer opened. tt) client rests

pub open_cut : (client : ClientState) → OpenClient client → OpenClient (client_cut client)
open_cut client is = is

pub open_new : (worker start : ℕ) → OpenClient (new_client worker start)
open_new worker start = tt
