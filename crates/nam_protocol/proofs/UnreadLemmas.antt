-- Nothing that was read is at hand but in a call of the transaction, after each word and each call that is asked.
use Rattle.std.proofs.Common.{None, Option, Some, refl, ℕ}
use Rattle.nam_verbs.specs.declared.now.Now.{Now}
use Rattle.nam_verbs.specs.declared.now.Now.TheVariants.{At, Over}
use Rattle.nam_catalog.specs.declared.shape.Shape.{Shape}
use Rattle.nam_protocol.specs.declared.client.Answer.{Answer}
use Rattle.nam_protocol.specs.declared.client.Call.{Call}
use Rattle.nam_protocol.specs.declared.client.CallPoint.{CallPoint}
use Rattle.nam_protocol.specs.declared.client.CallPoint.TheVariants.{Beginning, InTxn, Scanning, Seeking, Moving}
use Rattle.nam_protocol.specs.declared.client.CallPoint.TheVariants.{Snapping, Collecting}
use Rattle.nam_protocol.specs.declared.client.ClientState.{ClientState}
use Rattle.nam_protocol.specs.declared.client.Open.{Open}
use Rattle.nam_protocol.specs.declared.scan.ScanPoint.{ScanPoint}
use Rattle.nam_protocol.specs.declared.txn.TxnAnswer.{TxnAnswer}
use Rattle.nam_protocol.specs.declared.txn.TxnCall.{TxnCall}
use Rattle.nam_protocol.specs.declared.txn.TxnPoint.{TxnPoint}
use Rattle.nam_protocol.specs.Client.{abandon_open, after_call, ask_scan, ask_txn, call_after}
use Rattle.nam_protocol.specs.Client.{client_after, client_ask, with_call, take_scan, take_txn}
use Rattle.nam_protocol.specs.Own.{IsUnread, Rests, UnreadIn, UnreadClient}
use Rattle.nam_protocol.specs.Telling.{go, on_answer, stepped, with_answer}
use Rattle.nam_protocol.specs.Txn.{Stepped}
use Rattle.nam_protocol.specs.UnreadLaw.{UnreadLaw}
use Rattle.nam_protocol.proofs.GoesClient.{begin_goes, seek_goes, move_goes, snap_goes, collect_goes, scan_goes}
use Rattle.nam_protocol.proofs.GoesClient.{on_answer_goes, step_lists, step_opens, stepped_goes}
use Rattle.nam_protocol.specs.declared.client.Answer.TheVariants as client_answer
use Rattle.nam_protocol.specs.declared.client.Call.TheVariants as call

-- whatever the transaction has at hand, an answered call leaves nothing
answer_unread : (client : ClientState) (attempt : Open) (answer : TxnAnswer)
    → UnreadClient (with_answer (on_answer client attempt answer) (client_answer.Txn answer))
answer_unread client attempt answer =
    on_answer_goes (λ c. UnreadClient (with_answer c (client_answer.Txn answer))) client attempt answer (λ e. refl)
    (λ outcome e. tt) (λ outcome e. tt) (λ number e. tt)

stepped_unread : (client : ClientState) (attempt : Open) (before : ℕ) (step : Stepped)
    → UnreadClient (stepped client attempt before step)
stepped_unread client attempt before step =
    stepped_goes UnreadClient client attempt before step (λ place e. tt)
    (λ answer e. answer_unread (step_lists client before step) (step_opens attempt before step) answer)

-- a client at rest has nothing at hand
at_rest : (call : Option (Now CallPoint Answer)) (opened : Option Open) → Rests call → UnreadIn call opened
    → IsUnread opened
at_rest None opened rests is = is
at_rest (Some (Over answer)) opened rests is = is
at_rest (Some (At place)) opened rests is = absurd rests

left_unread : (call : Option (Now CallPoint Answer)) (opened : Option Open) → IsUnread opened → UnreadIn call opened
left_unread None opened is = is
left_unread (Some (Over answer)) opened is = is
left_unread (Some (At (Beginning txn nth at))) opened is = is
left_unread (Some (At (InTxn at))) opened is = tt
left_unread (Some (At (Scanning table low high at))) opened is = is
left_unread (Some (At (Seeking table key passed))) opened is = is
left_unread (Some (At (Moving table key position at))) opened is = is
left_unread (Some (At (Snapping bucket at))) opened is = is
left_unread (Some (At (Collecting bucket prefix seen at))) opened is = is

module _ (shape : Shape) where
  -- 1. A word is taken

  take_txn_unread : (client : ClientState) (at : TxnPoint) (opened : Option Open) (found : ℕ)
      → UnreadIn client.call client.txn → UnreadClient (take_txn shape client at opened found)
  take_txn_unread client at None found is = is
  take_txn_unread client at (Some attempt) found is = stepped_unread client attempt _ _

  take_scan_unread : (client : ClientState) (table low high : ℕ) (at : ScanPoint) (opened : Option Open) (found : ℕ)
      → UnreadClient client → IsUnread client.txn → IsUnread opened
      → UnreadClient (take_scan shape client table low high at opened found)
  take_scan_unread client table low high at None found same is none = same
  take_scan_unread client table low high at (Some attempt) found same is none =
      scan_goes UnreadClient shape client attempt table low high _ _ (λ next e. is) (λ key e. is) (λ rows e. is)
      (λ rows. none) (λ outcome end e. tt)

  call_unread : (client : ClientState) (place : CallPoint) (found : ℕ) → UnreadIn (Some (At place)) client.txn
      → UnreadClient (call_after shape (go client place) place found)
  call_unread client (Beginning txn nth at) found is =
      begin_goes UnreadClient shape (go client (Beginning txn nth at)) txn nth _ (λ next e. is) (λ seen e. refl)
      (λ worker first second e. is)
  call_unread client (InTxn at) found is = take_txn_unread (go client (InTxn at)) at client.txn found tt
  call_unread client (Scanning table low high at) found is =
      take_scan_unread (go client (Scanning table low high at)) table low high at client.txn found is is is
  call_unread client (Seeking table key passed) found is =
      seek_goes UnreadClient shape (go client (Seeking table key passed)) table key _ (λ next e. is) (λ position e. is)
      (λ e. is)
  call_unread client (Moving table key position at) found is =
      move_goes UnreadClient shape (go client (Moving table key position at)) table key position _ _ (λ next e. is)
      (λ stamp e. is) (λ stamp e. is) (λ e. is) (λ full e. is)
  call_unread client (Snapping bucket at) found is =
      snap_goes UnreadClient shape (go client (Snapping bucket at)) bucket _ (λ next e. is) (λ seen e. is)
      (λ worker first second e. is)
  call_unread client (Collecting bucket prefix seen at) found is =
      collect_goes UnreadClient shape (go client (Collecting bucket prefix seen at)) bucket prefix seen _ (λ next e. is)
      (λ known e. is)

  word_unread : (client : ClientState) (found : ℕ) → UnreadClient client
      → UnreadClient (client_after shape client found)
  word_unread client found is = word_at client.call is
    where
      word_at : (call : Option (Now CallPoint Answer)) → UnreadIn call client.txn
          → UnreadClient (after_call shape (record client { call = call }) call found)
      word_at None is = is
      word_at (Some (At place)) is = call_unread client place found is
      word_at (Some (Over answer)) is = is

  -- 2. A call is asked

  ask_txn_unread : (client : ClientState) (asked : TxnCall) (opened : Option Open) → UnreadClient client
      → UnreadClient (ask_txn shape client asked opened)
  ask_txn_unread client asked None is = is
  ask_txn_unread client asked (Some attempt) is = stepped_unread client (with_call attempt asked) 0 _

  ask_scan_unread : (client : ClientState) (table low high : ℕ) (opened : Option Open) → UnreadClient client
      → IsUnread opened → UnreadClient (ask_scan shape client table low high opened)
  ask_scan_unread client table low high None same is = same
  ask_scan_unread client table low high (Some attempt) same is = is

  ask_unread : (client : ClientState) (asked : Call) → UnreadClient client → IsUnread client.txn
      → UnreadClient (client_ask shape client asked)
  ask_unread client (call.Begin txn nth) same is = is
  ask_unread client (call.Txn asked) same is = ask_txn_unread client asked client.txn same
  ask_unread client (call.Scan table low high) same is = ask_scan_unread client table low high client.txn same is
  ask_unread client (call.Tidy table key) same is = is
  ask_unread client (call.Collect bucket) same is = is

  -- 3. The transaction is given up, and the client stopped

  abandon_unread : (client : ClientState) (opened : Option Open) → UnreadClient client
      → UnreadClient (abandon_open client opened)
  abandon_unread client None is = is
  abandon_unread client (Some attempt) is = left_unread client.call None tt

pub unread_law : UnreadLaw
unread_law = record {
  new = λ worker start. tt;
  keeps = λ shape client is. record {
    asked = λ asked rests. ask_unread shape client asked is (at_rest client.call client.txn rests is);
    word = λ found. word_unread shape client found is;
    abandoned = abandon_unread shape client client.txn is;
    stopped = is;
  };
}
