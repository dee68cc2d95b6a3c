-- A client's log goes on so with each word but a commit's, with each call that is asked, and with a transaction that is
-- given up: with no commit.
use Rattle.std.proofs.Common.{IsNone, List, None, Option, Some, [], ap, false, length, refl, subst, sym, ℕ, ◌++◌, ◌+◌}
use Rattle.std.proofs.Common.{◌∙◌, ◌∷◌, ◌≡◌}
use Rattle.std.proofs.lemmas.List.{append-nil}
use Rattle.nam_calls.specs.Horizon.{collect_begin}
use Rattle.nam_calls.specs.Index.{find_begin}
use Rattle.nam_calls.specs.Mover.{move_begin}
use Rattle.nam_calls.specs.declared.horizon.CollectPoint.{CollectPoint}
use Rattle.nam_calls.specs.declared.mover.MovePoint.{MovePoint}
use Rattle.nam_catalog.specs.declared.shape.Shape.{Shape}
use Rattle.nam_ghost.specs.Idle.{IsIdle}
use Rattle.nam_layout.specs.Place.{bucket_of, place_of}
use Rattle.nam_origins.proofs.LogKinds.{IsNoCommit, log_adds, log_ends, log_stands, log_takes}
use Rattle.nam_origins.proofs.LogTxns.{ask_silent, operation_silent, scan_log, stepped_log}
use Rattle.nam_origins.specs.Lists.{LogGoes}
use Rattle.nam_origins.specs.Logs.{pending}
use Rattle.nam_protocol.proofs.GoesClient.{begin_goes, begun, collect_goes, move_goes, seek_goes, snap_goes}
use Rattle.nam_protocol.specs.Client.{abandon_open, ask_scan, ask_txn, call_after, client_abandon, client_ask}
use Rattle.nam_protocol.specs.Client.{take_scan, take_txn, with_call}
use Rattle.nam_protocol.specs.Log.{prefix_of, unbegun, with_snap}
use Rattle.nam_protocol.specs.Own.{IsOpenAt, Rests}
use Rattle.nam_protocol.specs.Plain.{IsOperation}
use Rattle.nam_protocol.specs.Scan.{position_of, scan_after}
use Rattle.nam_protocol.specs.Telling.{go, with_answer, with_end, with_listed}
use Rattle.nam_protocol.specs.TxnCalls.{taken_at, txn_after, txn_ask}
use Rattle.nam_protocol.specs.declared.client.Answer.{Answer}
use Rattle.nam_protocol.specs.declared.client.Call.{Call}
use Rattle.nam_protocol.specs.declared.client.Call.TheVariants.{Begin, Collect, Scan, Tidy, Txn}
use Rattle.nam_protocol.specs.declared.client.CallPoint.{CallPoint}
use Rattle.nam_protocol.specs.declared.client.CallPoint.TheVariants.{Beginning, Collecting, InTxn, Moving, Scanning}
use Rattle.nam_protocol.specs.declared.client.CallPoint.TheVariants.{Seeking, Snapping}
use Rattle.nam_protocol.specs.declared.client.ClientState.{ClientState}
use Rattle.nam_protocol.specs.declared.client.Open.{Open}
use Rattle.nam_protocol.specs.declared.scan.ScanPoint.{ScanPoint}
use Rattle.nam_protocol.specs.declared.txn.TxnCall.{TxnCall}
use Rattle.nam_protocol.specs.declared.txn.TxnPoint.{TxnPoint}
use Rattle.nam_protocol.specs.declared.txn.TxnPoint.TheVariants.{Claiming, Committing, Finding, Reading}
use Rattle.nam_vector.specs.Snap.{snap_after, snap_begin}
use Rattle.nam_vector.specs.declared.snap.SnapPoint.{SnapPoint}
use Rattle.nam_verbs.specs.declared.now.Now.{Now}
use Rattle.nam_verbs.specs.declared.now.Now.TheVariants.{At, Over}
use Rattle.si_model.specs.Tells.{snaps_in, writes_in}
use Rattle.si_model.specs.declared.log.Event.{Event}
use Rattle.nam_protocol.specs.declared.client.Answer.TheVariants as answer
use Rattle.si_model.specs.declared.log.Event.TheVariants as event
use Rattle.si_model.specs.declared.log.MoveEnd.TheVariants as moved
use Rattle.si_model.specs.declared.log.Outcome.TheVariants as outcome

-- 1. A client without a transaction

-- the snapshot of a collection alone is pending there
module _ (client : ClientState) (none : client.txn ≡ None) where
  here : (call : Option (Now CallPoint Answer)) → pending client.txn call ≡ pending None call
  here call = ap (λ opened. pending opened call) none

  abbrev From : CallPoint → ClientState → Type 0
  From place after = LogGoes (pending None (Some (At place))) client after []

  -- its call goes on
  goes_to : (place next : CallPoint) → pending None (Some (At next)) ≡ pending None (Some (At place))
      → From place (go client next)
  goes_to place next same =
      log_stands (pending None (Some (At place))) client (go client next)
      (record { worker = refl; writes = refl; snaps = refl }) refl (here (Some (At next)) ∙ same)

  -- or is answered, with no event
  answers_none : (place : CallPoint) (end : Answer) → pending None (Some (At place)) ≡ []
      → From place (with_answer client end)
  answers_none place end same =
      log_stands (pending None (Some (At place))) client (with_answer client end)
      (record { worker = refl; writes = refl; snaps = refl }) refl (here (Some (Over end)) ∙ sym same)

  -- or with one, which owns the snapshot if there is one
  answers_with : (place : CallPoint) (end : Answer) (e : Event)
      → snaps_in e + 0 ≡ length (pending None (Some (At place))) → writes_in e + 0 ≡ 0 → IsNoCommit e
      → From place (with_answer (with_listed client e) end)
  answers_with place end e snaps writes no_commit =
      let was = pending None (Some (At place)) in
      log_adds was client (with_answer (with_listed client e) end) e was
      (record { worker = refl; writes = refl; snaps = refl }) refl
      (sym (ap (λ later. was ++ later) (here (Some (Over end))) ∙ append-nil was)) snaps writes no_commit

  module _ (shape : Shape) (found : ℕ) where
    begin_log : (txn nth : ℕ) (at : SnapPoint)
        → From (Beginning txn nth at) (call_after shape client (Beginning txn nth at) found)
    begin_log txn nth at =
        begin_goes (From (Beginning txn nth at)) shape client txn nth (snap_after shape.workers at found)
        (λ next e. goes_to (Beginning txn nth at) (Beginning txn nth next) refl)
        (λ seen e. let end = answer.Begun (prefix_of client.start seen) in
        log_takes client (with_answer (begun client txn nth seen) end) seen refl refl refl refl refl)
        (λ worker first second e. answers_with (Beginning txn nth at) (answer.Again worker first second)
        (unbegun txn nth (outcome.Again worker first second)) refl refl (λ j t. refl))

    seek_log : (table key passed : ℕ)
        → From (Seeking table key passed) (call_after shape client (Seeking table key passed) found)
    seek_log table key passed =
        seek_goes (From (Seeking table key passed)) shape client table key _
        (λ next e. goes_to (Seeking table key passed) (Seeking table key next) refl)
        (λ position e. goes_to (Seeking table key passed) (Moving table key position move_begin) refl)
        (λ e. answers_none (Seeking table key passed) answer.Nothing refl)

    move_log : (table key position : ℕ) (at : MovePoint)
        → From (Moving table key position at) (call_after shape client (Moving table key position at) found)
    move_log table key position at =
        let was = Moving table key position at in
        let bucket = bucket_of shape (place_of shape table position).row in
        move_goes (From was) shape client table key position bucket _
        (λ next e. goes_to was (Moving table key position next) refl)
        (λ stamp e. answers_with was answer.Moved (event.Moved bucket table key stamp moved.Done) refl refl
        (λ j t. refl))
        (λ stamp e. answers_with was answer.Back (event.Moved bucket table key stamp moved.Back) refl refl
        (λ j t. refl))
        (λ e. answers_none was answer.Nothing refl)
        (λ full e. answers_with was (answer.NoRoom full) (event.NoRoom full) refl refl (λ j t. refl))

    snap_log : (bucket : ℕ) (at : SnapPoint)
        → From (Snapping bucket at) (call_after shape client (Snapping bucket at) found)
    snap_log bucket at =
        let was = Snapping bucket at in
        snap_goes (From was) shape client bucket (snap_after shape.workers at found)
        (λ next e. goes_to was (Snapping bucket next) refl)
        (λ seen e. let next = Collecting bucket (prefix_of client.start seen) seen collect_begin in
        log_takes client (go (record client { log = with_snap client.log seen }) next) seen refl refl refl refl
        (here (Some (At next))))
        (λ worker first second e. answers_with was (answer.Again worker first second)
        (event.CollectAgain bucket worker first second) refl refl (λ j t. refl))

    collect_log : (bucket prefix : ℕ) (seen : List ℕ) (at : CollectPoint)
        → From (Collecting bucket prefix seen at) (call_after shape client (Collecting bucket prefix seen at) found)
    collect_log bucket prefix seen at =
        let was = Collecting bucket prefix seen at in
        collect_goes (From was) shape client bucket prefix seen _
        (λ next e. goes_to was (Collecting bucket prefix seen next) refl)
        (λ known e. answers_with was (answer.Collected known) (event.Collected bucket prefix seen false) refl refl
        (λ j t. refl))

-- 2. Every word but a commit's

module _ (shape : Shape) (client : ClientState) (found : ℕ) where
  -- what the word of a point comes to
  abbrev Comes : Option Open → CallPoint → ClientState → Type 0
  Comes opened place after = LogGoes (pending opened (Some (At place))) client after []

  txn_log : (opened : Option Open) (at : TxnPoint) → IsOperation at → IsOpenAt opened (InTxn at)
      → Comes opened (InTxn at) (take_txn shape client at opened found)
  txn_log None at is some = absurd (cc)
  txn_log (Some attempt) at is some =
      stepped_log client attempt.state.seen attempt (length (taken_at attempt.state at))
      (txn_after shape attempt.state at found) (operation_silent shape attempt.state at found is)

  scans_log : (opened : Option Open) (table low high : ℕ) (at : ScanPoint) → client.txn ≡ opened
      → IsOpenAt opened (Scanning table low high at)
      → Comes opened (Scanning table low high at) (take_scan shape client table low high at opened found)
  scans_log None table low high at is some = absurd (cc)
  scans_log (Some attempt) table low high at is some =
      scan_log client attempt.state.seen shape attempt refl table low high is (position_of at)
      (scan_after shape table low high attempt.state.seen at found)

  no_open : (opened : Option Open) → IsNone opened → opened ≡ None
  no_open None none = refl
  no_open (Some attempt) none = absurd (cc)

  alone : (place : CallPoint) → client.txn ≡ None
      → (client.txn ≡ None → LogGoes (pending None (Some (At place))) client (call_after shape client place found) [])
      → Comes client.txn place (call_after shape client place found)
  alone place none goes =
      subst (λ opened. Comes opened place (call_after shape client place found)) (sym none) (goes none)

  pub word_log : (place : CallPoint) → IsIdle (Some (At place)) → IsOpenAt client.txn place
      → Comes client.txn place (call_after shape client place found)
  word_log (Beginning txn nth at) idle open_at =
      alone (Beginning txn nth at) (no_open client.txn open_at) (λ none. begin_log client none shape found txn nth at)
  word_log (InTxn (Finding op passed)) idle open_at = txn_log client.txn (Finding op passed) tt open_at
  word_log (InTxn (Reading op position at)) idle open_at = txn_log client.txn (Reading op position at) tt open_at
  word_log (InTxn (Claiming op at)) idle open_at = txn_log client.txn (Claiming op at) tt open_at
  word_log (InTxn (Committing at)) idle open_at = absurd idle
  word_log (Scanning table low high at) idle open_at = scans_log client.txn table low high at refl open_at
  word_log (Seeking table key passed) idle open_at =
      alone (Seeking table key passed) (no_open client.txn open_at) (λ none. seek_log client none shape found table key
      passed)
  word_log (Moving table key position at) idle open_at =
      alone (Moving table key position at) (no_open client.txn open_at) (λ none. move_log client none shape found table
      key position at)
  word_log (Snapping bucket at) idle open_at =
      alone (Snapping bucket at) (no_open client.txn open_at) (λ none. snap_log client none shape found bucket at)
  word_log (Collecting bucket prefix seen at) idle open_at =
      alone (Collecting bucket prefix seen at) (no_open client.txn open_at) (λ none. collect_log client none shape found
      bucket prefix seen at)

-- 3. A call that is asked, and a transaction that is given up

-- no collection runs
abbrev IsFree : Option (Now CallPoint Answer) → Type 0
IsFree (Some (At (Collecting bucket prefix seen at))) = ⊥
IsFree _ = Unit {0}

free_pending : (opened : Option Open) (call : Option (Now CallPoint Answer)) → IsFree call
    → pending opened call ≡ pending opened None
free_pending (Some attempt) call free = refl
free_pending None None free = refl
free_pending None (Some (Over end)) free = refl
free_pending None (Some (At (Collecting bucket prefix seen at))) free = absurd free
free_pending None (Some (At _)) free = refl

rests_free : (call : Option (Now CallPoint Answer)) → Rests call → IsFree call
rests_free None rests = tt
rests_free (Some (Over end)) rests = tt
rests_free (Some (At place)) rests = absurd rests

module _ (shape : Shape) (client : ClientState) where
  abbrev FromRest : Option Open → ClientState → Type 0
  FromRest opened after = LogGoes (pending opened None) client after []

  asks_for : (place : CallPoint) → IsFree (Some (At place)) → FromRest client.txn (go client place)
  asks_for place free =
      log_stands (pending client.txn None) client (go client place)
      (record { worker = refl; writes = refl; snaps = refl }) refl (free_pending client.txn (Some (At place)) free)

  unchanged : client.txn ≡ None → IsFree client.call → FromRest None client
  unchanged none free =
      log_stands [] client client (record { worker = refl; writes = refl; snaps = refl }) refl
      (ap (λ opened. pending opened client.call) none ∙ free_pending None client.call free)

  scan_asked : (opened : Option Open) → client.txn ≡ opened → IsFree client.call → (table low high : ℕ)
      → FromRest opened (ask_scan shape client table low high opened)
  scan_asked None none free table low high = unchanged none free
  scan_asked (Some attempt) is free table low high =
      log_stands (attempt.state.seen ∷ []) client (ask_scan shape client table low high (Some attempt))
      (record { worker = refl; writes = refl; snaps = refl }) refl refl

  txn_asked : (opened : Option Open) → client.txn ≡ opened → IsFree client.call → (call : TxnCall)
      → FromRest opened (ask_txn shape client call opened)
  txn_asked None none free call = unchanged none free
  txn_asked (Some attempt) is free call =
      stepped_log client attempt.state.seen (with_call attempt call) 0 (txn_ask shape attempt.state call)
      (ask_silent shape attempt.state call)

  asked : (call : Call) → IsFree client.call → FromRest client.txn (client_ask shape client call)
  asked (Begin txn nth) free = asks_for (Beginning txn nth snap_begin) tt
  asked (Txn call) free = txn_asked client.txn refl free call
  asked (Scan table low high) free = scan_asked client.txn refl free table low high
  asked (Tidy table key) free = asks_for (Seeking table key find_begin) tt
  asked (Collect bucket) free = asks_for (Snapping bucket snap_begin) tt

  given_up : (opened : Option Open) → client.txn ≡ opened → IsFree client.call
      → FromRest opened (abandon_open client opened)
  given_up None none free = unchanged none free
  given_up (Some attempt) is free =
      log_ends client (with_end client attempt outcome.Left) attempt.state.seen attempt outcome.Left
      (record { worker = refl; writes = refl; snaps = refl }) refl (free_pending None client.call free) (λ j t. refl)

  from_call : (after : ClientState) → Rests client.call → FromRest client.txn after
      → LogGoes (pending client.txn client.call) client after []
  from_call after rests =
      subst (λ was. LogGoes was client after [])
      (sym (free_pending client.txn client.call (rests_free client.call rests)))

  pub asked_log : (call : Call) → Rests client.call
      → LogGoes (pending client.txn client.call) client (client_ask shape client call) []
  asked_log call rests = from_call (client_ask shape client call) rests (asked call (rests_free client.call rests))

  pub abandoned_log : Rests client.call → LogGoes (pending client.txn client.call) client (client_abandon client) []
  abandoned_log rests =
      from_call (client_abandon client) rests (given_up client.txn refl (rests_free client.call rests))
