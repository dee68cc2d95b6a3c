-- A client that is stopped, and the log that a client leaves. A call that was stopped in its middle is listed.
use Rattle.std.specs.Prelude.{ℕ, ◌+◌, Bool, true, false, if◌then◌else◌, Option, Some, None}
use Rattle.si_model.specs.declared.log.Stamp.{Stamp}
use Rattle.si_model.specs.declared.log.Event.TheVariants.{Moved, Collected, CollectCut, TidyCut, TailCut, Finished}
use Rattle.si_model.specs.declared.log.Finish.{Finish}
use Rattle.si_model.specs.declared.log.Finish.TheVariants.{RolledOn}
use Rattle.si_model.specs.declared.log.Log.{Log}
use Rattle.si_model.specs.declared.log.Outcome.TheVariants as outcome
use Rattle.si_model.specs.declared.log.MoveEnd.TheVariants as moved
use Rattle.nam_verbs.specs.declared.now.Now.{Now}
use Rattle.nam_verbs.specs.declared.now.Now.TheVariants.{At, Over}
use Rattle.nam_catalog.specs.declared.shape.Shape.{Shape}
use Rattle.nam_layout.specs.Place.{place_of, bucket_of}
use Rattle.nam_calls.specs.declared.medic.MedicPoint.{MedicPoint}
use Rattle.nam_calls.specs.Mover.{move_claimed}
use Rattle.nam_protocol.specs.declared.txn.CommitPoint.TheVariants.{Freeing, Ending}
use Rattle.nam_protocol.specs.declared.txn.TxnPoint.{TxnPoint}
use Rattle.nam_protocol.specs.declared.txn.TxnPoint.TheVariants.{Committing}
use Rattle.nam_protocol.specs.declared.client.Answer.{Answer}
use Rattle.nam_protocol.specs.declared.client.CallPoint.{CallPoint}
use Rattle.nam_protocol.specs.declared.client.CallPoint.TheVariants.{Beginning, InTxn, Scanning, Seeking, Moving}
use Rattle.nam_protocol.specs.declared.client.CallPoint.TheVariants.{Snapping, Collecting}
use Rattle.nam_protocol.specs.declared.client.Open.{Open}
use Rattle.nam_protocol.specs.declared.client.ClientState.{ClientState}
use Rattle.nam_protocol.specs.Log.{unbegun}
use Rattle.nam_protocol.specs.Telling.{with_listed, with_end, with_commit}

abbrev pub client_cut : ClientState → ClientState
client_cut client = record client { cut = true }

-- its medic stands here, or has finished it
abbrev pub client_treated : ClientState → Now MedicPoint Finish → ClientState
client_treated client medic = record client { medic = Some medic }

-- how the medic has finished it, if it has
abbrev pub finish_of : Option (Now MedicPoint Finish) → Option Finish
finish_of (Some (Over how)) = Some how
finish_of _ = None

-- 1. The call that was stopped

-- a commit that has published is one, though the guards' locks stand, or the intent
abbrev pub cut_tail : ClientState → Open → ClientState
cut_tail client attempt = with_listed (with_commit client attempt (attempt.state.last + 1)) TailCut

abbrev pub cut_in_txn : ClientState → Open → TxnPoint → ClientState
cut_in_txn client attempt (Committing (Freeing nth)) = cut_tail client attempt
cut_in_txn client attempt (Committing Ending) = cut_tail client attempt
cut_in_txn client attempt _ = with_end client attempt outcome.Cut

abbrev pub cut_open : ClientState → TxnPoint → Option Open → ClientState
cut_open client at None = client
cut_open client at (Some attempt) = cut_in_txn client attempt at

-- the open transaction, where one is, ended so
abbrev pub left_open : ClientState → Option Open → ClientState
left_open client None = client
left_open client (Some attempt) = with_end client attempt (if client.cut then outcome.Cut else outcome.Left)

-- a move is listed from the claim of its cell on
abbrev pub cut_move : ClientState → ℕ → ℕ → ℕ → Option Stamp → ClientState
cut_move client table key bucket None = with_listed client (TidyCut table key)
cut_move client table key bucket (Some stamp) = with_listed client (Moved bucket table key stamp moved.Cut)

abbrev pub cut_call : Shape → ClientState → CallPoint → ClientState
cut_call shape client (Beginning txn nth at) = with_listed client (unbegun txn nth outcome.Cut)
cut_call shape client (InTxn at) = cut_open client at client.txn
cut_call shape client (Scanning table low high at) = left_open client client.txn
cut_call shape client (Seeking table key passed) = with_listed client (TidyCut table key)
cut_call shape client (Moving table key position at) =
    let place = place_of shape table position in
    cut_move client table key (bucket_of shape place.row) (move_claimed place at)
cut_call shape client (Snapping bucket at) = with_listed client (CollectCut bucket)
cut_call shape client (Collecting bucket prefix seen at) = with_listed client (Collected bucket prefix seen true)

abbrev pub closed_call : Shape → ClientState → Option (Now CallPoint Answer) → ClientState
closed_call shape client (Some (At place)) = cut_call shape client place
closed_call shape client _ = left_open client client.txn

-- 2. The medic has finished it

abbrev pub has_rolled_on : Finish → Bool
has_rolled_on RolledOn = true
has_rolled_on _ = false

-- a commit is one where it has published or was rolled on
abbrev pub has_committed : TxnPoint → Finish → Bool
has_committed (Committing (Freeing nth)) how = true
has_committed (Committing Ending) how = true
has_committed (Committing at) how = has_rolled_on how
has_committed at how = false

-- no tail of it is cut then
abbrev pub finished_in_txn : ClientState → TxnPoint → Finish → Option Open → ClientState
finished_in_txn client at how None = client
finished_in_txn client at how (Some attempt) = if has_committed at how
    then with_commit client attempt (attempt.state.last + 1)
    else with_end client attempt outcome.Cut

abbrev pub finished_call : Shape → ClientState → Finish → Option (Now CallPoint Answer) → ClientState
finished_call shape client how (Some (At (InTxn at))) = finished_in_txn client at how client.txn
finished_call shape client how now = closed_call shape client now

-- how it was finished stands right after the call that was stopped
abbrev pub closed_client : Shape → ClientState → Option Finish → Option (Now CallPoint Answer) → ClientState
closed_client shape client None now = closed_call shape client now
closed_client shape client (Some how) now = with_listed (finished_call shape client how now) (Finished how)

-- the log at the end: no call runs, or the client is cut
abbrev pub into_log : Shape → ClientState → Log
into_log shape client = (closed_client shape client (finish_of client.medic) client.call).log
