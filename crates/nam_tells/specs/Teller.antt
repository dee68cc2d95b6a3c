-- What a client's log tells, event by event, and what it would tell of the call that runs, were the log taken now.
use Rattle.std.specs.Prelude.{Bool, List, None, Option, Some, [], if◌then◌else◌, length, true, ℕ, ◌+◌, ◌++◌}
use Rattle.std.specs.Prelude.{◌∷◌, ◌≡◌}
use Rattle.si_model.specs.Tells.{ListsTells, Tell, last_number}
use Rattle.si_model.specs.declared.log.Attempt.{Attempt}
use Rattle.si_model.specs.declared.log.Event.TheVariants.{CollectCut, Collected, Finished, Moved, TailCut, TidyCut}
use Rattle.si_model.specs.declared.log.Event.TheVariants.{Tried}
use Rattle.si_model.specs.declared.log.Event.{Event}
use Rattle.si_model.specs.declared.log.Finish.{Finish}
use Rattle.si_model.specs.declared.log.Lock.{Lock}
use Rattle.si_model.specs.declared.log.MoveEnd.TheVariants as moved
use Rattle.si_model.specs.declared.log.Outcome.TheVariants as outcome
use Rattle.si_model.specs.declared.log.Outcome.{Outcome}
use Rattle.si_model.specs.declared.log.Stamp.{Stamp}
use Rattle.si_model.specs.declared.op.Op.TheVariants.{Scan}
use Rattle.si_model.specs.declared.op.Op.{Op}
use Rattle.si_model.specs.declared.row.Item.{Item}
use Rattle.nam_verbs.specs.declared.now.Now.TheVariants.{At}
use Rattle.nam_verbs.specs.declared.now.Now.{Now}
use Rattle.nam_catalog.specs.declared.shape.Shape.{Shape}
use Rattle.nam_layout.specs.Place.{bucket_of, place_of}
use Rattle.nam_calls.specs.Mover.{move_claimed}
use Rattle.nam_protocol.specs.CutClient.{finish_of, has_committed}
use Rattle.nam_protocol.specs.Log.{unbegun}
use Rattle.nam_protocol.specs.Own.{OpenClient}
use Rattle.nam_protocol.specs.declared.client.Answer.{Answer}
use Rattle.nam_protocol.specs.declared.client.CallPoint.TheVariants.{Beginning, Collecting, InTxn, Moving, Scanning}
use Rattle.nam_protocol.specs.declared.client.CallPoint.TheVariants.{Seeking, Snapping}
use Rattle.nam_protocol.specs.declared.client.CallPoint.{CallPoint}
use Rattle.nam_protocol.specs.declared.client.ClientState.{ClientState}
use Rattle.nam_protocol.specs.declared.client.Open.{Open}
use Rattle.nam_protocol.specs.declared.txn.CommitPoint.TheVariants.{Ending, Freeing}
use Rattle.nam_protocol.specs.declared.txn.TxnPoint.TheVariants.{Claiming, Committing, Finding, Reading}
use Rattle.nam_protocol.specs.declared.txn.TxnPoint.{TxnPoint}

-- 1. A client's teller

-- The ended events, each with what it owns; and of the open attempt the operations that were asked, those of them that
-- have passed, the rows that it has listed as read, and its locks.
pub record Teller : Type 0 where
  pub front : List Tell
  pub ops : List Op
  pub passed : List Op
  pub reads : List Item
  pub locks : List Lock

abbrev pub new_teller : Teller
new_teller = record { front = []; ops = []; passed = []; reads = []; locks = [] }

-- 2. What an event tells

-- an event that owns nothing but, where it has one, a snapshot
abbrev pub bare_tell : Event → List ℕ → Tell
bare_tell event snap = record { event = event; ops = []; reads = []; locks = []; writes = []; snap = snap }

abbrev pub tail_tell : Tell
tail_tell = bare_tell TailCut []

module _ (teller : Teller) (attempt : Open) where
  -- the open attempt, ended so, with the counts of what the teller has of it
  abbrev pub tried : Outcome → ℕ → Attempt
  tried how writes = record {
    txn = attempt.txn;
    nth = attempt.nth;
    prefix = Some attempt.prefix;
    reads = length teller.reads;
    locks = length teller.locks;
    writes = writes;
    outcome = how;
  }

  abbrev pub attempt_tell : Outcome → List Item → Tell
  attempt_tell how writes = record {
    event = Tried (tried how (length writes));
    ops = teller.ops;
    reads = teller.reads;
    locks = teller.locks;
    writes = writes;
    snap = attempt.state.seen;
  }

  -- it has committed, under this number
  abbrev pub commit_tell : ℕ → Tell
  commit_tell number = attempt_tell (outcome.Commit number) attempt.state.writes

-- 3. What is still to be told, were the log taken now

-- the outcome of a transaction that is left open
abbrev pub left_how : Bool → Outcome
left_how cut = if cut then outcome.Cut else outcome.Left

module _ (shape : Shape) (teller : Teller) where
  abbrev pub open_end : Outcome → Option Open → List Tell
  open_end how None = []
  open_end how (Some attempt) = attempt_tell teller attempt how [] ∷ []

  -- a commit that has published is one, and its tail is cut
  abbrev pub tail_end : Open → List Tell
  tail_end attempt = commit_tell teller attempt (attempt.state.last + 1) ∷ tail_tell ∷ []

  abbrev pub txn_end : Open → TxnPoint → List Tell
  txn_end attempt (Committing (Freeing nth)) = tail_end attempt
  txn_end attempt (Committing Ending) = tail_end attempt
  txn_end attempt _ = attempt_tell teller attempt outcome.Cut [] ∷ []

  abbrev pub in_txn_end : TxnPoint → Option Open → List Tell
  in_txn_end at None = []
  in_txn_end at (Some attempt) = txn_end attempt at

  -- a move is one from the claim of its cell on
  abbrev pub move_end : ℕ → ℕ → ℕ → Option Stamp → List Tell
  move_end table key bucket None = bare_tell (TidyCut table key) [] ∷ []
  move_end table key bucket (Some stamp) = bare_tell (Moved bucket table key stamp moved.Cut) [] ∷ []

  abbrev pub place_end : Bool → Option Open → CallPoint → List Tell
  place_end cut opened (Beginning txn nth at) = bare_tell (unbegun txn nth outcome.Cut) [] ∷ []
  place_end cut opened (InTxn at) = in_txn_end at opened
  place_end cut opened (Scanning table low high at) = open_end (left_how cut) opened
  place_end cut opened (Seeking table key passed) = bare_tell (TidyCut table key) [] ∷ []
  place_end cut opened (Moving table key position at) =
      let place = place_of shape table position in
      move_end table key (bucket_of shape place.row) (move_claimed place at)
  place_end cut opened (Snapping bucket at) = bare_tell (CollectCut bucket) [] ∷ []
  place_end cut opened (Collecting bucket prefix seen at) = bare_tell (Collected bucket prefix seen true) seen ∷ []

  abbrev pub call_end : Bool → Option Open → Option (Now CallPoint Answer) → List Tell
  call_end cut opened (Some (At place)) = place_end cut opened place
  call_end cut opened _ = open_end (left_how cut) opened

  -- where a medic has finished it, no tail is cut, and a commit that it rolled on is one
  abbrev pub treated_txn_end : Finish → TxnPoint → Option Open → List Tell
  treated_txn_end how at None = []
  treated_txn_end how at (Some attempt) =
      if has_committed at how then commit_tell teller attempt (attempt.state.last + 1) ∷ []
      else attempt_tell teller attempt outcome.Cut [] ∷ []

  abbrev pub treated_end : Bool → Finish → Option Open → Option (Now CallPoint Answer) → List Tell
  treated_end cut how opened (Some (At (InTxn at))) = treated_txn_end how at opened
  treated_end cut how opened call = call_end cut opened call

  abbrev pub now_end : Bool → Option Finish → Option Open → Option (Now CallPoint Answer) → List Tell
  now_end cut None opened call = call_end cut opened call
  now_end cut (Some how) opened call = treated_end cut how opened call ++ bare_tell (Finished how) [] ∷ []

  abbrev pub end_of : ClientState → List Tell
  end_of client = now_end client.cut (finish_of client.medic) client.txn client.call

-- 4. The teller is the client's

-- the operation of the call that runs
abbrev pub txn_running : TxnPoint → List Op
txn_running (Finding op passed) = op ∷ []
txn_running (Reading op position at) = op ∷ []
txn_running (Claiming op at) = op ∷ []
txn_running (Committing at) = []

abbrev pub running : Option (Now CallPoint Answer) → List Op
running (Some (At (InTxn at))) = txn_running at
running (Some (At (Scanning table low high at))) = Scan table low high ∷ []
running _ = []

-- the snapshot that is listed, and that no event has yet
abbrev pub open_snaps : Option Open → List (List ℕ)
open_snaps None = []
open_snaps (Some attempt) = attempt.state.seen ∷ []

abbrev pub snaps_pending : Option Open → Option (Now CallPoint Answer) → List (List ℕ)
snaps_pending opened (Some (At (Collecting bucket prefix seen at))) = seen ∷ []
snaps_pending opened _ = open_snaps opened

-- it has nothing of an attempt
pub record IsBlank (teller : Teller) : Type 0 where
  pub ops_none : teller.ops ≡ []
  pub passed_none : teller.passed ≡ []
  pub reads_none : teller.reads ≡ []
  pub locks_none : teller.locks ≡ []

-- it has what the attempt counts; all operations have passed but the one that runs
pub record IsCounted (teller : Teller) (running_ops : List Op) (attempt : Open) : Type 0 where
  pub ops_count : attempt.ops ≡ length teller.ops
  pub reads_count : attempt.reads ≡ length teller.reads
  pub locks_count : attempt.locks ≡ length teller.locks
  pub asked : teller.ops ≡ teller.passed ++ running_ops

abbrev pub OpenTold : Teller → List Op → Option Open → Type 0
OpenTold teller running_ops None = IsBlank teller
OpenTold teller running_ops (Some attempt) = IsCounted teller running_ops attempt

-- A transaction is open exactly for its calls; the log lists the ended events with what they own, and then what the
-- teller has of the open attempt, and nothing more; the client's last number is that of its last commit.
pub record IsTold (client : ClientState) (teller : Teller) : Type 0 where
  pub opens : OpenClient client
  pub lists : ListsTells client.log teller.front teller.reads teller.locks [] (snaps_pending client.txn client.call)
  pub number : client.last ≡ last_number client.start teller.front
  pub opened : OpenTold teller (running client.call) client.txn
