-- The sorts of a client's steps and of what it is asked: a group of invariants says what it has to say of each sort,
-- and of no other call by itself.
use Rattle.std.specs.Prelude.{List, None, Some, length, ℕ, ◌≡◌}
use Rattle.nam_verbs.specs.declared.now.Now.TheVariants.{At}
use Rattle.nam_catalog.specs.declared.shape.Shape.{Shape}
use Rattle.nam_vector.specs.declared.snap.SnapPoint.{SnapPoint}
use Rattle.nam_vector.specs.Snap.{snap_begin}
use Rattle.nam_calls.specs.declared.horizon.CollectPoint.{CollectPoint}
use Rattle.nam_calls.specs.declared.mover.MovePoint.{MovePoint}
use Rattle.nam_calls.specs.Reading.{read_after}
use Rattle.nam_protocol.specs.declared.client.Call.{Call}
use Rattle.nam_protocol.specs.declared.client.CallPoint.{CallPoint}
use Rattle.nam_protocol.specs.declared.client.CallPoint.TheVariants.{Beginning, InTxn, Scanning, Seeking, Moving}
use Rattle.nam_protocol.specs.declared.client.CallPoint.TheVariants.{Snapping, Collecting}
use Rattle.nam_protocol.specs.declared.client.ClientState.{ClientState}
use Rattle.nam_protocol.specs.declared.client.Open.{Open}
use Rattle.nam_protocol.specs.declared.scan.ScanPoint.TheVariants.{ScanKey}
use Rattle.nam_protocol.specs.declared.txn.CommitPoint.{CommitPoint}
use Rattle.nam_protocol.specs.declared.txn.TxnPoint.TheVariants.{Finding, Claiming, Committing}
use Rattle.nam_protocol.specs.Client.{call_after, client_ask}
use Rattle.nam_protocol.specs.Commit.{ask_commit, commit_after}
use Rattle.nam_protocol.specs.Plain.{Plain}
use Rattle.nam_protocol.specs.Reader.{Reader, ReadsAnew, ReadsOn, reader_at, reader_of}
use Rattle.nam_protocol.specs.Telling.{go, stepped}

-- a client at a point of its commit
abbrev pub committing_at : ClientState → Open → CommitPoint → ClientState
committing_at client attempt at = record client { call = Some (At (InTxn (Committing at))); txn = Some attempt }

-- a key word is looked at, or claimed
abbrev pub IsKeyPlace : CallPoint → Type 0
IsKeyPlace (InTxn (Finding op passed)) = Unit {0}
IsKeyPlace (InTxn (Claiming op at)) = Unit {0}
IsKeyPlace (Scanning table low high (ScanKey position)) = Unit {0}
IsKeyPlace (Seeking table key passed) = Unit {0}
IsKeyPlace _ = ⊥

module _ (shape : Shape) (found : ℕ) where
  -- a client at this point, after the word
  abbrev pub word_taken : ClientState → CallPoint → ClientState
  word_taken client place = call_after shape (go client place) place found

  -- a step from a client to a client
  pub data StepOf : ClientState → ClientState → Type 0 where
    Finds : (client : ClientState) (place : CallPoint) → IsKeyPlace place
        → Plain (go client place) (word_taken client place) → ReadsAnew (reader_of shape (word_taken client place))
        → StepOf (go client place) (word_taken client place)
    Reads : (client : ClientState) (place : CallPoint) (reader : Reader)
        → reader_at shape client.txn place ≡ Some reader → Plain (go client place) (word_taken client place)
        → ReadsOn reader (reader_of shape (word_taken client place))
        (read_after reader.sight reader.seen reader.at found)
        → StepOf (go client place) (word_taken client place)
    Moves : (client : ClientState) (table key position : ℕ) (at : MovePoint)
        → Plain (go client (Moving table key position at)) (word_taken client (Moving table key position at))
        → StepOf (go client (Moving table key position at)) (word_taken client (Moving table key position at))
    Collects : (client : ClientState) (bucket prefix : ℕ) (seen : List ℕ) (at : CollectPoint)
        → Plain (go client (Collecting bucket prefix seen at)) (word_taken client (Collecting bucket prefix seen at))
        → StepOf (go client (Collecting bucket prefix seen at)) (word_taken client (Collecting bucket prefix seen at))
    Begins : (client : ClientState) (txn nth : ℕ) (at : SnapPoint)
        → StepOf (go client (Beginning txn nth at)) (word_taken client (Beginning txn nth at))
    Snaps : (client : ClientState) (bucket : ℕ) (at : SnapPoint)
        → StepOf (go client (Snapping bucket at)) (word_taken client (Snapping bucket at))
    Commits : (client : ClientState) (attempt : Open) (at : CommitPoint)
        → StepOf (committing_at client attempt at)
        (stepped (committing_at client attempt at) attempt (length attempt.state.held)
        (commit_after attempt.state at found))

module _ (shape : Shape) where
  -- what a client is asked, from a client to a client
  pub data AskOf : ClientState → ClientState → Type 0 where
    AsksPlain : (client : ClientState) (asked : Call) → Plain client (client_ask shape client asked)
        → reader_of shape (client_ask shape client asked) ≡ None → AskOf client (client_ask shape client asked)
    AsksBegin : (client : ClientState) (txn nth : ℕ) → AskOf client (go client (Beginning txn nth snap_begin))
    AsksCollect : (client : ClientState) (bucket : ℕ) → AskOf client (go client (Snapping bucket snap_begin))
    AsksCommit : (client : ClientState) (attempt : Open)
        → AskOf (record client { txn = Some attempt })
        (stepped (record client { txn = Some attempt }) attempt 0 (ask_commit shape attempt.state))
