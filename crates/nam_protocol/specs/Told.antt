-- What a call's answer tells of the log before and after it.
use Rattle.std.specs.Prelude.{◌≡◌, ◌≢◌, ℕ, ◌+◌, ◌-◌, ◌<◌, Bool, true, false, List, [], ◌∷◌, ◌++◌, length, slice_index}
use Rattle.std.specs.Prelude.{Option, Some}
use Rattle.std.specs.List.{AllByRecursion}
use Rattle.si_model.specs.declared.row.Item.{Item}
use Rattle.si_model.specs.declared.op.Op.{Op}
use Rattle.si_model.specs.declared.log.Lock.{Lock}
use Rattle.si_model.specs.declared.log.Stamp.{Stamp}
use Rattle.si_model.specs.declared.log.MoveEnd.{MoveEnd}
use Rattle.si_model.specs.declared.log.Outcome.{Outcome}
use Rattle.si_model.specs.Evaluation.{passes, found, op_key, writes_after, guards_after}
use Rattle.si_model.specs.declared.log.Event.TheVariants as event
use Rattle.si_model.specs.declared.log.Outcome.TheVariants as outcome
use Rattle.nam_verbs.specs.declared.now.Now.TheVariants.{Over}
use Rattle.nam_catalog.specs.declared.shape.Shape.{Shape}
use Rattle.nam_catalog.specs.Tables.{widths_of}
use Rattle.nam_layout.specs.Place.{place_of, bucket_of}
use Rattle.nam_vector.specs.declared.snap.SnapPoint.{SnapPoint}
use Rattle.nam_vector.specs.Snap.{snap_after}
use Rattle.nam_vector.specs.declared.snap.SnapEnd.TheVariants as snap_end
use Rattle.nam_calls.specs.declared.mover.MovePoint.{MovePoint}
use Rattle.nam_calls.specs.Mover.{move_claimed}
use Rattle.nam_protocol.specs.declared.txn.TxnState.{TxnState}
use Rattle.nam_protocol.specs.declared.txn.TxnAnswer.{TxnAnswer}
use Rattle.nam_protocol.specs.declared.client.Open.{Open}
use Rattle.nam_protocol.specs.declared.client.ClientState.{ClientState}
use Rattle.nam_protocol.specs.Operations.{holding, answer_of}
use Rattle.nam_protocol.specs.Log.{with_event, with_reads, with_writes, with_snap, prefix_of, attempt_of}
use Rattle.nam_protocol.specs.Telling.{new_attempt, with_read}
use Rattle.nam_protocol.specs.Carries.{IsBetween, IsMissed, Took}

module _ (before after : ClientState) where
  -- 1. An operation on a value: what it reads is listed, and where it ends the attempt, that too

  -- the attempt has ended so after it has read that
  abbrev pub EndsReading : Open → List Item → Outcome → Type 0
  EndsReading attempt items how =
      after.log ≡ with_event (with_reads before.log items) (attempt_of (with_read attempt items) how 0)

  -- it has ended so, and read nothing in this call
  abbrev pub Ends : Open → Outcome → Type 0
  Ends attempt how = after.log ≡ with_event before.log (attempt_of attempt how 0)

  pub record OpDeclined (attempt : Open) (op : Op) (value : Option (List ℕ)) : Type 0 where
    pub declines : passes op (holding value) ≡ false
    pub log : EndsReading attempt (found op (holding value)) (outcome.Declined attempt.ops)

  -- it passes, but its table has no position for its key
  pub record OpNoSpace (attempt : Open) (op : Op) (value : Option (List ℕ)) (table : ℕ) : Type 0 where
    pub passes : passes op (holding value) ≡ true
    pub table_is : table ≡ (op_key op).table
    pub log : EndsReading attempt (found op (holding value)) (outcome.NoSpace table)

  -- the word is a horizon entry above the snapshot's
  pub record IsTooOld (word : ℕ) (attempt : Open) (worker entry horizon : ℕ) : Type 0 where
    pub entry_is : entry ≡ slice_index attempt.state.seen (worker - 1)
    pub horizon_is : horizon ≡ word
    pub above : entry < horizon
    pub log : Ends attempt (outcome.TooOld worker entry horizon)

  -- 2. A commit

  -- the word in the way of the next lock is locked or isn't; the locks listed before it are those that were taken
  pub record LockMissed (attempt : Open) (word : ℕ) (lock : Lock) (locked : Bool) (how : Outcome) : Type 0 where
    pub missed : IsMissed attempt.state word lock locked
    pub took : Took before.log.locks attempt
    pub log : Ends attempt how

  -- the number is one more than the client's last and its last from now on; the write set is listed
  pub record HasCommitted (attempt : Open) (number : ℕ) : Type 0 where
    pub next : number ≡ before.last + 1
    pub last : after.last ≡ number
    pub log : after.log
        ≡ with_writes
        (with_event before.log (attempt_of attempt (outcome.Commit number) (length attempt.state.writes)))
        attempt.state.writes

  -- 3. A scan: so many rows were listed, all of its table and within its range

  pub record HasScanned (attempt : Open) (table low high number : ℕ) : Type 0 where
    pub items : List Item
    pub number_is : number ≡ length items
    pub between : AllByRecursion (λ item. (item.table ≡ table) × IsBetween low high item.key) items
    pub log : after.log ≡ with_reads before.log items
    pub opened : after.txn ≡ Some (with_read attempt items)

  -- 4. A collection

  -- the collection has its snapshot, which is the last that the log lists
  pub record HasCollected (bucket prefix : ℕ) (seen : List ℕ) : Type 0 where
    pub prefix_is : prefix ≡ prefix_of before.start seen
    pub earlier : List (List ℕ)
    pub snaps : before.log.snaps ≡ earlier ++ seen ∷ []
    pub log : after.log ≡ with_event before.log (event.Collected bucket prefix seen false)

-- 5. A snapshot

-- the word is another than the entry that the first pass found
pub record FoundAgain (shape : Shape) (word : ℕ) (at : SnapPoint) (worker first second : ℕ) : Type 0 where
  pub again : snap_after shape.workers at word ≡ Over (snap_end.Again worker first second)
  pub second_is : second ≡ word
  pub differ : first ≢ second

module _ (shape : Shape) (before after : ClientState) where
  pub record HasBegun (word : ℕ) (txn nth : ℕ) (at : SnapPoint) (prefix : ℕ) : Type 0 where
    pub seen : List ℕ
    pub snapshot : snap_after shape.workers at word ≡ Over (snap_end.Done seen)
    pub prefix_is : prefix ≡ prefix_of before.start seen
    pub log : after.log ≡ with_snap before.log seen
    pub opened : after.txn ≡ Some (new_attempt before txn nth prefix seen)

  -- 6. An operation that passes: the answer is that on this value, and so are the write set and the guards after it

  pub record OpPassed (attempt : Open) (op : Op) (value : Option (List ℕ)) (end : TxnAnswer) : Type 0 where
    pub passes : passes op (holding value) ≡ true
    pub answer : end ≡ answer_of op value
    pub log : after.log ≡ with_reads before.log (found op (holding value))
    pub state : TxnState
    pub opened : after.txn ≡ Some (with_read (record attempt { state = state }) (found op (holding value)))
    pub writes : state.writes
        ≡ writes_after (widths_of shape.tables) op (holding value) attempt.state.writes
    pub guards : state.guards ≡ guards_after op attempt.state.guards

  -- 7. A tidying

  -- a move is listed, with the stamp of the version for which it had claimed a cell
  pub record HasMoved (table key position : ℕ) (at : MovePoint) (how : MoveEnd) : Type 0 where
    pub stamp : Stamp
    pub claimed : move_claimed (place_of shape table position) at ≡ Some stamp
    pub log : after.log
        ≡ with_event before.log
        (event.Moved (bucket_of shape (place_of shape table position).row) table key stamp how)
