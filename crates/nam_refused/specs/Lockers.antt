-- What is claimed of a lock that stood in a commit's way: another client's log lists it. Logs only grow, so it stays.
use Rattle.std.specs.Prelude.{List, length, true, ℕ, ◌≡◌, ◌≢◌}
use Rattle.nam_calls.specs.declared.lock.LockPoint.TheVariants.{GiveBack}
use Rattle.nam_header.specs.Stamp.{is_locked}
use Rattle.nam_protocol.specs.Commit.{lock_at, record_place}
use Rattle.nam_protocol.specs.declared.client.ClientState.{ClientState}
use Rattle.nam_protocol.specs.declared.txn.CommitPoint.{CommitPoint}
use Rattle.nam_protocol.specs.declared.txn.CommitPoint.TheVariants.{Clearing, Locking}
use Rattle.nam_protocol.specs.declared.txn.Refusal.{Refusal}
use Rattle.nam_protocol.specs.declared.txn.TxnAnswer.{TxnAnswer}
use Rattle.nam_protocol.specs.declared.txn.TxnState.{TxnState}
use Rattle.nam_refused.specs.Views.{InCall}
use Rattle.nam_store.specs.Everyone.{Everyone, Someone}
use Rattle.nam_store.specs.Store.{Store}
use Rattle.si_model.specs.Lists.{Listed}
use Rattle.si_model.specs.declared.log.Lock.{Lock}
use Rattle.nam_protocol.specs.declared.txn.Refusal.TheVariants as refusal
use Rattle.nam_protocol.specs.declared.txn.TxnAnswer.TheVariants as txn_answer

module _ (clients : List ClientState) (nth : ℕ) where
  -- a client other than the nth has listed that it took this lock, of the same key and under the same stamp
  abbrev pub IsListed : Lock → Type 0
  IsListed lock = Someone (λ other one. (other ≢ nth) × Listed lock one.log.locks) clients

  -- a header that stood in the way of the next lock, where it was locked
  abbrev pub WayListed : TxnState → ℕ → Type 0
  WayListed state found = let next = length state.held in
      is_locked (record_place state next).form found ≡ true → IsListed (lock_at state next found)

  abbrev pub RefusalListed : Refusal → Type 0
  RefusalListed (refusal.Locked lock) = IsListed lock
  RefusalListed (refusal.Newer lock) = Unit {0}
  RefusalListed (refusal.Full lock) = Unit {0}

  abbrev pub PointListed : TxnState → CommitPoint → Type 0
  PointListed state (Locking (GiveBack given found)) = WayListed state found
  PointListed state (Clearing why) = RefusalListed why
  PointListed state _ = Unit {0}

  abbrev pub AnswerListed : TxnAnswer → Type 0
  AnswerListed (txn_answer.Locked lock) = IsListed lock
  AnswerListed _ = Unit {0}

abbrev pub LockersOk : Store → Type 0
LockersOk store =
    Everyone (λ nth (client : ClientState). InCall (PointListed store.clients nth) client.call client.txn) store.clients
