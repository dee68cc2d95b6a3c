-- Each word of a commit keeps that a lock which stood in its way is listed by another client; and so does each log that
-- grows.
use Rattle.std.proofs.Common.{List, None, Option, Some, length, refl, ℕ, ◌+◌, ◌≡◌, ◌≢◌}
use Rattle.std.specs.Prelude.{slice_get, slice_set}
use Rattle.nam_calls.proofs.GoesTests.{give_back_goes, peek_goes, seize_goes}
use Rattle.nam_calls.specs.Lock.{give_back}
use Rattle.nam_calls.specs.declared.lock.LockPoint.{LockPoint}
use Rattle.nam_calls.specs.declared.lock.LockPoint.TheVariants.{GiveBack, Peek, Seize}
use Rattle.nam_ghost.proofs.ListLemmas.{front_listed, someone_stays}
use Rattle.nam_protocol.proofs.GoesCommit.{next_count_goes, next_free_goes, on_copy_goes, on_install_goes, on_list_goes}
use Rattle.nam_protocol.proofs.GoesCommit.{on_return_goes, on_slot_goes, on_words_goes, refused_goes}
use Rattle.nam_protocol.specs.Commit.{commit_after, lock_at, on_lock, places, refusal_answer, refused}
use Rattle.nam_protocol.specs.Grows.{Grows}
use Rattle.nam_protocol.specs.Txn.{Stepped}
use Rattle.nam_protocol.specs.declared.client.Answer.{Answer}
use Rattle.nam_protocol.specs.declared.client.CallPoint.{CallPoint}
use Rattle.nam_protocol.specs.declared.client.CallPoint.TheVariants.{InTxn}
use Rattle.nam_protocol.specs.declared.client.ClientState.{ClientState}
use Rattle.nam_protocol.specs.declared.client.Open.{Open}
use Rattle.nam_protocol.specs.declared.txn.CommitPoint.{CommitPoint}
use Rattle.nam_protocol.specs.declared.txn.CommitPoint.TheVariants.{Checking, Clearing, Copying, Counting, Deciding}
use Rattle.nam_protocol.specs.declared.txn.CommitPoint.TheVariants.{Ending, Freeing, Installing, Listing, Locking}
use Rattle.nam_protocol.specs.declared.txn.CommitPoint.TheVariants.{Publishing, Returning, Saving}
use Rattle.nam_protocol.specs.declared.txn.Refusal.{Refusal}
use Rattle.nam_protocol.specs.declared.txn.TxnPoint.TheVariants.{Committing}
use Rattle.nam_protocol.specs.declared.txn.TxnState.{TxnState}
use Rattle.nam_refused.specs.Lockers.{AnswerListed, IsListed, PointListed, RefusalListed, WayListed}
use Rattle.nam_refused.specs.RefusedLaw.{LooksAt}
use Rattle.nam_refused.specs.Views.{InCall, InNow}
use Rattle.nam_store.specs.Store.{step}
use Rattle.nam_verbs.specs.declared.now.Now.{Now}
use Rattle.nam_verbs.specs.declared.now.Now.TheVariants.{At, Over}
use Rattle.si_model.specs.Lists.{Listed}
use Rattle.si_model.specs.declared.log.Lock.{Lock}
use Rattle.nam_protocol.specs.declared.txn.Refusal.TheVariants as refusal

-- 1. Each word of a commit

module _ (clients : List ClientState) (nth : ℕ) (state : TxnState) where
  abbrev pub After : Stepped → Type 0
  After step = InNow (PointListed clients nth) (AnswerListed clients nth) step.state step.call

  answers : (why : Refusal) → RefusalListed clients nth why → AnswerListed clients nth (refusal_answer why)
  answers (refusal.Locked lock) is = is
  answers (refusal.Newer lock) is = tt
  answers (refusal.Full lock) is = tt

  refuses : (why : Refusal) → RefusalListed clients nth why → After (refused state why)
  refuses why is = refused_goes After state why (λ tells. is) (λ untold. answers why is)

  gives_back : (given found : ℕ) → WayListed clients nth state found
      → After (on_lock state (give_back (places state) state.held given found))
  gives_back given found way =
      let lock = lock_at state (length state.held) found in
      give_back_goes (λ now. After (on_lock state now)) (places state) state.held given found
      (λ all locked. refuses (refusal.Locked lock) (way locked)) (λ all free. refuses (refusal.Newer lock) tt)
      (λ more. way)

  -- where a header that it looks at is one in its way
  pub commit_listed : (at : CommitPoint) (found : ℕ)
      → ((point : LockPoint) → at ≡ Locking point → LooksAt point → WayListed clients nth state found)
      → PointListed clients nth state at → After (commit_after state at found)
  commit_listed (Listing at) found met is = on_list_goes After state _ (λ next e. tt) (λ e. tt)
  commit_listed (Locking Peek) found met is =
      let way = met Peek refl tt in
      peek_goes (λ now. After (on_lock state now)) (places state) state.seen state.held found
      (λ locked. gives_back 0 found way) (λ free seen. tt) (λ free unseen. gives_back 0 found way)
  commit_listed (Locking (Seize header)) found met is =
      seize_goes (λ now. After (on_lock state now)) (places state) state.seen state.held header found
      (λ same all. tt) (λ same more. tt) (λ other. gives_back 0 found (met (Seize header) refl tt))
  commit_listed (Locking (GiveBack given word)) found met is = gives_back (given + 1) word is
  commit_listed (Checking at) found met is =
      on_slot_goes After state _ (λ next e. tt) (λ count e f g. tt) (λ count e f g. tt) (λ count e f. tt)
      (λ slot word e. tt)
  commit_listed (Returning given full) found met is =
      on_return_goes After state full _ (λ next e. tt) (λ e f. tt) (λ e f. tt)
  commit_listed (Counting p) found met is = next_count_goes After state (p + 1) (λ e. tt) (λ e. tt)
  commit_listed Deciding found met is = tt
  commit_listed (Saving p got) found met is = on_words_goes After state p _ (λ next e. tt) (λ old e. tt)
  commit_listed (Copying p old at) found met is = on_copy_goes After state p old _ (λ next e. tt) (λ e. tt)
  commit_listed (Installing p at) found met is =
      on_install_goes After state p _ (λ next e. tt) (λ e f. tt) (λ e f. tt)
  commit_listed Publishing found met is =
      next_free_goes After state (length state.writes) (λ e f. tt) (λ e f. tt) (λ e. tt)
  commit_listed (Freeing p) found met is = next_free_goes After state (p + 1) (λ e f. tt) (λ e f. tt) (λ e. tt)
  commit_listed (Clearing why) found met is = answers why is
  commit_listed Ending found met is = tt

-- 2. Logs grow

module _ (clients : List ClientState) (k : ℕ) (client after : ClientState) (here : slice_get clients k ≡ Some client)
    (grows : Grows client.log after.log) (nth : ℕ) where
  abbrev later : List ClientState
  later = slice_set clients k after

  listed_stays : (lock : Lock) → IsListed clients nth lock → IsListed later nth lock
  listed_stays lock =
      someone_stays (λ other (one : ClientState). (other ≢ nth) × Listed lock one.log.locks) clients k client after here
      (λ is. (is.0, front_listed client.log.locks after.log.locks grows.locks lock is.1))

  refusal_stays : (why : Refusal) → RefusalListed clients nth why → RefusalListed later nth why
  refusal_stays (refusal.Locked lock) is = listed_stays lock is
  refusal_stays (refusal.Newer lock) is = tt
  refusal_stays (refusal.Full lock) is = tt

  point_stays : (state : TxnState) (at : CommitPoint) → PointListed clients nth state at
      → PointListed later nth state at
  point_stays state (Locking (GiveBack given found)) way =
      λ locked. listed_stays (lock_at state (length state.held) found) (way locked)
  point_stays state (Locking Peek) is = tt
  point_stays state (Locking (Seize header)) is = tt
  point_stays state (Clearing why) is = refusal_stays why is
  point_stays state _ is = tt

  pub call_stays : (call : Option (Now CallPoint Answer)) (opened : Option Open)
      → InCall (PointListed clients nth) call opened → InCall (PointListed later nth) call opened
  call_stays (Some (At (InTxn (Committing at)))) (Some attempt) is = point_stays attempt.state at is
  call_stays (Some (At (InTxn (Committing at)))) None is = tt
  call_stays (Some (At (InTxn _))) opened is = tt
  call_stays (Some (At _)) opened is = tt
  call_stays (Some (Over answer)) opened is = tt
  call_stays None opened is = tt
