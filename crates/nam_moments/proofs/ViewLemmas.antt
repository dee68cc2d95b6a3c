-- What a client is as an observer of the vector, after each sort of step, and after what it is asked.
use Rattle.std.proofs.Common.{None, Option, Some, ap, cond, false, length, refl, sym, ℕ, ◌+◌, ◌∙◌, ◌≡◌}
use Rattle.nam_calls.specs.declared.lock.LockPoint.{LockPoint}
use Rattle.nam_catalog.specs.declared.shape.Shape.{Shape}
use Rattle.nam_ghost.proofs.EntryLemmas.{IsPublishing}
use Rattle.nam_ghost.proofs.IdleLemmas.{rests_aside}
use Rattle.nam_ghost.specs.Moments.{Observer, has_published, observer_of, pass_of}
use Rattle.nam_moments.proofs.SnapLemmas.{aside, beginning, observed}
use Rattle.nam_protocol.proofs.GoesCommit.{ask_commit_goes, next_count_goes, next_free_goes, on_copy_goes}
use Rattle.nam_protocol.proofs.GoesCommit.{on_install_goes, on_list_goes, on_lock_goes, on_return_goes, on_slot_goes}
use Rattle.nam_protocol.proofs.GoesCommit.{on_words_goes, refused_goes}
use Rattle.nam_protocol.specs.Client.{abandon_open, client_abandon, on_begin, on_snap}
use Rattle.nam_protocol.specs.Commit.{ask_commit, commit_after, lock_at, refusal_answer, refused}
use Rattle.nam_protocol.specs.Own.{Rests}
use Rattle.nam_protocol.specs.Plain.{IsAside, Plain}
use Rattle.nam_protocol.specs.Sorts.{committing_at}
use Rattle.nam_protocol.specs.Telling.{go, stepped}
use Rattle.nam_protocol.specs.Txn.{Stepped, over}
use Rattle.nam_protocol.specs.declared.client.Answer.{Answer}
use Rattle.nam_protocol.specs.declared.client.CallPoint.{CallPoint}
use Rattle.nam_protocol.specs.declared.client.CallPoint.TheVariants.{Beginning, InTxn, Snapping}
use Rattle.nam_protocol.specs.declared.client.ClientState.{ClientState}
use Rattle.nam_protocol.specs.declared.client.Open.{Open}
use Rattle.nam_protocol.specs.declared.txn.CommitPoint.{CommitPoint}
use Rattle.nam_protocol.specs.declared.txn.CommitPoint.TheVariants.{Checking, Clearing, Copying, Counting, Deciding}
use Rattle.nam_protocol.specs.declared.txn.CommitPoint.TheVariants.{Ending, Freeing, Installing, Listing, Locking}
use Rattle.nam_protocol.specs.declared.txn.CommitPoint.TheVariants.{Publishing, Returning, Saving}
use Rattle.nam_protocol.specs.declared.txn.Refusal.{Refusal}
use Rattle.nam_protocol.specs.declared.txn.TxnAnswer.TheVariants.{Committed}
use Rattle.nam_protocol.specs.declared.txn.TxnPoint.TheVariants.{Committing}
use Rattle.nam_vector.specs.declared.snap.SnapEnd.{SnapEnd}
use Rattle.nam_vector.specs.declared.snap.SnapEnd.TheVariants.{Again, Done}
use Rattle.nam_vector.specs.declared.snap.SnapPoint.{SnapPoint}
use Rattle.nam_verbs.specs.declared.now.Now.{Now}
use Rattle.nam_verbs.specs.declared.now.Now.TheVariants.{At, Over}
use Rattle.nam_protocol.specs.declared.txn.Refusal.TheVariants as refusal

-- 1. A snapshot's word

pub begin_observed : (shape : Shape) (client : ClientState) (txn nth : ℕ) (at : SnapPoint) (now : Now SnapPoint SnapEnd)
    → let c = go client (Beginning txn nth at) in
    observer_of (on_begin shape c txn nth now) ≡ observed (observer_of c) now
begin_observed shape client txn nth at (At point) = refl
begin_observed shape client txn nth at (Over (Done seen)) = refl
begin_observed shape client txn nth at (Over (Again worker first second)) = refl

pub snap_observed : (shape : Shape) (client : ClientState) (bucket : ℕ) (at : SnapPoint) (now : Now SnapPoint SnapEnd)
    → let c = go client (Snapping bucket at) in
    observer_of (on_snap shape c bucket now) ≡ observed (observer_of c) now
snap_observed shape client bucket at (At point) = refl
snap_observed shape client bucket at (Over (Done seen)) = refl
snap_observed shape client bucket at (Over (Again worker first second)) = refl

-- 2. A plain step, from a point that is none of a commit's, or from rest

aside_pass : (call : Option (Now CallPoint Answer)) → IsAside call → pass_of call ≡ None
aside_pass None is = refl
aside_pass (Some (Over answer)) is = refl
aside_pass (Some (At (Beginning txn nth at))) is = absurd is
aside_pass (Some (At (Snapping bucket at))) is = absurd is
aside_pass (Some (At _)) is = refl

pub aside_unpublished : (call : Option (Now CallPoint Answer)) → IsAside call → has_published call ≡ false
aside_unpublished None is = refl
aside_unpublished (Some (Over answer)) is = refl
aside_unpublished (Some (At (InTxn (Committing at)))) is = absurd is
aside_unpublished (Some (At (InTxn _))) is = refl
aside_unpublished (Some (At _)) is = refl

pub plain_observed : (before after : ClientState) → IsAside before.call → Plain before after
    → observer_of after ≡ aside (observer_of before)
plain_observed before after is plain k =
    let published = aside_unpublished after.call plain.aside ∙ sym (aside_unpublished before.call is) in record {
      number = cond (published k) (plain.last k + 1) (plain.last k);
      pass = aside_pass after.call plain.aside k;
      snaps = plain.snaps k;
    }

-- 3. A client at rest

abbrev at_rest : ClientState → Observer
at_rest client = record { number = client.last; pass = None; snaps = client.log.snaps }

rest_observed : (client : ClientState) → Rests client.call → observer_of client ≡ at_rest client
rest_observed client rests k = let is = rests_aside client.call rests in record {
  number = cond (aside_unpublished client.call is k) (client.last + 1) client.last;
  pass = aside_pass client.call is k;
  snaps = client.log.snaps;
}

-- a snapshot begins
pub begins_observed : (client : ClientState) (observer : Observer) → Rests client.call
    → observer ≡ beginning (at_rest client) → observer ≡ beginning (observer_of client)
begins_observed client observer rests same = same ∙ ap beginning (sym (rest_observed client rests))

-- a commit is asked
pub asked_observed : (shape : Shape) (client : ClientState) (attempt : Open) → Rests client.call
    → observer_of (stepped (record client { txn = Some attempt }) attempt 0 (ask_commit shape attempt.state))
    ≡ aside (observer_of client)
asked_observed shape client attempt rests =
    ask_commit_goes (λ step. observer_of (stepped (record client { txn = Some attempt }) attempt 0 step)
    ≡ at_rest client)
    attempt.state shape (λ e. refl) (λ e f. refl) (λ e f g. refl) (λ e f g. refl)
    ∙ ap aside (sym (rest_observed client rests))

-- the transaction is given up
abandoned_at : (client : ClientState) (opened : Option Open)
    → observer_of (abandon_open client opened) ≡ observer_of client
abandoned_at client None = refl
abandoned_at client (Some attempt) = refl

pub abandoned_observed : (client : ClientState) → observer_of (client_abandon client) ≡ observer_of client
abandoned_observed client = abandoned_at client client.txn

-- 4. A commit's word

module _ (client : ClientState) (attempt : Open) (taken : ℕ) (last_is : attempt.state.last ≡ client.last) where
  abbrev at_commit : CommitPoint → ClientState
  at_commit at = committing_at client attempt at

  -- the client after a step from this point
  abbrev after_step : CommitPoint → Stepped → Observer
  after_step at step = observer_of (stepped (at_commit at) attempt taken step)

  -- nothing is published by it
  abbrev Unseen : CommitPoint → Stepped → Type 0
  Unseen at step = after_step at step ≡ aside (observer_of (at_commit at))

  -- the next number is published; a commit's answer tells it
  abbrev published : Observer
  published = record { number = client.last + 1; pass = None; snaps = client.log.snaps }

  told : (at : CommitPoint) → after_step at (over attempt.state (Committed (attempt.state.last + 1))) ≡ published
  told at k = record { number = last_is k + 1; pass = None; snaps = client.log.snaps }

  refusal_unseen : (refusal : Refusal) → Unseen (Clearing refusal) (over attempt.state (refusal_answer refusal))
  refusal_unseen (refusal.Locked lock) = refl
  refusal_unseen (refusal.Newer lock) = refl
  refusal_unseen (refusal.Full lock) = refl

  lock_unseen : (at : LockPoint) (refusal : Refusal) → Unseen (Locking at) (over attempt.state (refusal_answer refusal))
  lock_unseen at (refusal.Locked lock) = refl
  lock_unseen at (refusal.Newer lock) = refl
  lock_unseen at (refusal.Full lock) = refl

  refused_unseen : (at : LockPoint) (refusal : Refusal) → Unseen (Locking at) (refused attempt.state refusal)
  refused_unseen at refusal =
      refused_goes (Unseen (Locking at)) attempt.state refusal (λ e. refl) (λ e. lock_unseen at refusal)

  pub commit_observed : (at : CommitPoint) (found : ℕ) → (IsPublishing at → ⊥)
      → Unseen at (commit_after attempt.state at found)
  commit_observed (Listing at) found other =
      on_list_goes (Unseen (Listing at)) attempt.state _ (λ next e. refl) (λ e. refl)
  commit_observed (Locking at) found other =
      on_lock_goes (Unseen (Locking at)) attempt.state _ (λ next e. refl) (λ headers e. refl)
      (λ nth word e. refused_unseen at (refusal.Locked (lock_at attempt.state nth word)))
      (λ nth word e. refused_unseen at (refusal.Newer (lock_at attempt.state nth word)))
  commit_observed (Checking at) found other =
      on_slot_goes (Unseen (Checking at)) attempt.state _ (λ next e. refl) (λ count e f g. refl) (λ count e f g. refl)
      (λ count e f. refl) (λ slot word e. refl)
  commit_observed (Returning given full) found other =
      on_return_goes (Unseen (Returning given full)) attempt.state full _ (λ next e. refl) (λ e f. refl) (λ e f. refl)
  commit_observed (Counting nth) found other =
      next_count_goes (Unseen (Counting nth)) attempt.state (nth + 1) (λ e. refl) (λ e. refl)
  commit_observed Deciding found other = refl
  commit_observed (Saving nth got) found other =
      on_words_goes (Unseen (Saving nth got)) attempt.state nth _ (λ next e. refl) (λ old e. refl)
  commit_observed (Copying nth old at) found other =
      on_copy_goes (Unseen (Copying nth old at)) attempt.state nth old _ (λ next e. refl) (λ e. refl)
  commit_observed (Installing nth at) found other =
      on_install_goes (Unseen (Installing nth at)) attempt.state nth _ (λ next e. refl) (λ e f. refl) (λ e f. refl)
  commit_observed Publishing found other = absurd (other tt)
  commit_observed (Freeing nth) found other =
      next_free_goes (Unseen (Freeing nth)) attempt.state (nth + 1) (λ e f. refl) (λ e f. told (Freeing nth))
      (λ e. refl)
  commit_observed (Clearing refusal) found other = refusal_unseen refusal
  commit_observed Ending found other = told Ending

  pub publish_observed : (found : ℕ) → after_step Publishing (commit_after attempt.state Publishing found) ≡ published
  publish_observed found =
      next_free_goes (λ step. after_step Publishing step ≡ published) attempt.state (length attempt.state.writes)
      (λ e f. refl) (λ e f. told Publishing) (λ e. refl)
