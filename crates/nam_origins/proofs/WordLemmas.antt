-- A client's step is a commit's word, or no commit runs before or after it.
use Rattle.std.proofs.Common.{List, None, Option, Some, ap, false, refl, ℕ, ◌≡◌}
use Rattle.std.specs.Prelude.{length}
use Rattle.nam_catalog.specs.declared.shape.Shape.{Shape}
use Rattle.nam_ghost.proofs.IdleLemmas.{aside_idle, begins_idle, idle_holder, rests_aside, snaps_idle}
use Rattle.nam_ghost.specs.Holders.{holder_of}
use Rattle.nam_ghost.specs.Idle.{IsIdle}
use Rattle.nam_ghost.specs.Moments.{has_published}
use Rattle.nam_ghost.specs.Publications.{Publication}
use Rattle.nam_ghost.specs.Steps.{published_after}
use Rattle.nam_protocol.proofs.GoesCommit.{ask_commit_goes}
use Rattle.nam_protocol.specs.Commit.{commit_after}
use Rattle.nam_protocol.specs.Own.{Rests}
use Rattle.nam_protocol.specs.Sorts.{AskOf, AsksBegin, AsksCollect, AsksCommit, AsksPlain, Begins, Collects, Commits}
use Rattle.nam_protocol.specs.Sorts.{Finds, Moves, Reads, Snaps, StepOf, committing_at}
use Rattle.nam_protocol.specs.Telling.{go, stepped}
use Rattle.nam_protocol.specs.Txn.{Stepped}
use Rattle.nam_protocol.specs.declared.client.Answer.{Answer}
use Rattle.nam_protocol.specs.declared.client.CallPoint.{CallPoint}
use Rattle.nam_protocol.specs.declared.client.CallPoint.TheVariants.{Beginning, InTxn, Snapping}
use Rattle.nam_protocol.specs.declared.client.ClientState.{ClientState}
use Rattle.nam_protocol.specs.declared.client.Open.{Open}
use Rattle.nam_protocol.specs.declared.txn.CommitPoint.{CommitPoint}
use Rattle.nam_protocol.specs.declared.txn.TxnPoint.TheVariants.{Committing}
use Rattle.nam_store.proofs.KindsLemmas.{finds_aside, reads_aside}
use Rattle.nam_vector.specs.Snap.{snap_after}
use Rattle.nam_verbs.specs.declared.now.Now.{Now}
use Rattle.nam_verbs.specs.declared.now.Now.TheVariants.{At, Over}

-- 1. Clients without a commit

pub idle_unpublished : (call : Option (Now CallPoint Answer)) → IsIdle call → has_published call ≡ false
idle_unpublished None idle = refl
idle_unpublished (Some (Over answer)) idle = refl
idle_unpublished (Some (At (InTxn (Committing at)))) idle = absurd idle
idle_unpublished (Some (At (InTxn _))) idle = refl
idle_unpublished (Some (At _)) idle = refl

pub idle_done : (client : ClientState) → IsIdle client.call → (holder_of client).done ≡ 0
idle_done client idle = ap (λ h. h.done) (idle_holder client.worker client.call client.txn idle)

pub rests_idle : (client : ClientState) → Rests client.call → IsIdle client.call
rests_idle client rests = aside_idle client.call (rests_aside client.call rests)

pub idle_published : (nth : ℕ) (opened : Option Open) (place : CallPoint) (published : ℕ → List Publication)
    → IsIdle (Some (At place)) → published_after nth opened place published ≡ published
idle_published nth opened (InTxn (Committing at)) published idle = absurd idle
idle_published nth None (InTxn _) published idle = refl
idle_published nth (Some attempt) (InTxn _) published idle = refl
idle_published nth None _ published idle = refl
idle_published nth (Some attempt) _ published idle = refl

-- 2. A word

module _ (shape : Shape) (found : ℕ) (P : ClientState → ClientState → Type 0) where
  pub word_cases : (before after : ClientState) → StepOf shape found before after
      → ((before after : ClientState) → IsIdle before.call → IsIdle after.call → P before after)
      → ((client : ClientState) (attempt : Open) (at : CommitPoint) → let before = committing_at client attempt at in
      P before (stepped before attempt (length attempt.state.held) (commit_after attempt.state at found)))
      → P before after
  word_cases _ _ (Finds client place is plain anew) idle commits =
      idle _ _ (aside_idle (Some (At place)) (finds_aside place is)) (aside_idle _ plain.aside)
  word_cases _ _ (Reads client place reader is plain on) idle commits =
      idle _ _ (aside_idle (Some (At place)) (reads_aside shape client.txn place reader is))
      (aside_idle _ plain.aside)
  word_cases _ _ (Moves client table key position at plain) idle commits = idle _ _ tt (aside_idle _ plain.aside)
  word_cases _ _ (Collects client bucket prefix seen at plain) idle commits =
      idle _ _ tt (aside_idle _ plain.aside)
  word_cases _ _ (Begins client txn nth at) idle commits =
      idle _ _ tt (begins_idle shape (go client (Beginning txn nth at)) txn nth (snap_after shape.workers at found)).0
  word_cases _ _ (Snaps client bucket at) idle commits =
      idle _ _ tt (snaps_idle shape (go client (Snapping bucket at)) bucket (snap_after shape.workers at found)).0
  word_cases _ _ (Commits client attempt at) idle commits = commits client attempt at

-- 3. A call is asked

module _ (shape : Shape) where
  -- a commit that is asked has published nothing
  pub asked_unpublished : (before after : ClientState) → AskOf shape before after
      → has_published after.call ≡ false
  asked_unpublished _ _ (AsksPlain client asked plain unread) = idle_unpublished _ (aside_idle _ plain.aside)
  asked_unpublished _ _ (AsksBegin client txn nth) = refl
  asked_unpublished _ _ (AsksCollect client bucket) = refl
  asked_unpublished _ _ (AsksCommit client attempt) =
      let before = record client { txn = Some attempt } in
      ask_commit_goes (λ (step : Stepped). has_published (stepped before attempt 0 step).call ≡ false) attempt.state
      shape (λ e. refl) (λ e f. refl) (λ e f tells. refl) (λ e f untold. refl)
