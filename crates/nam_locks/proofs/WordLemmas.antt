-- A word that a client takes keeps what is said of locks, by the sorts of steps.
use Rattle.std.proofs.Common.{List, Some, ap, length, subst, sym, ℕ, ◌+◌, ◌<◌, ◌∙◌, ◌≡◌}
use Rattle.std.specs.Prelude.{slice_get, slice_set}
use Rattle.nam_catalog.specs.Fits.{FitsLimits}
use Rattle.nam_catalog.specs.declared.shape.Shape.{Shape}
use Rattle.nam_ghost.proofs.IdleLemmas.{aside_idle, begins_idle, idle_chains, idle_holder, same_place, snaps_idle}
use Rattle.nam_ghost.proofs.IdleLemmas.{stepped_holder}
use Rattle.nam_ghost.specs.Holders.{Holder, holder_now, holder_of, no_holder}
use Rattle.nam_ghost.specs.Idle.{IsIdle, Verb}
use Rattle.nam_ghost.specs.Locks.{AreHeld, HolderOk}
use Rattle.nam_ghost.specs.Steps.{chains_after, commit_chains}
use Rattle.nam_ghost.specs.Versions.{Chain}
use Rattle.nam_layout.specs.declared.field.Field.{Field}
use Rattle.nam_locks.proofs.CommitLemmas.{commit_locks}
use Rattle.nam_locks.proofs.HolderLemmas.{holder_spared, looks, still_spared}
use Rattle.nam_locks.proofs.RowLemmas.{not_collects, not_key, not_moves, row_same}
use Rattle.nam_locks.specs.Rows.{SameRows, current_row}
use Rattle.nam_protocol.specs.Commit.{commit_after}
use Rattle.nam_protocol.specs.Reader.{reader_at}
use Rattle.nam_protocol.specs.Sorts.{Begins, Collects, Commits, Finds, IsKeyPlace, Moves, Reads, Snaps, StepOf}
use Rattle.nam_protocol.specs.Sorts.{committing_at, word_taken}
use Rattle.nam_protocol.specs.Telling.{go, stepped}
use Rattle.nam_protocol.specs.Txn.{Stepped}
use Rattle.nam_protocol.specs.declared.client.CallPoint.{CallPoint}
use Rattle.nam_protocol.specs.declared.client.CallPoint.TheVariants.{Beginning, Collecting, InTxn, Moving, Snapping}
use Rattle.nam_protocol.specs.declared.client.ClientState.{ClientState}
use Rattle.nam_protocol.specs.declared.client.Open.{Open}
use Rattle.nam_protocol.specs.declared.txn.CommitPoint.{CommitPoint}
use Rattle.nam_protocol.specs.declared.txn.TxnPoint.TheVariants.{Committing}
use Rattle.nam_store.proofs.KindsLemmas.{finds_aside, finds_write, reads_aside, reads_write}
use Rattle.nam_store.specs.Base.{ClientOk}
use Rattle.nam_store.specs.Kinds.{MayWrite}
use Rattle.nam_store.specs.Store.{next_verb}
use Rattle.nam_vector.specs.Snap.{snap_after}
use Rattle.nam_verbs.specs.VerbAt.{found_at}
use Rattle.nam_verbs.specs.declared.now.Now.TheVariants.{At}

-- 1. A word is taken, by the sorts

module _ (shape : Shape) (limits : FitsLimits shape) (m now : Field → ℕ) (chains : ℕ → Chain) (holders : List Holder)
    (ok : AreHeld shape m chains holders) (nth : ℕ) (within : nth < shape.workers) where
  abbrev Comes : (ℕ → Chain) → ClientState → Type 0
  Comes later after = AreHeld shape now later (slice_set holders nth (holder_of after))

  -- no commit runs, before or after
  idle_word : (before after : ClientState) (place : CallPoint) (found : ℕ)
      → slice_get holders nth ≡ Some (holder_of before) → before.call ≡ Some (At place) → IsIdle (Some (At place))
      → IsIdle after.call → after.worker ≡ before.worker
      → ((field : Field) (row : ℕ) → current_row field ≡ Some row → MayWrite (nth + 1) place field → ⊥)
      → Verb shape m now nth before place → Comes (chains_after before.txn place found chains) after
  idle_word before after place found here at idle later worker unwritten verb =
      let same : SameRows shape m now = λ row is. row_same shape m now row is
      (λ field at_row of_shape. verb.kinds field of_shape (unwritten field row at_row)) in
      let was : holder_of before ≡ no_holder before.worker =
      idle_holder before.worker before.call before.txn (subst IsIdle (sym at) idle) in
      let is : holder_of after ≡ no_holder before.worker =
      idle_holder after.worker after.call after.txn later ∙ ap no_holder worker in
      subst (λ c. Comes c after) (sym (idle_chains before.txn place found chains idle))
      (looks shape m chains holders ok nth (holder_of before) here now (holder_of after) same
      (subst (HolderOk shape now chains nth) (was ∙ sym is)
      (holder_spared shape m now chains chains nth (holder_of before) (still_spared shape m now chains nth same)
      (ok.each nth (holder_of before) here))))

  commit_word : (client : ClientState) (attempt : Open) (at : CommitPoint) (found : ℕ)
      → let before = committing_at client attempt at in
      slice_get holders nth ≡ Some (holder_of before) → ClientOk shape nth before
      → found ≡ found_at m (next_verb shape before) → Verb shape m now nth before (InTxn (Committing at))
      → Comes (commit_chains attempt.state at found chains)
      (stepped before attempt (length attempt.state.held) (commit_after attempt.state at found))
  commit_word client attempt at found here own is verb =
      let before = committing_at client attempt at in
      let state = attempt.state in
      let next : Stepped = commit_after state at found in
      let seen = stepped_holder before attempt (length state.held) next
      ∙ ap (λ w. holder_now w next.state next.call) (sym own.own.opened.worker_is) in
      subst (λ (holder : Holder). AreHeld shape now (commit_chains state at found chains)
      (slice_set holders nth holder)) (sym seen)
      (subst (λ (x : ℕ). AreHeld shape now (commit_chains state at x chains) (slice_set holders nth
      (let step = commit_after state at x in holder_now state.worker step.state step.call))) (sym is)
      (commit_locks shape limits m now chains holders ok nth within state own.fits.1 at here own.fits.2 own.stage
      (verb.changed, verb.leaves)))

  pub takes_word : (found : ℕ) (before after : ClientState) (place : CallPoint) → StepOf shape found before after
      → before.call ≡ Some (At place) → slice_get holders nth ≡ Some (holder_of before) → ClientOk shape nth before
      → found ≡ found_at m (next_verb shape before) → Verb shape m now nth before place
      → Comes (chains_after before.txn place found chains) after
  takes_word found _ _ place (Finds client point is plain anew) at here own e verb =
      let same = same_place place point at in
      let idle = aside_idle (Some (At place)) (finds_aside place (subst IsKeyPlace (sym same) is)) in
      idle_word (go client point) (word_taken shape found client point) place found here at idle
      (aside_idle _ plain.aside) plain.worker
      (λ field row at_row may. not_key field row at_row
      (finds_write (nth + 1) place field (subst IsKeyPlace (sym same) is) may)) verb
  takes_word found _ _ place (Reads client point reader is plain on) at here own e verb =
      let same = same_place place point at in
      let reads = subst (λ p. reader_at shape client.txn p ≡ Some reader) (sym same) is in
      let idle = aside_idle (Some (At place)) (reads_aside shape client.txn place reader reads) in
      idle_word (go client point) (word_taken shape found client point) place found here at idle
      (aside_idle _ plain.aside) plain.worker
      (λ field row at_row may. reads_write shape (nth + 1) client.txn place reader field reads may) verb
  takes_word found _ _ place (Moves client table key position at_point plain) at here own e verb =
      let point = Moving table key position at_point in
      let same = same_place place point at in
      idle_word (go client point) (word_taken shape found client point) place found here at
      (subst (λ p. IsIdle (Some (At p))) (sym same) tt) (aside_idle _ plain.aside) plain.worker
      (λ field row at_row may. not_moves field row at_row (subst (λ p. MayWrite (nth + 1) p field) same may)) verb
  takes_word found _ _ place (Collects client bucket prefix seen at_point plain) at here own e verb =
      let point = Collecting bucket prefix seen at_point in
      let same = same_place place point at in
      idle_word (go client point) (word_taken shape found client point) place found here at
      (subst (λ p. IsIdle (Some (At p))) (sym same) tt) (aside_idle _ plain.aside) plain.worker
      (λ field row at_row may. not_collects field row at_row (subst (λ p. MayWrite (nth + 1) p field) same may)) verb
  takes_word found _ _ place (Begins client txn number at_point) at here own e verb =
      let point = Beginning txn number at_point in
      let same = same_place place point at in
      let after = begins_idle shape (go client point) txn number (snap_after shape.workers at_point found) in
      idle_word (go client point) (word_taken shape found client point) place found here at
      (subst (λ p. IsIdle (Some (At p))) (sym same) tt) after.0 after.1
      (λ field row at_row may. subst (λ p. MayWrite (nth + 1) p field) same may) verb
  takes_word found _ _ place (Snaps client bucket at_point) at here own e verb =
      let point = Snapping bucket at_point in
      let same = same_place place point at in
      let after = snaps_idle shape (go client point) bucket (snap_after shape.workers at_point found) in
      idle_word (go client point) (word_taken shape found client point) place found here at
      (subst (λ p. IsIdle (Some (At p))) (sym same) tt) after.0 after.1
      (λ field row at_row may. subst (λ p. MayWrite (nth + 1) p field) same may) verb
  takes_word found _ _ place (Commits client attempt point) at here own e verb =
      let same = same_place place (InTxn (Committing point)) at in
      subst (λ p. Comes (chains_after (Some attempt) p found chains) (stepped (committing_at client attempt point)
      attempt (length attempt.state.held) (commit_after attempt.state point found))) (sym same)
      (commit_word client attempt point found here own e
      (subst (Verb shape m now nth (committing_at client attempt point)) same verb))
