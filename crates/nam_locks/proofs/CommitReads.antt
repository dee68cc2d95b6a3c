-- What becomes of the claims on a commit itself with each word that it takes: where it only reads, and after a header
-- was written back.
use Rattle.std.proofs.Common.{List, None, Option, Some, [], arith, false, length, refl, subst, sym, ℕ, ◌++◌, ◌+◌, ◌<◌}
use Rattle.std.proofs.Common.{◌==◌, ◌∙◌, ◌∷◌, ◌≡◌, ◌≤◌}
use Rattle.std.proofs.lemmas.Bool.{eqb-true}
use Rattle.std.proofs.lemmas.List.{get_or_append_left}
use Rattle.nam_calls.proofs.GoesTests.{give_back_goes, peek_goes, slot_goes}
use Rattle.nam_calls.specs.Lock.{give_back}
use Rattle.nam_calls.specs.Record.{install_begin}
use Rattle.nam_calls.specs.declared.lock.LockPoint.TheVariants.{GiveBack, Peek}
use Rattle.nam_calls.specs.declared.ring.CopyPoint.{CopyPoint}
use Rattle.nam_calls.specs.declared.ring.SlotPoint.TheVariants.{CheckCount, CheckHead}
use Rattle.nam_catalog.specs.declared.shape.Shape.{Shape}
use Rattle.nam_ghost.specs.Holders.{Holder, counted_in, dirty_in, from_at, holder_at, holder_now, no_holder, record_row}
use Rattle.nam_ghost.specs.Holders.{words_in}
use Rattle.nam_ghost.specs.Locks.{HolderOk, RowOk}
use Rattle.nam_ghost.specs.Versions.{Chain}
use Rattle.nam_layout.specs.declared.field.Field.{Field}
use Rattle.nam_layout.specs.declared.field.Field.TheVariants.{Count}
use Rattle.nam_locks.proofs.HolderKinds.{counts_more, holds_nothing, recounts}
use Rattle.nam_protocol.proofs.GoesCommit.{next_count_goes, next_free_goes, on_copy_goes, on_list_goes, on_words_goes}
use Rattle.nam_protocol.proofs.GoesCommit.{refused_goes, with_count}
use Rattle.nam_protocol.specs.Commit.{checked, commit_after, go, on_lock, on_slot, places, record_place, refused}
use Rattle.nam_protocol.specs.Commit.{tells_intent, value_at}
use Rattle.nam_protocol.specs.Txn.{Stepped}
use Rattle.nam_protocol.specs.declared.txn.CommitPoint.{CommitPoint}
use Rattle.nam_protocol.specs.declared.txn.CommitPoint.TheVariants.{Checking, Clearing, Copying, Counting, Ending}
use Rattle.nam_protocol.specs.declared.txn.CommitPoint.TheVariants.{Listing, Locking, Publishing, Saving}
use Rattle.nam_protocol.specs.declared.txn.ListPoint.{ListPoint}
use Rattle.nam_protocol.specs.declared.txn.Refusal.{Refusal}
use Rattle.nam_protocol.specs.declared.txn.TxnState.{TxnState}
use Rattle.nam_verbs.proofs.TestLemmas.{by_test}

module _ (shape : Shape) (m : Field → ℕ) (chains : ℕ → Chain) (nth : ℕ) (state : TxnState) where
  -- what is said of the commit at a point, and of what a step has come to
  abbrev pub Own : CommitPoint → Type 0
  Own at = HolderOk shape m chains nth (holder_at state at)

  abbrev pub OwnAfter : Stepped → Type 0
  OwnAfter step = HolderOk shape m chains nth (holder_now state.worker step.state step.call)

  -- 1. Nothing is held any more

  module _ (at : CommitPoint) (own : Own at) (past : length state.held ≤ from_at state at) where
    pub nothing_left : HolderOk shape m chains nth (no_holder state.worker)
    nothing_left =
        holds_nothing shape m chains nth (holder_at state at) own (no_holder state.worker) past own.worker
        (omega arith) (λ p less. absurd (omega arith))

    -- the commit is refused, which an intent may have to be cleared for
    pub refuses : (refusal : Refusal) → OwnAfter (refused state refusal)
    refuses refusal =
        refused_goes OwnAfter state refusal
        (λ tells. holds_nothing shape m chains nth (holder_at state at) own (holder_at state (Clearing refusal)) past
        own.worker (omega arith) (λ p less. absurd (omega arith)))
        (λ untold. nothing_left)

  -- a lock was missed: those that are held are given back one by one
  pub gives_back : (given found : ℕ) → Own (Locking (GiveBack given found))
      → OwnAfter (on_lock state (give_back (places state) state.held given found))
  gives_back given found own =
      let at = Locking (GiveBack given found) in
      give_back_goes (λ now. OwnAfter (on_lock state now)) (places state) state.held given found
      (λ all locked. refuses at own (omega arith) _) (λ all newer. refuses at own (omega arith) _) (λ more. own)

  -- 2. Points that read

  pub lists : (at : ListPoint) (found : ℕ) → Own (Listing at) → OwnAfter (commit_after state (Listing at) found)
  lists at found own = on_list_goes OwnAfter state _ (λ next e. own) (λ e. own)

  -- a header is read
  pub peeks : (found : ℕ) → Own (Locking Peek) → OwnAfter (commit_after state (Locking Peek) found)
  peeks found own =
      peek_goes (λ now. OwnAfter (on_lock state now)) (places state) state.seen state.held found
      (λ locked. gives_back 0 found own) (λ free sees. own) (λ free newer. gives_back 0 found own)

  -- a count is read
  pub looks_up : Own (Checking CheckCount) → length state.counts < length state.held
      → RowOk shape m chains (record_row state (length state.counts))
      → OwnAfter (commit_after state (Checking CheckCount) (m (Count (record_row state (length state.counts)))))
  looks_up own less row_ok =
      counts_more shape m chains nth (holder_at state (Checking CheckCount)) own
      (m (Count (record_row state (length state.counts)))) refl refl record { begins = omega arith; ends = less }
      row_ok refl

  -- a slot's header is read: the number counts, unless the slot isn't free
  pub checks : (count found : ℕ) → Own (Checking (CheckHead count))
      → OwnAfter (commit_after state (Checking (CheckHead count)) found)
  checks count found own =
      let next = with_count state count in
      slot_goes (λ now. OwnAfter (on_slot state now)) (record_place state (length state.counts)) count found
      (λ free. by_test OwnAfter (length next.counts == length state.writes) (checked next)
      (go next (Checking CheckCount))
      (λ all. by_test OwnAfter (tells_intent next) (go next (Counting 0)) (go next (Saving 0 [])) (λ tells. own)
      (λ untold. own))
      (λ more. own))
      (λ full. recounts shape m chains nth (holder_at state (Checking (CheckHead count))) own state.counts
      (λ p holds less. sym (get_or_append_left state.counts (count ∷ []) 0 p less)
      ∙ (own.held p holds).count_is (let l = length_more state.counts count in omega arith)))
    where
      length_more : (counts : List ℕ) (count : ℕ) → length counts ≤ length (counts ++ count ∷ [])
      length_more [] count = omega arith
      length_more (c ∷ cs) count = let l = length_more cs count in omega arith

  pub counts : (number found : ℕ) → Own (Counting number)
      → OwnAfter (commit_after state (Counting number) found)
  counts number found own = next_count_goes OwnAfter state (number + 1) (λ e. own) (λ e. own)

  -- a data word is read
  pub saves : (p : ℕ) (got : List ℕ) (found : ℕ) → Own (Saving p got)
      → OwnAfter (commit_after state (Saving p got) found)
  saves p got found own = on_words_goes OwnAfter state p _ (λ next e. own) (λ old e. own)

  -- 3. Points that write elsewhere

  -- the old version is copied, then the new one's first word follows
  install_starts : (value : Option (List ℕ)) (width : ℕ)
      → (words_in value width (install_begin value) ≡ 0) × (dirty_in value (install_begin value) ≡ false)
      × (counted_in (install_begin value) ≡ false)
  install_starts None width = (refl, refl, refl)
  install_starts (Some value) width = (refl, refl, refl)

  pub copies : (p : ℕ) (old : List ℕ) (at : CopyPoint) (found : ℕ) → Own (Copying p old at)
      → OwnAfter (commit_after state (Copying p old at) found)
  copies p old at found own =
      on_copy_goes OwnAfter state p old _ (λ next e. own)
      (λ e. let starts = install_starts (value_at state p) (record_place state p).width in
      subst (λ (holder : Holder). HolderOk shape m chains nth holder)
      (λ k. record (holder_at state (Copying p old at)) {
        words = sym starts.0 k;
        dirty = sym starts.1 k;
        counted = sym starts.2 k;
      }) own)

  -- all is done: an intent may have to be cleared
  pub ends : (at : CommitPoint) → Own at → length state.held ≤ from_at state at
      → (holder_at state at).done ≡ length state.writes → OwnAfter (go state Ending)
  ends at own past done =
      holds_nothing shape m chains nth (holder_at state at) own (holder_at state Ending) past own.worker (omega arith)
      (λ p less. own.installed p (omega arith))

  -- the number is published
  pub publishes : (found : ℕ) → length state.held ≡ length state.records → Own Publishing
      → OwnAfter (commit_after state Publishing found)
  publishes found held own =
      next_free_goes OwnAfter state (length state.writes)
      (λ e tells. let all = eqb-true _ _ e in ends Publishing own (omega arith) refl)
      (λ e untold. let all = eqb-true _ _ e in nothing_left Publishing own (omega arith)) (λ e. own)
