-- A step takes a lock exactly where an exchange of a header is won.
use Rattle.std.proofs.Common.{◌≡◌, ℕ, ◌+◌, List, [], ◌∷◌, ◌++◌, refl, subst, inl, inr, ◌⊎◌}
use Rattle.nam_calls.specs.declared.lock.LockPoint.{LockPoint}
use Rattle.nam_calls.specs.declared.lock.LockPoint.TheVariants.{Peek, Seize, GiveBack}
use Rattle.nam_calls.specs.Lock.{give_back, lock_after}
use Rattle.nam_calls.proofs.GoesTests.{give_back_goes, peek_goes, seize_goes}
use Rattle.nam_protocol.specs.declared.txn.TxnState.{TxnState}
use Rattle.nam_protocol.specs.declared.txn.CommitPoint.{CommitPoint}
use Rattle.nam_protocol.specs.declared.txn.CommitPoint.TheVariants.{Locking, Checking, Returning, Saving, Copying}
use Rattle.nam_protocol.specs.declared.txn.CommitPoint.TheVariants.{Installing, Publishing, Freeing}
use Rattle.nam_protocol.specs.declared.txn.CommitPoint.TheVariants.{Listing, Counting, Deciding, Clearing, Ending}
use Rattle.nam_protocol.specs.declared.txn.Refusal.{Refusal}
use Rattle.nam_protocol.specs.Txn.{Stepped}
use Rattle.nam_protocol.specs.Commit.{commit_after, on_lock, refused, places}
use Rattle.nam_protocol.proofs.GoesCommit.{refused_goes, on_list_goes, on_slot_goes, on_return_goes, next_count_goes}
use Rattle.nam_protocol.proofs.GoesCommit.{on_words_goes, on_copy_goes, on_install_goes, next_free_goes}
use Rattle.nam_commit.specs.HeldLaw.{HeldLaw, IsTaken}

module _ (state : TxnState) (at : CommitPoint) (found : ℕ) where
  abbrev Holds : Stepped → Type 0
  Holds step = (step.state.held ≡ state.held) ⊎ IsTaken state step.state at found

  refused_holds : (refusal : Refusal) → Holds (refused state refusal)
  refused_holds refusal = refused_goes Holds state refusal (λ e. inl refl) (λ e. inl refl)

  back_holds : (given word : ℕ) → Holds (on_lock state (give_back (places state) state.held given word))
  back_holds given word =
      give_back_goes (λ now. Holds (on_lock state now)) (places state) state.held given word
      (λ e f. refused_holds _) (λ e f. refused_holds _) (λ e. inl refl)

  -- a lock that was taken under this header
  taken : (header : ℕ) → at ≡ Locking (Seize header) → found ≡ header
      → (after : TxnState) → after.held ≡ state.held ++ header ∷ [] → IsTaken state after at found
  taken header is same after held =
      subst (λ h. (at ≡ Locking (Seize h)) → (after.held ≡ state.held ++ h ∷ []) → IsTaken state after at found) same
      (λ p q. record { point = p; held = q }) is held

lock_holds : (state : TxnState) (at : LockPoint) (found : ℕ)
    → Holds state (Locking at) found (on_lock state (lock_after (places state) state.seen state.held at found))
lock_holds state Peek found =
    peek_goes (λ now. Holds state (Locking Peek) found (on_lock state now)) (places state) state.seen state.held found
    (λ e. back_holds state (Locking Peek) found 0 found) (λ free sees. inl refl)
    (λ e f. back_holds state (Locking Peek) found 0 found)
lock_holds state (Seize header) found =
    seize_goes (λ now. Holds state (Locking (Seize header)) found (on_lock state now)) (places state) state.seen
    state.held header found (λ e f. inr (taken state (Locking (Seize header)) found header refl e _ refl))
    (λ e f. inr (taken state (Locking (Seize header)) found header refl e _ refl))
    (λ e. back_holds state (Locking (Seize header)) found 0 found)
lock_holds state (GiveBack given lost) found =
    back_holds state (Locking (GiveBack given lost)) found (given + 1) lost

pub held_more : HeldLaw
held_more state (Listing at) found =
    on_list_goes (Holds state (Listing at) found) state _ (λ next e. inl refl) (λ e. inl refl)
held_more state (Locking at) found = lock_holds state at found
held_more state (Checking at) found =
    on_slot_goes (Holds state (Checking at) found) state _ (λ next e. inl refl) (λ count e f t. inl refl)
    (λ count e f t. inl refl) (λ count e f. inl refl) (λ slot word e. inl refl)
held_more state (Returning given full) found =
    on_return_goes (Holds state (Returning given full) found) state full _ (λ next e. inl refl) (λ e f. inl refl)
    (λ e f. inl refl)
held_more state (Counting nth) found =
    next_count_goes (Holds state (Counting nth) found) state (nth + 1) (λ e. inl refl) (λ e. inl refl)
held_more state Deciding found = inl refl
held_more state (Saving nth got) found =
    on_words_goes (Holds state (Saving nth got) found) state nth _ (λ more e. inl refl) (λ old e. inl refl)
held_more state (Copying nth old at) found =
    on_copy_goes (Holds state (Copying nth old at) found) state nth old _ (λ next e. inl refl) (λ e. inl refl)
held_more state (Installing nth at) found =
    on_install_goes (Holds state (Installing nth at) found) state nth _ (λ next e. inl refl) (λ e f. inl refl)
    (λ e f. inl refl)
held_more state Publishing found =
    next_free_goes (Holds state Publishing found) state _ (λ e f. inl refl) (λ e f. inl refl) (λ e. inl refl)
held_more state (Freeing nth) found =
    next_free_goes (Holds state (Freeing nth) found) state _ (λ e f. inl refl) (λ e f. inl refl) (λ e. inl refl)
held_more state (Clearing refusal) found = inl refl
held_more state Ending found = inl refl
