-- Where a commit goes on: first by what each of its steps has come to, then of each point whole.
use Rattle.std.proofs.Common.{◌≡◌, ℕ, ◌+◌, true, false, List, [], ◌∷◌, ◌++◌, length, None, refl}
use Rattle.std.specs.Prelude.{◌==◌}
use Rattle.std.proofs.Common.{inl, inr, ◌⊎◌}
use Rattle.std.proofs.lemmas.Bool.{cond_both}
use Rattle.si_model.specs.declared.log.Lock.{Lock}
use Rattle.nam_verbs.specs.declared.now.Now.{Now}
use Rattle.nam_verbs.specs.declared.now.Now.TheVariants.{At, Over}
use Rattle.nam_catalog.specs.declared.shape.Shape.{Shape}
use Rattle.nam_catalog.specs.Greatest.{greatest_number}
use Rattle.nam_calls.specs.declared.lock.LockPoint.{LockPoint}
use Rattle.nam_calls.specs.declared.lock.LockPoint.TheVariants.{Peek, Seize, GiveBack}
use Rattle.nam_calls.specs.declared.lock.Locks.{Locks}
use Rattle.nam_calls.specs.declared.lock.LockEnd.{LockEnd}
use Rattle.nam_calls.specs.declared.ring.SlotPoint.{SlotPoint}
use Rattle.nam_calls.specs.declared.ring.SlotPoint.TheVariants.{CheckCount}
use Rattle.nam_calls.specs.declared.ring.SlotEnd.{SlotEnd}
use Rattle.nam_calls.specs.declared.ring.SlotEnd.TheVariants.{Free, NotMoved}
use Rattle.nam_calls.specs.declared.ring.CopyPoint.{CopyPoint}
use Rattle.nam_calls.specs.declared.ring.CopyPoint.TheVariants.{CopyMark}
use Rattle.nam_calls.specs.declared.record.InstallPoint.{InstallPoint}
use Rattle.nam_calls.specs.Lock.{give_back}
use Rattle.nam_calls.specs.Record.{install_begin}
use Rattle.nam_calls.proofs.GoesTests.{give_back_goes, peek_goes, seize_goes}
use Rattle.nam_calls.specs.declared.lock.LockEnd.TheVariants as lock_end
use Rattle.nam_protocol.specs.declared.txn.TxnState.{TxnState}
use Rattle.nam_protocol.specs.declared.txn.TxnAnswer.{TxnAnswer}
use Rattle.nam_protocol.specs.declared.txn.TxnAnswer.TheVariants.{ReadOnly, Spent, Committed, Locked, Newer, Full}
use Rattle.nam_protocol.specs.declared.txn.ListPoint.{ListPoint}
use Rattle.nam_protocol.specs.declared.txn.Refusal.{Refusal}
use Rattle.nam_protocol.specs.declared.txn.Refusal.TheVariants as refusal
use Rattle.nam_protocol.specs.declared.txn.CommitPoint.{CommitPoint}
use Rattle.nam_protocol.specs.declared.txn.CommitPoint.TheVariants.{Locking, Checking, Returning, Saving, Copying}
use Rattle.nam_protocol.specs.declared.txn.CommitPoint.TheVariants.{Installing, Publishing, Freeing}
use Rattle.nam_protocol.specs.declared.txn.CommitPoint.TheVariants.{Listing, Counting, Deciding, Clearing, Ending}
use Rattle.nam_protocol.specs.Txn.{Stepped, over}
use Rattle.nam_protocol.specs.Commit.{go, lock_at, places, value_at, tells_intent}
use Rattle.nam_protocol.specs.Commit.{list_begin, committing, ask_commit, refusal_answer, refused}
use Rattle.nam_protocol.specs.Commit.{on_list, on_lock, on_slot, on_return, next_count, on_words, on_copy, on_install}
use Rattle.nam_protocol.specs.Commit.{next_free, commit_after}

-- the state with these locks, and with one more count
abbrev pub holding_locks : TxnState → List ℕ → TxnState
holding_locks state headers = record state { held = headers }

abbrev pub with_count : TxnState → ℕ → TxnState
with_count state count = record state { counts = state.counts ++ count ∷ [] }

module _ (P : Stepped → Type 0) (state : TxnState) where
  -- 1. The commit is asked

  pub ask_commit_goes : (shape : Shape)
      → ((length state.writes == 0) ≡ true → P (over (record state { read = None }) ReadOnly))
      → ((length state.writes == 0) ≡ false → (state.last == greatest_number shape.form) ≡ true
      → P (over (record state { read = None }) Spent))
      → ((length state.writes == 0) ≡ false → (state.last == greatest_number shape.form) ≡ false
      → tells_intent (committing state) ≡ true → P (go (committing state) (Listing list_begin)))
      → ((length state.writes == 0) ≡ false → (state.last == greatest_number shape.form) ≡ false
      → tells_intent (committing state) ≡ false → P (go (committing state) (Locking Peek)))
      → P (ask_commit shape state)
  ask_commit_goes shape read_only spent listing locking =
      cond_both (length state.writes == 0) _ _ P read_only
      (λ e. cond_both (state.last == greatest_number shape.form) _ _ P (spent e)
      (λ f. cond_both (tells_intent (committing state)) _ _ (λ place. P (go (committing state) place)) (listing e f)
      (locking e f)))

  -- 2. By what a step has come to

  pub refused_goes : (refusal : Refusal) → (tells_intent state ≡ true → P (go state (Clearing refusal)))
      → (tells_intent state ≡ false → P (over state (refusal_answer refusal)))
      → P (refused state refusal)
  refused_goes refusal clearing done = cond_both (tells_intent state) _ _ P clearing done

  pub on_list_goes : (now : Now ListPoint (Unit {0}))
      → ((place : ListPoint) → now ≡ At place → P (go state (Listing place)))
      → (now ≡ Over tt → P (go state (Locking Peek)))
      → P (on_list state now)
  on_list_goes (At place) stays done = stays place refl
  on_list_goes (Over tt) stays done = done refl

  pub on_lock_goes : (now : Now Locks LockEnd)
      → ((locks : Locks) → now ≡ At locks → P (go (holding_locks state locks.held) (Locking locks.at)))
      → ((headers : List ℕ) → now ≡ Over (lock_end.Held headers)
      → P (go (holding_locks state headers) (Checking CheckCount)))
      → ((nth found : ℕ) → now ≡ Over (lock_end.Locked nth found)
      → P (refused state (refusal.Locked (lock_at state nth found))))
      → ((nth found : ℕ) → now ≡ Over (lock_end.Newer nth found)
      → P (refused state (refusal.Newer (lock_at state nth found))))
      → P (on_lock state now)
  on_lock_goes (At locks) stays held locked newer = stays locks refl
  on_lock_goes (Over (lock_end.Held headers)) stays held locked newer = held headers refl
  on_lock_goes (Over (lock_end.Locked nth found)) stays held locked newer = locked nth found refl
  on_lock_goes (Over (lock_end.Newer nth found)) stays held locked newer = newer nth found refl

  pub on_slot_goes : (now : Now SlotPoint SlotEnd)
      → ((place : SlotPoint) → now ≡ At place → P (go state (Checking place)))
      → ((count : ℕ) → now ≡ Over (Free count) → (length (state.counts ++ count ∷ []) == length state.writes) ≡ true
      → tells_intent state ≡ true → P (go (with_count state count) (Counting 0)))
      → ((count : ℕ) → now ≡ Over (Free count) → (length (state.counts ++ count ∷ []) == length state.writes) ≡ true
      → tells_intent state ≡ false → P (go (with_count state count) (Saving 0 [])))
      → ((count : ℕ) → now ≡ Over (Free count) → (length (state.counts ++ count ∷ []) == length state.writes) ≡ false
      → P (go (with_count state count) (Checking CheckCount)))
      → ((slot found : ℕ) → now ≡ Over (NotMoved slot found)
      → P (go state (Returning 0 (lock_at state (length state.counts) found))))
      → P (on_slot state now)
  on_slot_goes (At place) stays tells last next full = stays place refl
  on_slot_goes (Over (Free count)) stays tells last next full =
      cond_both (length (state.counts ++ count ∷ []) == length state.writes) _ _ P
      (λ e. cond_both (tells_intent state) _ _ P (tells count refl e) (last count refl e)) (next count refl)
  on_slot_goes (Over (NotMoved slot found)) stays tells last next full = full slot found refl

  pub on_return_goes : (full : Lock) (now : Now ℕ (Unit {0}))
      → ((given : ℕ) → now ≡ At given → P (go state (Returning given full)))
      → (now ≡ Over tt → tells_intent state ≡ true → P (go state (Clearing (refusal.Full full))))
      → (now ≡ Over tt → tells_intent state ≡ false → P (over state (Full full)))
      → P (on_return state full now)
  on_return_goes full (At given) stays clearing done = stays given refl
  on_return_goes full (Over tt) stays clearing done = refused_goes (refusal.Full full) (clearing refl) (done refl)

  pub next_count_goes : (nth : ℕ)
      → ((nth == length state.writes) ≡ true → P (go state Deciding))
      → ((nth == length state.writes) ≡ false → P (go state (Counting nth)))
      → P (next_count state nth)
  next_count_goes nth last next = cond_both (nth == length state.writes) _ _ P last next

  pub on_words_goes : (nth : ℕ) (now : Now (List ℕ) (List ℕ))
      → ((got : List ℕ) → now ≡ At got → P (go state (Saving nth got)))
      → ((old : List ℕ) → now ≡ Over old → P (go state (Copying nth old CopyMark)))
      → P (on_words state nth now)
  on_words_goes nth (At got) stays done = stays got refl
  on_words_goes nth (Over old) stays done = done old refl

  pub on_copy_goes : (nth : ℕ) (old : List ℕ) (now : Now CopyPoint (Unit {0}))
      → ((place : CopyPoint) → now ≡ At place → P (go state (Copying nth old place)))
      → (now ≡ Over tt → P (go state (Installing nth (install_begin (value_at state nth)))))
      → P (on_copy state nth old now)
  on_copy_goes nth old (At place) stays done = stays place refl
  on_copy_goes nth old (Over tt) stays done = done refl

  pub on_install_goes : (nth : ℕ) (now : Now InstallPoint (Unit {0}))
      → ((place : InstallPoint) → now ≡ At place → P (go state (Installing nth place)))
      → (now ≡ Over tt → (nth + 1 == length state.writes) ≡ true → P (go state Publishing))
      → (now ≡ Over tt → (nth + 1 == length state.writes) ≡ false → P (go state (Saving (nth + 1) [])))
      → P (on_install state nth now)
  on_install_goes nth (At place) stays last next = stays place refl
  on_install_goes nth (Over tt) stays last next =
      cond_both (nth + 1 == length state.writes) _ _ P (last refl) (next refl)

  pub next_free_goes : (nth : ℕ)
      → ((nth == length state.records) ≡ true → tells_intent state ≡ true → P (go state Ending))
      → ((nth == length state.records) ≡ true → tells_intent state ≡ false
      → P (over state (Committed (state.last + 1))))
      → ((nth == length state.records) ≡ false → P (go state (Freeing nth)))
      → P (next_free state nth)
  next_free_goes nth ending done next =
      cond_both (nth == length state.records) _ _ P
      (λ e. cond_both (tells_intent state) _ _ P (ending e) (done e)) next

  -- 3. Each point whole

  -- where a commit may go on from a point, its state unchanged
  abbrev pub GoesTo : CommitPoint → CommitPoint → Type 0
  GoesTo (Listing at) next = ((later : ListPoint) × (next ≡ Listing later)) ⊎ (next ≡ Locking Peek)
  GoesTo (Locking at) next =
      ((later : LockPoint) × (next ≡ Locking later)) ⊎ ((refusal : Refusal) × (next ≡ Clearing refusal))
  GoesTo (Checking at) next =
      ((later : SlotPoint) × (next ≡ Checking later)) ⊎ ((full : Lock) × (next ≡ Returning 0 full))
  GoesTo (Returning given full) next =
      ((later : ℕ) × (next ≡ Returning later full)) ⊎ (next ≡ Clearing (refusal.Full full))
  GoesTo (Counting nth) next = (next ≡ Deciding) ⊎ (next ≡ Counting (nth + 1))
  GoesTo Deciding next = next ≡ Saving 0 []
  GoesTo (Saving nth got) next =
      ((more : List ℕ) × (next ≡ Saving nth more)) ⊎ ((old : List ℕ) × (next ≡ Copying nth old CopyMark))
  GoesTo (Copying nth old at) next =
      ((later : CopyPoint) × (next ≡ Copying nth old later))
      ⊎ (next ≡ Installing nth (install_begin (value_at state nth)))
  GoesTo (Installing nth at) next =
      ((later : InstallPoint) × (next ≡ Installing nth later))
      ⊎ ((next ≡ Publishing) ⊎ (next ≡ Saving (nth + 1) []))
  GoesTo Publishing next = (next ≡ Freeing (length state.writes)) ⊎ (next ≡ Ending)
  GoesTo (Freeing nth) next = (next ≡ Freeing (nth + 1)) ⊎ (next ≡ Ending)
  GoesTo (Clearing refusal) next = ⊥
  GoesTo Ending next = ⊥

  -- how it may be over there
  abbrev pub EndsAs : CommitPoint → TxnAnswer → Type 0
  EndsAs (Locking at) answer = (lock : Lock) × ((answer ≡ Locked lock) ⊎ (answer ≡ Newer lock))
  EndsAs (Returning given full) answer = answer ≡ Full full
  EndsAs Publishing answer = answer ≡ Committed (state.last + 1)
  EndsAs (Freeing nth) answer = answer ≡ Committed (state.last + 1)
  EndsAs (Clearing refusal) answer = answer ≡ refusal_answer refusal
  EndsAs Ending answer = answer ≡ Committed (state.last + 1)
  EndsAs _ answer = ⊥

  -- where a commit goes on from a slot that is free
  abbrev pub IsCounted : CommitPoint → Type 0
  IsCounted next = (next ≡ Counting 0) ⊎ ((next ≡ Saving 0 []) ⊎ (next ≡ Checking CheckCount))

  -- where a lock was missed, and after each that was given back
  back_goes : (at : LockPoint) (given found : ℕ)
      → ((next : CommitPoint) → GoesTo (Locking at) next → P (go state next))
      → ((answer : TxnAnswer) → EndsAs (Locking at) answer → P (over state answer))
      → P (on_lock state (give_back (places state) state.held given found))
  back_goes at given found stays answer =
      let lock = lock_at state (length state.held) found in
      let clears = λ (refusal : Refusal) (e : tells_intent state ≡ true). stays (Clearing refusal) (inr (refusal, refl)) in
      give_back_goes (λ now. P (on_lock state now)) (places state) state.held given found
      (λ e f. refused_goes (refusal.Locked lock) (clears (refusal.Locked lock))
      (λ t. answer (Locked lock) (lock, inl refl)))
      (λ e f. refused_goes (refusal.Newer lock) (clears (refusal.Newer lock))
      (λ t. answer (Newer lock) (lock, inr refl)))
      (λ e. stays (Locking (GiveBack given found)) (inl (GiveBack given found, refl)))

  -- after Publishing, and after each guard
  free_goes : (place : CommitPoint) (nth : ℕ)
      → GoesTo place (Freeing nth) → GoesTo place Ending → EndsAs place (Committed (state.last + 1))
      → ((next : CommitPoint) → GoesTo place next → P (go state next))
      → ((answer : TxnAnswer) → EndsAs place answer → P (over state answer))
      → P (next_free state nth)
  free_goes place nth frees ends_next ends stays answer =
      next_free_goes nth (λ e f. stays Ending ends_next) (λ e f. answer (Committed (state.last + 1)) ends)
      (λ e. stays (Freeing nth) frees)

  -- a count is added only where a slot was looked at, and a lock only where its header was exchanged
  pub commit_goes : (place : CommitPoint) (found : ℕ)
      → ((next : CommitPoint) → GoesTo place next → P (go state next))
      → ((header : ℕ) (next : CommitPoint) → place ≡ Locking (Seize header)
      → (next ≡ Locking Peek) ⊎ (next ≡ Checking CheckCount)
      → P (go (holding_locks state (state.held ++ header ∷ [])) next))
      → ((at : SlotPoint) (count : ℕ) (next : CommitPoint) → place ≡ Checking at → IsCounted next
      → P (go (with_count state count) next))
      → ((answer : TxnAnswer) → EndsAs place answer → P (over state answer))
      → P (commit_after state place found)
  commit_goes (Listing at) found stays held counted answer =
      on_list_goes _ (λ later e. stays (Listing later) (inl (later, refl))) (λ e. stays (Locking Peek) (inr refl))
  commit_goes (Locking Peek) found stays held counted answer =
      peek_goes (λ now. P (on_lock state now)) (places state) state.seen state.held found
      (λ e. back_goes Peek 0 found stays answer) (λ e f. stays (Locking (Seize found)) (inl (Seize found, refl)))
      (λ e f. back_goes Peek 0 found stays answer)
  commit_goes (Locking (Seize header)) found stays held counted answer =
      seize_goes (λ now. P (on_lock state now)) (places state) state.seen state.held header found
      (λ e f. held header (Checking CheckCount) refl (inr refl)) (λ e f. held header (Locking Peek) refl (inl refl))
      (λ e. back_goes (Seize header) 0 found stays answer)
  commit_goes (Locking (GiveBack given lost)) found stays held counted answer =
      back_goes (GiveBack given lost) (given + 1) lost stays answer
  commit_goes (Checking at) found stays held counted answer =
      on_slot_goes _ (λ later e. stays (Checking later) (inl (later, refl)))
      (λ count e f g. counted at count (Counting 0) refl (inl refl))
      (λ count e f g. counted at count (Saving 0 []) refl (inr (inl refl)))
      (λ count e f. counted at count (Checking CheckCount) refl (inr (inr refl)))
      (λ slot word e. let full = lock_at state (length state.counts) word in
      stays (Returning 0 full) (inr (full, refl)))
  commit_goes (Returning given full) found stays held counted answer =
      on_return_goes full _ (λ later e. stays (Returning later full) (inl (later, refl)))
      (λ e f. stays (Clearing (refusal.Full full)) (inr refl)) (λ e f. answer (Full full) refl)
  commit_goes (Counting nth) found stays held counted answer =
      next_count_goes (nth + 1) (λ e. stays Deciding (inl refl)) (λ e. stays (Counting (nth + 1)) (inr refl))
  commit_goes Deciding found stays held counted answer = stays (Saving 0 []) refl
  commit_goes (Saving nth got) found stays held counted answer =
      on_words_goes nth _ (λ more e. stays (Saving nth more) (inl (more, refl)))
      (λ old e. stays (Copying nth old CopyMark) (inr (old, refl)))
  commit_goes (Copying nth old at) found stays held counted answer =
      on_copy_goes nth old _ (λ later e. stays (Copying nth old later) (inl (later, refl)))
      (λ e. stays (Installing nth (install_begin (value_at state nth))) (inr refl))
  commit_goes (Installing nth at) found stays held counted answer =
      on_install_goes nth _ (λ later e. stays (Installing nth later) (inl (later, refl)))
      (λ e f. stays Publishing (inr (inl refl))) (λ e f. stays (Saving (nth + 1) []) (inr (inr refl)))
  commit_goes Publishing found stays held counted answer =
      free_goes Publishing (length state.writes) (inl refl) (inr refl) refl stays answer
  commit_goes (Freeing nth) found stays held counted answer =
      free_goes (Freeing nth) (nth + 1) (inl refl) (inr refl) refl stays answer
  commit_goes (Clearing refusal) found stays held counted answer = answer (refusal_answer refusal) refl
  commit_goes Ending found stays held counted answer = answer (Committed (state.last + 1)) refl
