-- Each step of a store keeps what is claimed of the moments of snapshots.
use Rattle.std.proofs.Common.{List, Some, ap, arith, length, map, option_map, refl, subst, sym, ℕ, ◌+◌, ◌<◌, ◌∙◌, ◌≡◌}
use Rattle.std.proofs.lemmas.List.{map-set}
use Rattle.std.proofs.lemmas.Option.{slice_get-map}
use Rattle.std.specs.Prelude.{slice_get, slice_set}
use Rattle.nam_calls.specs.Memory.{memory}
use Rattle.nam_catalog.specs.declared.shape.Shape.{Shape}
use Rattle.nam_ghost.proofs.EntryLemmas.{IsNoEntry, IsPublishing, commit_no_entry, entry_one}
use Rattle.nam_ghost.proofs.IdleLemmas.{rests_aside}
use Rattle.nam_ghost.proofs.SnapshotLemmas.{entries_go}
use Rattle.nam_ghost.proofs.SteppingLemmas.{others_same, stepper_here}
use Rattle.nam_ghost.specs.Moments.{AreObservers, MomentsOk, Observer, ObserverNext, observer_of, vector_of}
use Rattle.nam_ghost.specs.Stepping.{stepper_after, stepper_before, stepping}
use Rattle.nam_layout.specs.declared.field.Field.TheVariants.{Entry}
use Rattle.nam_moments.proofs.NextLemmas.{observers_keep}
use Rattle.nam_moments.proofs.SnapLemmas.{aside, aside_next, beginning, begins_next, entry_of, observed, publishes_next}
use Rattle.nam_moments.proofs.SnapLemmas.{snap_next, stays_next}
use Rattle.nam_moments.proofs.ViewLemmas.{abandoned_observed, asked_observed, begin_observed, begins_observed}
use Rattle.nam_moments.proofs.ViewLemmas.{commit_observed, plain_observed, publish_observed, snap_observed}
use Rattle.nam_moments.specs.MomentsLaw.{KeepsLaw, NextLaw, RisesLaw}
use Rattle.nam_protocol.specs.Client.{client_abandon, client_ask, on_begin, on_snap}
use Rattle.nam_protocol.specs.Commit.{ask_commit, commit_after}
use Rattle.nam_protocol.specs.CutClient.{client_cut}
use Rattle.nam_protocol.specs.Own.{Rests}
use Rattle.nam_protocol.specs.Plain.{IsAside, Plain}
use Rattle.nam_protocol.specs.Sorts.{AskOf, AsksBegin, AsksCollect, AsksCommit, AsksPlain, Begins, Collects, Commits}
use Rattle.nam_protocol.specs.Sorts.{Finds, Moves, Reads, Snaps, StepOf, committing_at}
use Rattle.nam_protocol.specs.Telling.{go, stepped}
use Rattle.nam_protocol.specs.declared.client.CallPoint.TheVariants.{Beginning, Snapping}
use Rattle.nam_protocol.specs.declared.client.ClientState.{ClientState}
use Rattle.nam_protocol.specs.declared.client.Open.{Open}
use Rattle.nam_protocol.specs.declared.txn.CommitPoint.{CommitPoint}
use Rattle.nam_protocol.specs.declared.txn.CommitPoint.TheVariants.{Checking, Clearing, Copying, Counting, Deciding}
use Rattle.nam_protocol.specs.declared.txn.CommitPoint.TheVariants.{Ending, Freeing, Installing, Listing, Locking}
use Rattle.nam_protocol.specs.declared.txn.CommitPoint.TheVariants.{Publishing, Returning, Saving}
use Rattle.nam_store.proofs.BaseLemmas.{asked_sort, does_law, step_sort, words_stay}
use Rattle.nam_store.proofs.KindsLemmas.{AllWritten, finds_aside, finds_write, reads_aside, reads_write}
use Rattle.nam_store.specs.Base.{BaseOk, ClientOk}
use Rattle.nam_store.specs.Changed.{Does}
use Rattle.nam_store.specs.Kinds.{Writes}
use Rattle.nam_store.specs.Store.{Abandons, Asks, Cuts, Store, Takes, client_at, found_word, step}
use Rattle.nam_vector.specs.Snap.{snap_after, snap_begin, snap_verb}
use Rattle.nam_vector.specs.declared.snap.SnapPoint.{SnapPoint}
use Rattle.nam_vector.specs.declared.snap.SnapPoint.TheVariants.{First, Second}
use Rattle.nam_verbs.specs.VerbAt.{found_at}

module _ (shape : Shape) (store : Store) (base : BaseOk shape store) (ok : MomentsOk shape store) (nth : ℕ) where
  abbrev vector : List ℕ → ℕ → ℕ
  vector words = vector_of (memory shape words)

  abbrev observers : List Observer
  observers = map observer_of store.clients

  -- what the client's step owes, where these words come after it
  abbrev NextOf : List ℕ → ClientState → Observer → Type 0
  NextOf words before after =
      ObserverNext shape.start shape.workers (vector store.words) (vector words) nth (observer_of before) after

  abbrev Next : List ℕ → ClientState → ClientState → Type 0
  Next words before after = NextOf words before (observer_of after)

  -- the vector stays
  abbrev Stays : List ℕ → Type 0
  Stays words = (a : ℕ) → a < shape.workers → vector words a ≡ vector store.words a

  module _ (before : ClientState) (here : client_at store nth ≡ Some before) where
    seen_here : slice_get observers nth ≡ Some (observer_of before)
    seen_here = slice_get-map observer_of store.clients nth ∙ ap (option_map observer_of) here

    aside_kept : (words : List ℕ) (after : ClientState) → Stays words
        → observer_of after ≡ aside (observer_of before) → Next words before after
    aside_kept words after same is =
        subst (NextOf words before) (sym is)
        (aside_next shape.start shape.workers (vector store.words) observers ok nth (observer_of before) seen_here
        (vector words) same)

    -- a word of a snapshot is read
    snap_kept : (point : SnapPoint) (words : List ℕ) (after : ClientState) → words ≡ store.words
        → (observer_of before).pass ≡ Some point
        → observer_of after ≡ observed (observer_of before)
        (snap_after shape.workers point (vector store.words (entry_of point)))
        → Next words before after
    snap_kept point words after same at is =
        subst (λ (words : List ℕ). Next words before after) (sym same)
        (subst (NextOf store.words before) (sym is)
        (snap_next shape.start shape.workers (vector store.words) observers ok nth (observer_of before) seen_here
        point at))

  -- what a snapshot's word has found is its entry
  found_is : (point : SnapPoint)
      → found_at (memory shape store.words) (snap_verb point) ≡ vector store.words (entry_of point)
  found_is (First got) = refl
  found_is (Second seen at) = refl

  -- 1. A word is taken

  -- the words after it
  abbrev words_after : ClientState → List ℕ
  words_after before = (step shape store nth before).words

  -- where a client's call writes no entry
  unwritten : (before : ClientState) → Does shape store nth before
      → ((a : ℕ) → Writes (nth + 1) before (Entry (a + 1)) → ⊥) → Stays (words_after before)
  unwritten before does none a less = does.kinds (Entry (a + 1)) (omega arith, omega arith) (none a)

  plain_kept : (before after : ClientState) → client_at store nth ≡ Some before → Does shape store nth before
      → IsAside before.call → Plain before after → ((a : ℕ) → Writes (nth + 1) before (Entry (a + 1)) → ⊥)
      → Next (words_after before) before after
  plain_kept before after here does is plain none =
      aside_kept before here (words_after before) after (unwritten before does none)
      (plain_observed before after is plain)

  module _ (client : ClientState) (attempt : Open) where
    abbrev at_commit : CommitPoint → ClientState
    at_commit at = committing_at client attempt at

    abbrev committed : CommitPoint → ClientState
    committed at =
        stepped (at_commit at) attempt (length attempt.state.held)
        (commit_after attempt.state at (found_word shape store (at_commit at)))

    abbrev CommitNext : CommitPoint → Type 0
    CommitNext at =
        let before = at_commit at in client_at store nth ≡ Some before → Does shape store nth before
        → ClientOk shape nth before → Next (words_after before) before (committed at)

    other_kept : (at : CommitPoint) → (IsPublishing at → ⊥) → CommitNext at
    other_kept at other here does own =
        let before = at_commit at in
        aside_kept before here (words_after before) (committed at)
        (λ a less. does.leaves (Entry (a + 1)) (omega arith, omega arith)
        (λ same. subst (AllWritten IsNoEntry) same (commit_no_entry attempt.state at other)))
        (commit_observed client attempt (length attempt.state.held) own.own.opened.last_is at
        (found_word shape store before) other)

    publish_kept : CommitNext Publishing
    publish_kept here does own =
        let before = at_commit Publishing in
        let entry : Entry attempt.state.worker ≡ Entry (nth + 1) =
        ap (λ (worker : ℕ). Entry worker) (own.own.opened.worker_is ∙ own.own.worker_is) in
        subst (NextOf (words_after before) before)
        (sym (publish_observed client attempt (length attempt.state.held) own.own.opened.last_is
        (found_word shape store before)))
        (publishes_next shape.start shape.workers (vector store.words) observers ok nth (observer_of before)
        (seen_here before here) (vector (words_after before))
        (ap (memory shape (words_after before)) (sym entry) ∙ does.changes.here
        ∙ ap (λ (last : ℕ). last + 1) own.own.opened.last_is)
        (λ a less apart. does.changes.others (Entry (a + 1)) (omega arith, omega arith)
        (λ same. apart (entry_one a nth (same ∙ entry)))))

    commit_kept : (at : CommitPoint) → CommitNext at
    commit_kept Publishing = publish_kept
    commit_kept (Listing at) = other_kept (Listing at) (λ e. e)
    commit_kept (Locking at) = other_kept (Locking at) (λ e. e)
    commit_kept (Checking at) = other_kept (Checking at) (λ e. e)
    commit_kept (Returning given full) = other_kept (Returning given full) (λ e. e)
    commit_kept (Counting n) = other_kept (Counting n) (λ e. e)
    commit_kept Deciding = other_kept Deciding (λ e. e)
    commit_kept (Saving n got) = other_kept (Saving n got) (λ e. e)
    commit_kept (Copying n old at) = other_kept (Copying n old at) (λ e. e)
    commit_kept (Installing n at) = other_kept (Installing n at) (λ e. e)
    commit_kept (Freeing n) = other_kept (Freeing n) (λ e. e)
    commit_kept (Clearing refusal) = other_kept (Clearing refusal) (λ e. e)
    commit_kept Ending = other_kept Ending (λ e. e)

  word_next : (before after : ClientState) → StepOf shape (found_word shape store before) before after
      → client_at store nth ≡ Some before → Does shape store nth before → ClientOk shape nth before
      → Next (words_after before) before after
  word_next _ _ (Finds client place is plain reads) here does own =
      plain_kept _ _ here does (finds_aside place is) plain
      (λ a may. finds_write (nth + 1) place (Entry (a + 1)) is may)
  word_next _ _ (Reads client place reader is plain reads) here does own =
      plain_kept _ _ here does (reads_aside shape client.txn place reader is) plain
      (λ a may. reads_write shape (nth + 1) client.txn place reader (Entry (a + 1)) is may)
  word_next _ _ (Moves client table key position at plain) here does own =
      plain_kept _ _ here does tt plain (λ a may. may)
  word_next _ _ (Collects client bucket prefix seen at plain) here does own =
      plain_kept _ _ here does tt plain (λ a may. may)
  word_next _ _ (Begins client txn n at) here does own =
      let before = go client (Beginning txn n at) in
      let found = found_word shape store before in
      snap_kept before here at (words_after before) (on_begin shape before txn n (snap_after shape.workers at found))
      (words_stay shape store base nth before here (Beginning txn n at) refl refl) refl
      (begin_observed shape client txn n at (snap_after shape.workers at found)
      ∙ ap (λ (found : ℕ). observed (observer_of before) (snap_after shape.workers at found)) (found_is at))
  word_next _ _ (Snaps client bucket at) here does own =
      let before = go client (Snapping bucket at) in
      let found = found_word shape store before in
      snap_kept before here at (words_after before) (on_snap shape before bucket (snap_after shape.workers at found))
      (words_stay shape store base nth before here (Snapping bucket at) refl refl) refl
      (snap_observed shape client bucket at (snap_after shape.workers at found)
      ∙ ap (λ (found : ℕ). observed (observer_of before) (snap_after shape.workers at found)) (found_is at))
  word_next _ _ (Commits client attempt at) here does own = commit_kept client attempt at here does own

  -- 2. A call is asked

  begin_kept : (before : ClientState) → client_at store nth ≡ Some before → (after : ClientState)
      → observer_of after ≡ beginning (observer_of before) → Next store.words before after
  begin_kept before here after is =
      subst (NextOf store.words before) (sym is)
      (begins_next shape.start shape.workers (vector store.words) observers ok nth (observer_of before)
      (seen_here before here))

  asked_next : (before after : ClientState) → AskOf shape before after → client_at store nth ≡ Some before
      → Rests before.call → Next store.words before after
  asked_next _ _ (AsksPlain client asked plain reads) here rests =
      let after = client_ask shape client asked in
      aside_kept client here store.words after (λ a less. refl)
      (plain_observed client after (rests_aside client.call rests) plain)
  asked_next _ _ (AsksBegin client txn n) here rests =
      let after = go client (Beginning txn n snap_begin) in
      begin_kept client here after (begins_observed client (observer_of after) rests refl)
  asked_next _ _ (AsksCollect client bucket) here rests =
      let after = go client (Snapping bucket snap_begin) in
      begin_kept client here after (begins_observed client (observer_of after) rests refl)
  asked_next _ _ (AsksCommit client attempt) here rests =
      let before = record client { txn = Some attempt } in
      aside_kept before here store.words (stepped before attempt 0 (ask_commit shape attempt.state)) (λ a less. refl)
      (asked_observed shape client attempt rests)

  -- 3. Nothing is seen of it

  same_next : (before : ClientState) → client_at store nth ≡ Some before → (after : ClientState)
      → observer_of after ≡ observer_of before → Next store.words before after
  same_next before here after is =
      subst (NextOf store.words before) (sym is)
      (stays_next shape.start shape.workers (vector store.words) observers ok nth (observer_of before)
      (seen_here before here))

  -- 4. What the client's step owes keeps the store

  next_keeps : (words : List ℕ) (before after : ClientState) → client_at store nth ≡ Some before
      → Next words before after → MomentsOk shape record { words = words; clients = slice_set store.clients nth after }
  next_keeps words before after here next =
      subst (AreObservers shape.start shape.workers (vector words)) (sym (map-set observer_of store.clients nth after))
      (observers_keep shape.start shape.workers (vector store.words) observers ok nth (observer_of before)
      (seen_here before here) (vector words) (observer_of after) next)

-- 5. One step

pub moments_next : NextLaw
moments_next shape store _ (Takes nth client place here runs at) base ok =
    word_next shape store base ok nth client _ (step_sort shape store base nth client here place at) here
    (does_law shape store base nth client place here at) (base.clients nth client here)
moments_next shape store _ (Asks nth client asked here may words) base ok =
    asked_next shape store base ok nth client _ (asked_sort shape store base nth client here asked may) here may.rests
moments_next shape store _ (Abandons nth client here rests) base ok =
    same_next shape store base ok nth client here (client_abandon client) (abandoned_observed client)
moments_next shape store _ (Cuts nth client here) base ok =
    same_next shape store base ok nth client here (client_cut client) refl

pub moments_kept : KeepsLaw
moments_kept shape before after goes base ok =
    subst (λ clients. MomentsOk shape record { words = after.words; clients = clients })
    (sym (others_same shape before after goes))
    (next_keeps shape before base ok (stepping shape before after goes) after.words
    (stepper_before shape before after goes) (stepper_after shape before after goes)
    (stepper_here shape before after goes) (moments_next shape before after goes base ok))

pub vector_rises : RisesLaw
vector_rises shape before after goes base ok =
    entries_go shape before after goes ok (moments_next shape before after goes base ok)
