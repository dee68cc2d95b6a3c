-- Each step of a store keeps what is said of locks.
use Rattle.std.proofs.Common.{List, Option, Some, ap, arith, map, option_map, refl, subst, sym, ℕ, ◌+◌, ◌∙◌, ◌≡◌}
use Rattle.std.proofs.lemmas.List.{map-set}
use Rattle.std.proofs.lemmas.Option.{slice_get-map}
use Rattle.std.specs.Prelude.{slice_get, slice_set}
use Rattle.nam_calls.specs.Memory.{memory}
use Rattle.nam_calls.specs.declared.lock.LockPoint.TheVariants.{Peek}
use Rattle.nam_catalog.specs.declared.shape.Shape.{Shape}
use Rattle.nam_ghost.proofs.IdleLemmas.{aside_idle, idle_holder, rests_aside, stepped_holder}
use Rattle.nam_ghost.specs.Ghost.{ghost_step, opening_ghost}
use Rattle.nam_ghost.specs.Holders.{done_at, from_at, holder_at, holder_now, holder_of, no_holder}
use Rattle.nam_ghost.specs.Idle.{IsIdle, Verb}
use Rattle.nam_ghost.specs.Locks.{AreHeld, HolderOk, LocksOk}
use Rattle.nam_ghost.specs.Steps.{chains_after}
use Rattle.nam_ghost.specs.Versions.{Chain}
use Rattle.nam_layout.specs.declared.field.Field.{Field}
use Rattle.nam_locks.proofs.HolderKinds.{holds_nothing}
use Rattle.nam_locks.proofs.HolderLemmas.{looks}
use Rattle.nam_locks.proofs.OpeningLemmas.{locks_open}
use Rattle.nam_locks.proofs.RowLemmas.{same_rows}
use Rattle.nam_locks.proofs.WordLemmas.{takes_word}
use Rattle.nam_locks.specs.LocksLaw.{KeepsLaw, ReachedLaw}
use Rattle.nam_protocol.proofs.GoesCommit.{ask_commit_goes}
use Rattle.nam_protocol.proofs.PlainLemmas.{abandon_plain}
use Rattle.nam_protocol.specs.Client.{client_abandon, client_after, client_ask}
use Rattle.nam_protocol.specs.Commit.{ask_commit, committing, list_begin}
use Rattle.nam_protocol.specs.CutClient.{client_cut}
use Rattle.nam_protocol.specs.Own.{MayAsk, OwnOpen, Rests}
use Rattle.nam_protocol.specs.Sorts.{AskOf, AsksBegin, AsksCollect, AsksCommit, AsksPlain}
use Rattle.nam_protocol.specs.declared.client.Answer.{Answer}
use Rattle.nam_protocol.specs.declared.client.Call.{Call}
use Rattle.nam_protocol.specs.declared.client.CallPoint.{CallPoint}
use Rattle.nam_protocol.specs.declared.client.ClientState.{ClientState}
use Rattle.nam_protocol.specs.declared.txn.CommitPoint.{CommitPoint}
use Rattle.nam_protocol.specs.declared.txn.CommitPoint.TheVariants.{Listing, Locking}
use Rattle.nam_store.proofs.BaseLemmas.{asked_sort, client_within, does_law, step_sort}
use Rattle.nam_store.proofs.ReachedLemmas.{reached_holds}
use Rattle.nam_store.specs.Base.{BaseOk}
use Rattle.nam_store.specs.Kinds.{MayWriteAt}
use Rattle.nam_store.specs.Store.{Abandons, Asks, Cuts, Store, Takes, client_at, found_word, step, with_client}
use Rattle.nam_verbs.specs.declared.now.Now.{Now}
use Rattle.nam_verbs.specs.declared.now.Now.TheVariants.{At}

-- a client that held nothing is asked a call
ask_holds : (shape : Shape) (m : Field → ℕ) (chains : ℕ → Chain) (nth : ℕ) (before after : ClientState)
    → AskOf shape before after → OwnOpen before.worker before.last before.log.snaps before.txn
    → HolderOk shape m chains nth (no_holder before.worker) → HolderOk shape m chains nth (holder_of after)
ask_holds shape m chains nth _ _ (AsksPlain client asked plain unread) own none =
    let after = client_ask shape client asked in
    subst (HolderOk shape m chains nth)
    (sym (idle_holder after.worker after.call after.txn (aside_idle after.call plain.aside)
    ∙ ap no_holder plain.worker)) none
ask_holds shape m chains nth _ _ (AsksBegin client txn number) own none = none
ask_holds shape m chains nth _ _ (AsksCollect client bucket) own none = none
ask_holds shape m chains nth _ _ (AsksCommit client attempt) own none =
    let before = record client { txn = Some attempt } in
    let state = attempt.state in
    let begins : (at : CommitPoint) → from_at (committing state) at ≡ 0 → done_at (committing state) at ≡ 0
    → HolderOk shape m chains nth (holder_at (committing state) at) = λ at from done.
    holds_nothing shape m chains nth (no_holder client.worker) none (holder_at (committing state) at) (omega arith)
    (own.worker_is ∙ none.worker) (omega arith) (λ p less. absurd (omega arith)) in
    subst (HolderOk shape m chains nth) (sym (stepped_holder before attempt 0 (ask_commit shape state)))
    (ask_commit_goes (λ step. HolderOk shape m chains nth (holder_now client.worker step.state step.call)) state shape
    (λ e. none) (λ e f. none) (λ e f tells. begins (Listing list_begin) refl refl)
    (λ e f untold. begins (Locking Peek) refl refl))

module _ (shape : Shape) (store : Store) (base : BaseOk shape store) (chains : ℕ → Chain)
    (ok : LocksOk shape store chains) (nth : ℕ) (client : ClientState) (here : client_at store nth ≡ Some client) where
  abbrev m : Field → ℕ
  m = memory shape store.words

  held_here : slice_get (map holder_of store.clients) nth ≡ Some (holder_of client)
  held_here = slice_get-map holder_of store.clients nth ∙ ap (option_map holder_of) here

  own : HolderOk shape m chains nth (holder_of client)
  own = ok.each nth (holder_of client) held_here

  stored : (words : List ℕ) (later : ℕ → Chain) (after : ClientState)
      → AreHeld shape (memory shape words) later (slice_set (map holder_of store.clients) nth (holder_of after))
      → LocksOk shape (with_client (record store { words = words }) nth after) later
  stored words later after held =
      subst (AreHeld shape (memory shape words) later) (sym (map-set holder_of store.clients nth after)) held

  -- 1. A word is taken

  pub locks_step : (place : CallPoint) → client.call ≡ Some (At place)
      → LocksOk shape (step shape store nth client)
      (chains_after client.txn place (found_word shape store client) chains)
  locks_step place at =
      let does = does_law shape store base nth client place here at in
      let after = client_after shape client (found_word shape store client) in
      let words = (step shape store nth client).words in
      let verb : Verb shape m (memory shape words) nth client place = record {
        changed = does.changes;
        leaves = does.leaves;
        kinds = λ field of_shape unwritten.
            does.kinds field of_shape (λ may. unwritten
            (subst (λ (call : Option (Now CallPoint Answer)). MayWriteAt (nth + 1) call field) at may));
      } in
      stored words (chains_after client.txn place (found_word shape store client) chains) after
      (takes_word shape base.limits m (memory shape words) chains (map holder_of store.clients) ok nth
      (client_within shape store base nth client here) (found_word shape store client) client after place
      (step_sort shape store base nth client here place at) at held_here (base.clients nth client here) refl verb)

  -- 2. The client is asked, gives its transaction up, or is stopped

  -- with the words as they are
  unmoved : (after : ClientState) → HolderOk shape m chains nth (holder_of after)
      → LocksOk shape (with_client store nth after) chains
  unmoved after kept =
      stored store.words chains after
      (looks shape m chains (map holder_of store.clients) ok nth (holder_of client) held_here m (holder_of after)
      (same_rows shape m) kept)

  unmoved_same : (after : ClientState) → holder_of after ≡ holder_of client
      → LocksOk shape (with_client store nth after) chains
  unmoved_same after same = unmoved after (subst (HolderOk shape m chains nth) (sym same) own)

  pub locks_cut : LocksOk shape (with_client store nth (client_cut client)) chains
  locks_cut = unmoved_same (client_cut client) refl

  module _ (rests : Rests client.call) where
    none : holder_of client ≡ no_holder client.worker
    none = idle_holder client.worker client.call client.txn (aside_idle client.call (rests_aside client.call rests))

    -- no commit runs afterwards
    idle_after : (after : ClientState) → IsIdle after.call → after.worker ≡ client.worker
        → LocksOk shape (with_client store nth after) chains
    idle_after after idle worker =
        unmoved_same after (idle_holder after.worker after.call after.txn idle ∙ ap no_holder worker ∙ sym none)

    pub locks_abandoned : LocksOk shape (with_client store nth (client_abandon client)) chains
    locks_abandoned =
        let plain = abandon_plain shape client (rests_aside client.call rests) in
        idle_after (client_abandon client) (aside_idle _ plain.aside) plain.worker

    pub locks_asked : (asked : Call) → MayAsk shape client asked
        → LocksOk shape (with_client store nth (client_ask shape client asked)) chains
    locks_asked asked may =
        unmoved (client_ask shape client asked)
        (ask_holds shape m chains nth client (client_ask shape client asked)
        (asked_sort shape store base nth client here asked may) (base.clients nth client here).own.opened
        (subst (HolderOk shape m chains nth) none own))

-- 3. One step, and every store

pub locks_keep : KeepsLaw
locks_keep shape before _ (Takes nth client place here runs at) ghost base ok =
    locks_step shape before base ghost.chains ok nth client here place at
locks_keep shape before _ (Asks nth client asked here may words) ghost base ok =
    locks_asked shape before base ghost.chains ok nth client here may.rests asked may
locks_keep shape before _ (Abandons nth client here rests) ghost base ok =
    locks_abandoned shape before base ghost.chains ok nth client here rests
locks_keep shape before _ (Cuts nth client here) ghost base ok =
    locks_cut shape before base ghost.chains ok nth client here

pub locks_reached : ReachedLaw
locks_reached shape limits rows loaded =
    reached_holds shape rows (opening_ghost shape rows) (ghost_step shape) limits loaded
    (λ store ghost. LocksOk shape store ghost.chains) (locks_open shape limits rows loaded)
    (λ before after ghost goes base ok. locks_keep shape before after goes ghost base ok)
