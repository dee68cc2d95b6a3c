-- Each step of a store keeps that a lock which stood in a commit's way is listed by another client.
use Rattle.std.proofs.Common.{List, Some, ap, length, subst, true, ℕ, ◌∙◌, ◌≡◌}
use Rattle.std.specs.Prelude.{slice_set}
use Rattle.nam_calls.specs.declared.lock.LockPoint.{LockPoint}
use Rattle.nam_catalog.specs.declared.form.Form.{Form}
use Rattle.nam_catalog.specs.declared.shape.Shape.{Shape}
use Rattle.nam_ghost.proofs.IdleLemmas.{aside_idle, rests_aside}
use Rattle.nam_ghost.specs.Keys.{KeysOk}
use Rattle.nam_ghost.specs.Locks.{LocksOk}
use Rattle.nam_ghost.specs.Versions.{Chain}
use Rattle.nam_header.specs.Stamp.{is_locked}
use Rattle.nam_protocol.proofs.Grows.{abandon_grows, ask_grows, grows_same, word_grows}
use Rattle.nam_protocol.proofs.PlainLemmas.{abandon_plain}
use Rattle.nam_protocol.specs.Client.{client_abandon, client_after, client_ask}
use Rattle.nam_protocol.specs.Commit.{commit_after}
use Rattle.nam_protocol.specs.CutClient.{client_cut}
use Rattle.nam_protocol.specs.Grows.{Grows}
use Rattle.nam_protocol.specs.Own.{MayAsk, Rests}
use Rattle.nam_protocol.specs.Sorts.{committing_at}
use Rattle.nam_protocol.specs.declared.client.Call.{Call}
use Rattle.nam_protocol.specs.declared.client.CallPoint.{CallPoint}
use Rattle.nam_protocol.specs.declared.client.ClientState.{ClientState}
use Rattle.nam_protocol.specs.declared.client.Open.{Open}
use Rattle.nam_protocol.specs.declared.txn.CommitPoint.{CommitPoint}
use Rattle.nam_protocol.specs.declared.txn.CommitPoint.TheVariants.{Locking}
use Rattle.nam_protocol.specs.declared.txn.TxnState.{TxnState}
use Rattle.nam_refused.proofs.AnswerLemmas.{ends_as}
use Rattle.nam_refused.proofs.LockedLemmas.{less_there}
use Rattle.nam_refused.proofs.LockerCommits.{After, call_stays, commit_listed}
use Rattle.nam_refused.proofs.LockerLemmas.{meets_listed}
use Rattle.nam_refused.proofs.StayLemmas.{record_form}
use Rattle.nam_refused.proofs.StoreLemmas.{new_ok}
use Rattle.nam_refused.proofs.WordLemmas.{ask_ok, idle_ok, word_ok}
use Rattle.nam_refused.specs.Lockers.{AnswerListed, LockersOk, PointListed, WayListed}
use Rattle.nam_refused.specs.LockersLaw.{KeepsLaw, ListedLaw, OpensLaw}
use Rattle.nam_refused.specs.RefusedLaw.{LooksAt}
use Rattle.nam_refused.specs.Views.{InCall}
use Rattle.nam_store.proofs.BaseLemmas.{asked_sort, step_sort}
use Rattle.nam_store.proofs.Lists.{everyone_set}
use Rattle.nam_store.specs.Base.{BaseOk, ClientOk}
use Rattle.nam_store.specs.Opening.{opening_store}
use Rattle.nam_store.specs.Store.{Abandons, Asks, Cuts, Store, Takes, abandon, ask, client_at, cut, found_word, step}
use Rattle.nam_verbs.specs.declared.now.Now.TheVariants.{At}
use Rattle.nam_protocol.specs.declared.txn.TxnAnswer.TheVariants as txn_answer

-- 1. A step

module _ (shape : Shape) (store : Store) (chains : ℕ → Chain) (base : BaseOk shape store)
    (locks : LocksOk shape store chains) (keys : KeysOk shape store chains) (ok : LockersOk store) (nth : ℕ)
    (client : ClientState) (here : client_at store nth ≡ Some client) where
  abbrev Point : TxnState → CommitPoint → Type 0
  Point = PointListed store.clients nth

  -- the client has gone on, its log has grown
  gone : (words : List ℕ) (after : ClientState) → Grows client.log after.log → InCall Point after.call after.txn
      → LockersOk record { words = words; clients = slice_set store.clients nth after }
  gone words after grows is =
      everyone_set (λ j (c : ClientState). InCall (PointListed store.clients j) c.call c.txn)
      (λ j (c : ClientState). InCall (PointListed (slice_set store.clients nth after) j) c.call c.txn) store.clients nth
      after ok
      (λ other one apart e was. call_stays store.clients nth client after here grows other one.call one.txn was)
      (call_stays store.clients nth client after here grows nth after.call after.txn is)

  -- a header that the commit looks at is another client's where it is locked
  met : (committer : ClientState) (attempt : Open) (at : CommitPoint) → client ≡ committing_at committer attempt at
      → (point : LockPoint) → at ≡ Locking point → LooksAt point
      → WayListed store.clients nth attempt.state (found_word shape store client)
  met committer attempt at same point is looks locked =
      let state = attempt.state in
      let own : ClientOk shape nth (committing_at committer attempt (Locking point)) =
      subst (ClientOk shape nth) (same ∙ ap (committing_at committer attempt) is) (base.clients nth client here) in
      let less = less_there (length state.records) state point looks own.fits.2.2.0 in
      meets_listed shape store chains base locks keys nth client attempt record {
        here = here;
        at = point;
        looks = looks;
        runs = ap (λ (c : ClientState). c.call) (same ∙ ap (committing_at committer attempt) is);
        opened = ap (λ (c : ClientState). c.txn) same;
        locked = subst (λ (form : Form). is_locked form (found_word shape store client) ≡ true)
            (record_form shape base.limits state (Locking point) own.fits.1 own.fits.2 (length state.held) less) locked;
      }

  commit_word : (committer : ClientState) (attempt : Open) (at : CommitPoint)
      → client ≡ committing_at committer attempt at
      → After store.clients nth attempt.state (commit_after attempt.state at (found_word shape store client))
  commit_word committer attempt at same =
      commit_listed store.clients nth attempt.state at (found_word shape store client) (met committer attempt at same)
      (subst (λ (c : ClientState). InCall Point c.call c.txn) same (ok nth client here))

  pub lockers_step : (place : CallPoint) → client.call ≡ Some (At place) → LockersOk (step shape store nth client)
  lockers_step place at =
      let found = found_word shape store client in
      let after = client_after shape client found in
      gone (step shape store nth client).words after (word_grows shape client found)
      (word_ok Point shape found (λ was. AnswerListed store.clients nth) client after
      (step_sort shape store base nth client here place at) commit_word)

  pub lockers_asked : (asked : Call) → MayAsk shape client asked → LockersOk (ask shape store nth client asked)
  lockers_asked asked may =
      let after = client_ask shape client asked in
      gone store.words after (ask_grows shape client asked)
      (ask_ok Point shape (λ state. tt) (λ state. tt) client after
      (asked_sort shape store base nth client here asked may))

  pub lockers_abandoned : Rests client.call → LockersOk (abandon store nth client)
  lockers_abandoned rests =
      let after = client_abandon client in
      gone store.words after (abandon_grows client)
      (idle_ok Point after.call after.txn
      (aside_idle after.call (abandon_plain shape client (rests_aside client.call rests)).aside))

  pub lockers_cut : LockersOk (cut store nth client)
  lockers_cut = gone store.words (client_cut client) (grows_same client.log) (ok nth client here)

-- 2. One step, and the answer

pub lockers_open : OpensLaw
lockers_open shape limits rows loaded nth client here =
    new_ok (PointListed (opening_store shape rows).clients nth) shape.start 1 shape.workers nth client here

pub lockers_keep : KeepsLaw
lockers_keep shape before _ (Takes nth client place here runs at) chains base locks keys ok =
    lockers_step shape before chains base locks keys ok nth client here place at
lockers_keep shape before _ (Asks nth client asked here may words) chains base locks keys ok =
    lockers_asked shape before chains base locks keys ok nth client here asked may
lockers_keep shape before _ (Abandons nth client here rests) chains base locks keys ok =
    lockers_abandoned shape before chains base locks keys ok nth client here rests
lockers_keep shape before _ (Cuts nth client here) chains base locks keys ok =
    lockers_cut shape before chains base locks keys ok nth client here

pub listed_holds : ListedLaw
listed_holds shape store chains base locks keys ok nth client attempt lock ends =
    ends_as shape store (PointListed store.clients nth) (λ was. AnswerListed store.clients nth) nth client attempt
    (txn_answer.Locked lock) ends
    (commit_word shape store chains base locks keys ok nth client ends.here client attempt ends.at
    (λ k. record client { call = ends.runs k; txn = ends.opened k }))
