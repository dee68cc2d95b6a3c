-- Each step of a store keeps what is claimed of refused commits, and the opening has it.
use Rattle.std.proofs.Common.{Some, map, subst, suc, zero, ℕ, ◌+◌, ◌≡◌}
use Rattle.std.proofs.lemmas.Option.{none-some, same_Some}
use Rattle.std.specs.Prelude.{slice_get}
use Rattle.nam_calls.specs.Memory.{memory}
use Rattle.nam_catalog.specs.declared.shape.Shape.{Shape}
use Rattle.nam_ghost.proofs.IdleLemmas.{aside_idle, rests_aside}
use Rattle.nam_ghost.specs.Cells.{IsElsewhere}
use Rattle.nam_ghost.specs.Ghost.{Ghost, ghost_step, opening_ghost}
use Rattle.nam_ghost.specs.Locks.{LocksOk}
use Rattle.nam_ghost.specs.Moments.{observer_of}
use Rattle.nam_ghost.specs.Steps.{chains_after}
use Rattle.nam_ghost.specs.Versions.{Chain}
use Rattle.nam_layout.specs.Place.{place_at}
use Rattle.nam_layout.specs.Rows.{width_at}
use Rattle.nam_protocol.proofs.PlainLemmas.{abandon_plain}
use Rattle.nam_protocol.specs.Client.{client_abandon, client_after, client_ask}
use Rattle.nam_protocol.specs.CutClient.{client_cut}
use Rattle.nam_protocol.specs.declared.client.CallPoint.{CallPoint}
use Rattle.nam_protocol.specs.declared.client.ClientState.{ClientState}
use Rattle.nam_protocol.specs.declared.txn.CommitPoint.{CommitPoint}
use Rattle.nam_protocol.specs.declared.txn.TxnState.{TxnState}
use Rattle.nam_refused.proofs.CommitLemmas.{commit_word}
use Rattle.nam_refused.proofs.StayLemmas.{GoesFor, call_stays, row_goes, taken_by}
use Rattle.nam_refused.proofs.WordLemmas.{ask_ok, idle_ok, word_ok}
use Rattle.nam_refused.specs.Refused.{AnswerOk, PointOk, RefusedOk}
use Rattle.nam_refused.specs.RefusedLaw.{KeepsLaw, OpensLaw, RestsOn}
use Rattle.nam_refused.specs.Views.{InCall}
use Rattle.nam_store.proofs.BaseLemmas.{asked_sort, step_sort}
use Rattle.nam_store.proofs.Lists.{everyone_put, everyone_set}
use Rattle.nam_store.specs.Base.{BaseOk}
use Rattle.nam_store.specs.Opening.{new_clients}
use Rattle.nam_store.specs.Store.{Abandons, Asks, Cuts, StepsTo, Store, Takes, client_at, found_word, step, with_client}
use Rattle.nam_verbs.specs.declared.now.Now.TheVariants.{At}

-- 1. The opening: no call runs

pub new_ok : (Point : TxnState → CommitPoint → Type 0) (start worker count nth : ℕ) (client : ClientState)
    → slice_get (new_clients start worker count) nth ≡ Some client → InCall Point client.call client.txn
new_ok Point start worker zero nth client e = absurd (none-some client e)
new_ok Point start worker (suc count) zero client e =
    let same = same_Some _ client e in subst (λ (c : ClientState). InCall Point c.call c.txn) same tt
new_ok Point start worker (suc count) (suc nth) client e = new_ok Point start (worker + 1) count nth client e

pub refused_opens : OpensLaw
refused_opens shape limits rows loaded nth client here =
    new_ok (PointOk shape (opening_ghost shape rows).chains) shape.start 1 shape.workers nth client here

-- 2. A step

-- the snapshots of each client see it so
pub rows_go : (shape : Shape) (before after : Store) (goes : StepsTo shape before after) (ghost : Ghost)
    → RestsOn shape before after goes ghost → (nth : ℕ) (client : ClientState) → client_at before nth ≡ Some client
    → GoesFor shape ghost.chains (ghost_step shape before after goes ghost).chains client
rows_go shape before after goes ghost rests nth client here seen listed row is =
    let later = ghost_step shape before after goes ghost in
    row_goes (place_at shape row)
    (IsElsewhere shape ghost.chains ghost.rings (memory shape before.words) ghost.cells row)
    (width_at shape.tables row) (map observer_of before.clients) (ghost.chains row) (later.chains row)
    (ghost.rings row) (later.rings row) (rests.rows row is) seen (taken_by before nth client here seen listed)

-- the client's call has gone on, with the store's chains as they were
unmoved : (shape : Shape) (store : Store) (chains : ℕ → Chain) → RefusedOk shape store chains → (nth : ℕ)
    (after : ClientState) → InCall (PointOk shape chains) after.call after.txn
    → RefusedOk shape (with_client store nth after) chains
unmoved shape store chains ok nth after is =
    everyone_put (λ k (c : ClientState). InCall (PointOk shape chains) c.call c.txn) store.clients nth after ok is

taken : (shape : Shape) (store : Store) (chains later : ℕ → Chain) → BaseOk shape store
    → LocksOk shape store chains → RefusedOk shape store chains
    → ((nth : ℕ) (client : ClientState) → client_at store nth ≡ Some client → GoesFor shape chains later client)
    → (nth : ℕ) (client : ClientState) (place : CallPoint) → client_at store nth ≡ Some client
    → client.call ≡ Some (At place) → RefusedOk shape (step shape store nth client) later
taken shape store chains later base locks ok goes nth client place here at =
    let found = found_word shape store client in
    everyone_set (λ k (c : ClientState). InCall (PointOk shape chains) c.call c.txn)
    (λ k (c : ClientState). InCall (PointOk shape later) c.call c.txn) store.clients nth
    (client_after shape client found) ok
    (λ other one apart e is.
    call_stays shape base.limits chains later other one (base.clients other one e) (goes other one e) is)
    (word_ok (PointOk shape later) shape found (AnswerOk shape later) client (client_after shape client found)
    (step_sort shape store base nth client here place at)
    (λ committer attempt point same. commit_word shape base.limits (memory shape store.words) chains later locks.rows
    nth client committer attempt point same (base.clients nth client here) (goes nth client here)
    (ok nth client here)))

pub refused_keeps : KeepsLaw
refused_keeps shape before _ (Takes nth client place here runs at) ghost rests ok =
    let goes = Takes nth client place here runs at in
    taken shape before ghost.chains (chains_after client.txn place (found_word shape before client) ghost.chains)
    rests.base rests.locks ok (rows_go shape before (step shape before nth client) goes ghost rests) nth client place
    here at
refused_keeps shape before _ (Asks nth client asked here may words) ghost rests ok =
    unmoved shape before ghost.chains ok nth (client_ask shape client asked)
    (ask_ok (PointOk shape ghost.chains) shape (λ state. tt) (λ state. tt) client (client_ask shape client asked)
    (asked_sort shape before rests.base nth client here asked may))
refused_keeps shape before _ (Abandons nth client here rests_there) ghost rests ok =
    let after = client_abandon client in
    unmoved shape before ghost.chains ok nth after
    (idle_ok (PointOk shape ghost.chains) after.call after.txn
    (aside_idle after.call (abandon_plain shape client (rests_aside client.call rests_there)).aside))
refused_keeps shape before _ (Cuts nth client here) ghost rests ok =
    unmoved shape before ghost.chains ok nth (client_cut client) (ok nth client here)
