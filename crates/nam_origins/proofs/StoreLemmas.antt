-- Each step of a store keeps what is said of origins.
use Rattle.std.proofs.Common.{List, Some, false, inl, length, refl, subst, sym, ℕ, ◌≡◌}
use Rattle.nam_catalog.specs.declared.shape.Shape.{Shape}
use Rattle.nam_ghost.proofs.IdleLemmas.{aside_idle, idle_chains, rests_aside, same_place}
use Rattle.nam_ghost.specs.Ghost.{Ghost, ghost_after, ghost_step, opening_ghost}
use Rattle.nam_ghost.specs.Holders.{holder_at}
use Rattle.nam_ghost.specs.Idle.{IsIdle}
use Rattle.nam_ghost.specs.Moments.{has_published}
use Rattle.nam_ghost.specs.Origins.{IsStanding, OriginsOk}
use Rattle.nam_ghost.specs.Publications.{Publication}
use Rattle.nam_ghost.specs.Steps.{chains_after, commit_chains, published_after}
use Rattle.nam_ghost.specs.Versions.{Chain}
use Rattle.nam_origins.proofs.CommitOrigins.{commit_origins}
use Rattle.nam_origins.proofs.OpeningLemmas.{origins_open}
use Rattle.nam_origins.proofs.OriginLemmas.{commit_goes_on, origins_go, rests_on}
use Rattle.nam_origins.proofs.WordLemmas.{asked_unpublished, idle_done, idle_published, idle_unpublished, rests_idle}
use Rattle.nam_origins.proofs.WordLemmas.{word_cases}
use Rattle.nam_origins.specs.Goes.{CommitGoes, Goes}
use Rattle.nam_origins.specs.OriginsLaw.{KeepsLaw, ReachedLaw}
use Rattle.nam_protocol.proofs.PlainLemmas.{abandon_plain}
use Rattle.nam_protocol.specs.Client.{client_abandon, client_after, client_ask}
use Rattle.nam_protocol.specs.Commit.{commit_after}
use Rattle.nam_protocol.specs.CutClient.{client_cut}
use Rattle.nam_protocol.specs.Own.{MayAsk, Rests}
use Rattle.nam_protocol.specs.Sorts.{StepOf, committing_at}
use Rattle.nam_protocol.specs.Telling.{stepped}
use Rattle.nam_protocol.specs.declared.client.Call.{Call}
use Rattle.nam_protocol.specs.declared.client.CallPoint.{CallPoint}
use Rattle.nam_protocol.specs.declared.client.CallPoint.TheVariants.{InTxn}
use Rattle.nam_protocol.specs.declared.client.ClientState.{ClientState}
use Rattle.nam_protocol.specs.declared.client.Open.{Open}
use Rattle.nam_protocol.specs.declared.txn.CommitPoint.{CommitPoint}
use Rattle.nam_protocol.specs.declared.txn.TxnPoint.TheVariants.{Committing}
use Rattle.nam_store.proofs.BaseLemmas.{asked_sort, step_sort}
use Rattle.nam_store.proofs.ReachedLemmas.{reached_holds}
use Rattle.nam_store.specs.Base.{BaseOk, ClientOk}
use Rattle.nam_store.specs.Store.{Abandons, Asks, Cuts, Store, Takes, client_at, found_word, step}
use Rattle.nam_verbs.specs.declared.now.Now.TheVariants.{At}

-- 1. A word is taken

module _ (shape : Shape) (chains : ℕ → Chain) (published : ℕ → List Publication) (nth : ℕ) where
  -- what the word of a client at a point comes to
  abbrev Comes : ℕ → CallPoint → ClientState → ClientState → Type 0
  Comes found place before after =
      Goes chains (chains_after before.txn place found chains) published
      (published_after nth before.txn place published) nth before after

  idle_comes : (found : ℕ) (place : CallPoint) (before after : ClientState) → IsIdle before.call → IsIdle after.call
      → before.call ≡ Some (At place) → Comes found place before after
  idle_comes found place before after idle later at =
      let here = subst IsIdle at idle in
      subst (λ c. Goes chains c published (published_after nth before.txn place published) nth before after)
      (sym (idle_chains before.txn place found chains here))
      (subst (λ ps. Goes chains chains published ps nth before after)
      (sym (idle_published nth before.txn place published here))
      (rests_on chains published nth before after (idle_done before idle) (idle_unpublished after.call later)))

  commit_comes : (found : ℕ) (client : ClientState) (attempt : Open) (at : CommitPoint)
      → let before = committing_at client attempt at in ClientOk shape nth before → IsStanding published nth before
      → Comes found (InTxn (Committing at)) before
      (stepped before attempt (length attempt.state.held) (commit_after attempt.state at found))
  commit_comes found client attempt at ok stands =
      let before = committing_at client attempt at in
      let state = attempt.state in
      let step = commit_after state at found in
      commit_goes_on chains (commit_chains state at found chains) published
      (published_after nth (Some attempt) (InTxn (Committing at)) published) nth before attempt (length state.held)
      before step
      (subst (λ worker. CommitGoes chains (commit_chains state at found chains) published
      (published_after nth (Some attempt) (InTxn (Committing at)) published) nth (holder_at state at) worker step)
      ok.own.opened.worker_is
      (commit_origins shape attempt chains published nth at found ok.fits.2 (λ is. stands attempt is refl)))

  word_comes : (found : ℕ) (place : CallPoint) (before after : ClientState) → StepOf shape found before after
      → before.call ≡ Some (At place) → ClientOk shape nth before → IsStanding published nth before
      → Comes found place before after
  word_comes found place before after sort =
      word_cases shape found (λ before after. before.call ≡ Some (At place) → ClientOk shape nth before
      → IsStanding published nth before → Comes found place before after) before after sort
      (λ before after idle later at ok stands. idle_comes found place before after idle later at)
      (λ client attempt point at ok stands.
      let before = committing_at client attempt point in
      subst (λ p. Comes found p before
      (stepped before attempt (length attempt.state.held) (commit_after attempt.state point found)))
      (sym (same_place place (InTxn (Committing point)) at)) (commit_comes found client attempt point ok stands))

-- 2. One step, as the client's

module _ (shape : Shape) (store : Store) (base : BaseOk shape store) (ghost : Ghost)
    (ok : OriginsOk shape store ghost.chains ghost.published) (nth : ℕ) (client : ClientState)
    (here : client_at store nth ≡ Some client) where
  -- no commit is before, nor has one published after
  quiet_goes : (after : ClientState) → Rests client.call → has_published after.call ≡ false
      → Goes ghost.chains ghost.chains ghost.published ghost.published nth client after
  quiet_goes after rests none =
      rests_on ghost.chains ghost.published nth client after (idle_done client (rests_idle client rests)) none

  pub takes_goes : (place : CallPoint) → client.call ≡ Some (At place)
      → let found = found_word shape store client in
      let later = ghost_after shape nth client place found ghost in
      Goes ghost.chains later.chains ghost.published later.published nth client (client_after shape client found)
  takes_goes place at =
      word_comes shape ghost.chains ghost.published nth (found_word shape store client) place client
      (client_after shape client (found_word shape store client)) (step_sort shape store base nth client here place at)
      at (base.clients nth client here) (ok.standing nth client here)

  pub asks_goes : (asked : Call) → MayAsk shape client asked
      → Goes ghost.chains ghost.chains ghost.published ghost.published nth client (client_ask shape client asked)
  asks_goes asked may =
      quiet_goes (client_ask shape client asked) may.rests
      (asked_unpublished shape client (client_ask shape client asked)
      (asked_sort shape store base nth client here asked may))

  pub abandons_goes : Rests client.call
      → Goes ghost.chains ghost.chains ghost.published ghost.published nth client (client_abandon client)
  abandons_goes rests =
      let plain = abandon_plain shape client (rests_aside client.call rests) in
      quiet_goes (client_abandon client) rests (idle_unpublished _ (aside_idle _ plain.aside))

  pub cuts_goes : Goes ghost.chains ghost.chains ghost.published ghost.published nth client (client_cut client)
  cuts_goes = record {
    grows = λ row number version is. inl is;
    kept = λ row version has. has;
    others = λ other apart. refl;
    standing = ok.standing nth client here;
  }

-- 3. Every store

pub origins_keep : KeepsLaw
origins_keep shape before _ (Takes nth client place here runs at) ghost base ok =
    let found = found_word shape before client in
    let later = ghost_after shape nth client place found ghost in
    origins_go shape ghost.chains later.chains ghost.published later.published nth before
    (step shape before nth client).words client (client_after shape client found) here
    (takes_goes shape before base ghost ok nth client here place at) ok
origins_keep shape before _ (Asks nth client asked here may words) ghost base ok =
    origins_go shape ghost.chains ghost.chains ghost.published ghost.published nth before before.words client
    (client_ask shape client asked) here (asks_goes shape before base ghost ok nth client here asked may) ok
origins_keep shape before _ (Abandons nth client here rests) ghost base ok =
    origins_go shape ghost.chains ghost.chains ghost.published ghost.published nth before before.words client
    (client_abandon client) here (abandons_goes shape before base ghost ok nth client here rests) ok
origins_keep shape before _ (Cuts nth client here) ghost base ok =
    origins_go shape ghost.chains ghost.chains ghost.published ghost.published nth before before.words client
    (client_cut client) here (cuts_goes shape before base ghost ok nth client here) ok

pub origins_reached : ReachedLaw
origins_reached shape limits rows loaded =
    reached_holds shape rows (opening_ghost shape rows) (ghost_step shape) limits loaded
    (λ store ghost. OriginsOk shape store ghost.chains ghost.published) (origins_open shape limits rows loaded)
    (λ before after ghost goes base ok. origins_keep shape before after goes ghost base ok)
