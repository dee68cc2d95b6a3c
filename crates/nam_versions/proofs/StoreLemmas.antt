-- Each step of a store is a turn, and keeps what is claimed of chains and publications.
use Rattle.std.proofs.Common.{Option, Some, map, refl, subst, sym, ℕ, ◌∙◌, ◌≡◌}
use Rattle.std.proofs.lemmas.List.{map-set}
use Rattle.nam_calls.specs.Memory.{memory}
use Rattle.nam_catalog.specs.declared.shape.Shape.{Shape}
use Rattle.nam_ghost.specs.Idle.{at_place}
use Rattle.nam_ghost.proofs.ListLemmas.{front_listed}
use Rattle.nam_ghost.proofs.SnapshotLemmas.{observer_at, observer_ok}
use Rattle.nam_ghost.specs.Chains.{ChainOk}
use Rattle.nam_ghost.specs.Commits.{CommitsOk}
use Rattle.nam_ghost.specs.Ghost.{Ghost, ghost_after, ghost_step}
use Rattle.nam_ghost.specs.Locks.{LocksOk}
use Rattle.nam_ghost.specs.Moments.{MomentsNext, MomentsOk, ObserverNext, entry_in, observer_of, vector_of}
use Rattle.nam_ghost.specs.Publications.{PublicationsOk}
use Rattle.nam_layout.specs.Rows.{width_at}
use Rattle.nam_protocol.proofs.Grows.{grows_same, logs_grow}
use Rattle.nam_protocol.specs.Client.{client_abandon, client_after, client_ask}
use Rattle.nam_protocol.specs.CutClient.{client_cut}
use Rattle.nam_protocol.specs.Grows.{Grows}
use Rattle.nam_protocol.specs.declared.client.Answer.{Answer}
use Rattle.nam_protocol.specs.declared.client.CallPoint.{CallPoint}
use Rattle.nam_protocol.specs.declared.client.ClientState.{ClientState}
use Rattle.nam_protocol.specs.declared.client.Open.{Open}
use Rattle.nam_store.proofs.BaseLemmas.{does_law}
use Rattle.nam_store.specs.Base.{BaseOk}
use Rattle.nam_store.specs.Everyone.{Everyone}
use Rattle.nam_store.specs.Store.{Abandons, Asks, Cuts, StepsTo, Store, Takes, client_at, found_word, step, with_client}
use Rattle.nam_verbs.specs.declared.now.Now.{Now}
use Rattle.nam_versions.proofs.ChainLemmas.{chain_goes, chain_next, versions_grow}
use Rattle.nam_versions.proofs.PublishedLemmas.{published_goes}
use Rattle.nam_versions.proofs.TurnLemmas.{RisesAs, entry_goes, word_chains, word_published}
use Rattle.nam_versions.specs.Turn.{Keeps, Stays, Turn}
use Rattle.nam_versions.specs.ChainsLaw as chains
use Rattle.nam_versions.specs.PublishedLaw as published

-- 1. A step is a turn

module _ (shape : Shape) (store : Store) (base : BaseOk shape store) (moments : MomentsOk shape store) (ghost : Ghost)
    (ok : LocksOk shape store ghost.chains) (nth : ℕ) where
  -- what the word of a client owes
  abbrev WordNext : ClientState → Type 0
  WordNext before =
      ObserverNext shape.start shape.workers (entry_in shape store) (entry_in shape (step shape store nth before)) nth
      (observer_of before) (observer_of (client_after shape before (found_word shape store before)))

  -- a word is taken
  takes : (client : ClientState) (opened : Option Open) (place : CallPoint)
      → let before = at_place client opened place in client_at store nth ≡ Some before
      → WordNext before → Turn shape store (step shape store nth before) ghost
      (ghost_after shape nth before place (found_word shape store before) ghost)
  takes client opened place here next =
      let before = at_place client opened place in
      let found = found_word shape store before in
      let after = client_after shape before found in
      let does = does_law shape store base nth before place here refl in
      let was = observer_ok shape store moments nth before here in
      record {
        nth = nth;
        was = observer_of before;
        is = observer_of after;
        here = observer_at store nth before here;
        observers = map-set observer_of store.clients nth after;
        more = front_listed before.log.snaps after.log.snaps ((logs_grow shape).word before found).snaps;
        chains = word_chains shape store base moments ghost.chains ok nth client opened place found here;
        published = word_published shape store base moments ghost.chains ok nth client opened place
            (observer_of after) ghost.published here
            (subst (λ (x : ℕ × ℕ). RisesAs opened place x.0 x.1) (λ t. (was.entry t, next.own.entry t))
            (entry_goes shape store base moments ghost.chains ok nth client opened place here does));
      }

  -- the words are as they were
  unmoved : (client after : ClientState) → client_at store nth ≡ Some client
      → let V = vector_of (memory shape store.words) in
      ObserverNext shape.start shape.workers V V nth (observer_of client) (observer_of after)
      → Grows client.log after.log → Turn shape store (with_client store nth after) ghost ghost
  unmoved client after here next grows = record {
    nth = nth;
    was = observer_of client;
    is = observer_of after;
    here = observer_at store nth client here;
    observers = map-set observer_of store.clients nth after;
    more = front_listed client.log.snaps after.log.snaps grows.snaps;
    chains = λ row. Stays refl refl;
    published = Keeps (sym next.own.entry ∙ (observer_ok shape store moments nth client here).entry);
  }

pub step_turn : (shape : Shape) (before after : Store) (goes : StepsTo shape before after) (ghost : Ghost)
    → CommitsOk shape before ghost → MomentsNext shape before after goes
    → Turn shape before after ghost (ghost_step shape before after goes ghost)
step_turn shape store _ (Takes nth client place here runs at) ghost ok next =
    let At : Option (Now CallPoint Answer) → ClientState = λ call. record client { call = call } in
    subst (λ call. WordNext shape store ok.base ok.moments ghost ok.locks nth (At call)
    → Turn shape store (step shape store nth (At call)) ghost
    (ghost_after shape nth (At call) place (found_word shape store (At call)) ghost)) (sym at)
    (takes shape store ok.base ok.moments ghost ok.locks nth client client.txn place
    (subst (λ call. client_at store nth ≡ Some (At call)) at here)) next
step_turn shape store _ (Asks nth client asked here may words) ghost ok next =
    unmoved shape store ok.base ok.moments ghost ok.locks nth client (client_ask shape client asked) here next
    ((logs_grow shape).asked client asked)
step_turn shape store _ (Abandons nth client here is) ghost ok next =
    unmoved shape store ok.base ok.moments ghost ok.locks nth client (client_abandon client) here next
    ((logs_grow shape).abandoned client)
step_turn shape store _ (Cuts nth client here) ghost ok next =
    unmoved shape store ok.base ok.moments ghost ok.locks nth client (client_cut client) here next
    (grows_same client.log)

-- 2. What is claimed is kept

pub chains_keep : chains.KeepsLaw
chains_keep shape before after goes ghost ok next row is =
    let turn = step_turn shape before after goes ghost ok next in
    let later = ghost_step shape before after goes ghost in
    let width = width_at shape.tables row in
    subst (λ observers. ChainOk width observers (later.chains row)) (sym turn.observers)
    (chain_goes shape.start shape.workers (vector_of (memory shape before.words)) (map observer_of before.clients)
    ok.moments turn.nth turn.was turn.here width (ghost.chains row) (ok.chains row is) turn.is turn.more
    (later.chains row) (turn.chains row))

pub chains_next : chains.NextLaw
chains_next shape before after goes ghost ok next row is =
    let turn = step_turn shape before after goes ghost ok next in
    let later = ghost_step shape before after goes ghost in
    chain_next shape.start shape.workers (vector_of (memory shape before.words)) (map observer_of before.clients)
    ok.moments turn.nth turn.was turn.here (width_at shape.tables row) (ghost.chains row) (ok.chains row is)
    (later.chains row) (turn.chains row)

pub published_keep : published.KeepsLaw
published_keep shape before after goes ghost ok next =
    let turn = step_turn shape before after goes ghost ok next in
    let later = ghost_step shape before after goes ghost in
    subst (Everyone (PublicationsOk shape.start later.chains later.published)) (sym turn.observers)
    (published_goes shape.start ghost.chains later.chains
    (λ row. versions_grow (width_at shape.tables row) turn.nth turn.was (ghost.chains row) (later.chains row)
    (turn.chains row)) (map observer_of before.clients) turn.nth turn.was turn.is turn.here ghost.published
    later.published turn.published ok.published)
