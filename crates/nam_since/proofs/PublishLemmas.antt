-- A client that is about to publish: its commit is overtaken by none that is published, its number is new, and no
-- snapshot contains it.
use Rattle.std.proofs.Common.{List, Option, Some, [], ap, arith, inr, length, map, option_map, subst, sym, true, ℕ}
use Rattle.std.proofs.Common.{⊎_elim, ◌++◌, ◌+◌, ◌<◌, ◌∙◌, ◌∷◌, ◌≡◌, ◌≢◌, ◌≤◌, ◌⊎◌}
use Rattle.std.proofs.lemmas.Bool.{cases_lt, true≢false}
use Rattle.std.proofs.lemmas.Option.{slice_get-map}
use Rattle.nam_calls.specs.Memory.{memory}
use Rattle.nam_catalog.specs.declared.shape.Shape.{Shape}
use Rattle.nam_ghost.proofs.OrderLemmas.{IsSnap}
use Rattle.nam_ghost.proofs.SnapshotLemmas.{observer_at, observer_ok}
use Rattle.nam_ghost.specs.Commits.{CommitsOk}
use Rattle.nam_ghost.specs.Ghost.{Ghost}
use Rattle.nam_ghost.specs.Holders.{holder_at, holder_in, holder_of, record_row}
use Rattle.nam_ghost.specs.Locks.{HolderOk}
use Rattle.nam_ghost.specs.Moments.{IsCandidate, Observer, number_now, observer_of, vector_of}
use Rattle.nam_ghost.specs.Publications.{Publication, publication_of, published_version}
use Rattle.nam_ghost.specs.Since.{IsOvertaken, SinceOk, WasPublished}
use Rattle.nam_ghost.specs.Versions.{IsVersion, Version}
use Rattle.nam_header.specs.Visible.{is_visible}
use Rattle.nam_layout.specs.Rows.{width_at}
use Rattle.nam_protocol.proofs.FieldLemmas.{placed}
use Rattle.nam_protocol.specs.ClientFits.{NowFits, OpenFits}
use Rattle.nam_protocol.specs.Commit.{own_stamp, value_at}
use Rattle.nam_protocol.specs.Own.{OwnOpen, OwnsOpen}
use Rattle.nam_protocol.specs.TxnFits.{CommitFits, StateFits}
use Rattle.nam_protocol.specs.declared.client.Answer.{Answer}
use Rattle.nam_protocol.specs.declared.client.CallPoint.{CallPoint}
use Rattle.nam_protocol.specs.declared.client.CallPoint.TheVariants.{InTxn}
use Rattle.nam_protocol.specs.declared.client.ClientState.{ClientState}
use Rattle.nam_protocol.specs.declared.client.Open.{Open}
use Rattle.nam_protocol.specs.declared.txn.CommitPoint.TheVariants.{Publishing}
use Rattle.nam_protocol.specs.declared.txn.TxnPoint.TheVariants.{Committing}
use Rattle.nam_protocol.specs.declared.txn.TxnState.{TxnState}
use Rattle.nam_since.proofs.AddLemmas.{one_more, overtaken_cases, since_adds}
use Rattle.nam_since.proofs.CommitLemmas.{held_seen, written_seen}
use Rattle.nam_since.proofs.SightLemmas.{candidate_within}
use Rattle.nam_since.proofs.StayLemmas.{IsEntered, entered}
use Rattle.nam_store.proofs.BaseLemmas.{client_within}
use Rattle.nam_store.proofs.Lists.{some_within}
use Rattle.nam_store.specs.Store.{Store, client_at}
use Rattle.nam_verbs.specs.declared.now.Now.{Now}
use Rattle.nam_verbs.specs.declared.now.Now.TheVariants.{At}
use Rattle.si_model.specs.declared.log.Stamp.{Stamp}

abbrev pub runs_publishing : Option (Now CallPoint Answer)
runs_publishing = Some (At (InTxn (Committing Publishing)))

module _ (shape : Shape) (store : Store) (ghost : Ghost) (rests : CommitsOk shape store ghost)
    (since : SinceOk shape store ghost.published ghost.order) (nth : ℕ) (client : ClientState) (attempt : Open)
    (here : client_at store nth ≡ Some client) (runs : client.call ≡ runs_publishing)
    (opened : client.txn ≡ Some attempt) where
  abbrev state : TxnState
  state = attempt.state

  abbrev vector : ℕ → ℕ
  vector = vector_of (memory shape store.words)

  abbrev observers : List Observer
  observers = map observer_of store.clients

  -- 1. The client

  within : nth < shape.workers
  within = client_within shape store rests.base nth client here

  state_fits : StateFits shape state
  state_fits = subst (OpenFits shape) opened (rests.base.clients nth client here).fits.1

  commit_fits : CommitFits shape state Publishing
  commit_fits =
      subst (λ (x : Option Open × Option (Now CallPoint Answer)). NowFits shape x.0 x.1) (λ k. (opened k, runs k))
      (rests.base.clients nth client here).fits.2

  own : OwnsOpen client.worker client.last client.log.snaps attempt
  own =
      subst (OwnOpen client.worker client.last client.log.snaps) opened
      (rests.base.clients nth client here).own.opened

  thread_is : state.worker ≡ nth + 1
  thread_is = own.worker_is ∙ (rests.base.clients nth client here).own.worker_is

  -- its number is the one after its entry
  entry_is : vector nth ≡ state.last
  entry_is =
      (observer_ok shape store rests.moments nth client here).entry ∙ (λ k. number_now (runs k) client.last)
      ∙ sym own.last_is

  holds : HolderOk shape (memory shape store.words) ghost.chains nth (holder_at state Publishing)
  holds =
      subst (HolderOk shape (memory shape store.words) ghost.chains nth)
      (λ k. holder_in client.worker (runs k) (opened k))
      (rests.locks.each nth (holder_of client)
      (slice_get-map holder_of store.clients nth ∙ ap (option_map holder_of) here))

  took : IsSnap observers state.seen
  took = (nth, (observer_of client, (observer_at store nth client here, own.listed)))

  -- 2. It has seen each version of its records but its own

  pub record_seen : (p : ℕ) → p < length state.records → (version : Version)
      → IsVersion (ghost.chains (record_row state p)) version
      → (version.stamp ≡ own_stamp state) ⊎ (is_visible version.stamp state.seen ≡ true)
  record_seen p less version is =
      let row = record_row state p in
      let chain = ghost.chains row in
      let chain_ok = rests.chains row (placed shape rests.base.limits state state_fits commit_fits.0 p less).row_is in
      let width = width_at shape.tables row in
      let entry = entry_is in
      let all = commit_fits.2.0 in
      let sees : length state.writes ≤ p → is_visible chain.now.stamp state.seen ≡ true =
      λ guarded. (holds.held p record { begins = guarded; ends = omega arith }).sees in
      ⊎_elim (λ (written : p < length state.writes).
      written_seen shape.start shape.workers vector observers rests.moments width chain chain_ok state.seen
      (own_stamp state) nth within thread_is (omega arith) (value_at state p) version (holds.installed p written) is)
      (λ (guarded : length state.writes ≤ p).
      inr (held_seen shape.start shape.workers vector observers rests.moments width chain chain_ok state.seen took
      (sees guarded) version is))
      (cases_lt p (length state.writes))

  -- so it is overtaken by none that is published
  last : (second : Publication) → WasPublished ghost.published second → IsOvertaken (publication_of state) second → ⊥
  last second was (p, q, less, written, same, apart, unseen) =
      let all = rests.moments.all in
      let inside = since.inside was.0 second was.1 in
      let observer = some_within observers was.0 (omega arith) in
      let there = (rests.published was.0 observer.0 observer.1).installed second was.1 q written in
      ⊎_elim (λ (e : second.stamp ≡ own_stamp state). apart (sym e))
      (λ sees. true≢false (sym sees ∙ unseen))
      (record_seen p less (published_version second q)
      (subst (λ row. IsVersion (ghost.chains row) (published_version second q)) (sym same) there))

  -- 3. Its stamp is new

  was_entered : (commit : Publication) → WasPublished ghost.published commit
      → IsEntered shape.workers vector commit.stamp
  was_entered =
      entered shape.start shape.workers vector observers rests.moments ghost.chains ghost.published rests.published
      since.inside

  pub fresh : (other : Publication) → WasPublished ghost.published other → other.stamp ≢ own_stamp state
  fresh other was same =
      let is = was_entered other was in
      let by = ap (λ (s : Stamp). s.thread) same in
      let number = ap (λ (s : Stamp). s.number) same in
      let thread = is.thread in
      let own_thread = thread_is in
      let entry = entry_is in
      let reached = is.reached in
      let worker : is.worker ≡ nth = omega arith in
      let last : vector is.worker ≡ state.last = ap vector worker ∙ entry in
      omega arith

  hidden : (s : List ℕ) (confirmed : ℕ) → IsCandidate shape.workers observers s confirmed
      → is_visible (own_stamp state) s ≡ true → ⊥
  hidden s confirmed is =
      let entry = entry_is in
      candidate_within shape.start shape.workers vector observers rests.moments s confirmed is (own_stamp state) nth
      within thread_is (omega arith)

  -- 4. With the vector as it is before the word

  abbrev pub published : ℕ → List Publication
  published = one_more ghost.published nth (publication_of state)

  pub publishes : SinceOk shape store published (ghost.order ++ own_stamp state ∷ [])
  publishes =
      since_adds ghost.published nth (publication_of state) shape.workers vector observers ghost.order since within
      fresh last hidden

  -- the vector has reached each that is overtaken
  pub publishes_entered : (first second : Publication) → WasPublished published first → WasPublished published second
      → IsOvertaken first second → IsEntered shape.workers vector first.stamp
  publishes_entered =
      overtaken_cases ghost.published nth (publication_of state)
      (λ first second. IsEntered shape.workers vector first.stamp) last
      (λ first second was is over. was_entered first was) was_entered
