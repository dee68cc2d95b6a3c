-- Each step of a store: how the vector and the order go on, and that snapshots keep their moments.
use Rattle.std.proofs.Common.{List, None, Option, Some, [], ap, arith, map, refl, subst, sym, ℕ, ◌++◌, ◌+◌, ◌∙◌, ◌∷◌}
use Rattle.std.proofs.Common.{◌≡◌}
use Rattle.std.proofs.lemmas.List.{map-set}
use Rattle.nam_calls.specs.Memory.{memory}
use Rattle.nam_catalog.specs.declared.shape.Shape.{Shape}
use Rattle.nam_ghost.proofs.EntryLemmas.{IsNoEntry, commit_no_entry, entry_one}
use Rattle.nam_ghost.proofs.SnapshotLemmas.{observer_at, observer_ok}
use Rattle.nam_ghost.proofs.SteppingLemmas.{others_same, stepper_here}
use Rattle.nam_ghost.specs.Ghost.{Ghost, ghost_step}
use Rattle.nam_ghost.specs.Idle.{at_place}
use Rattle.nam_ghost.specs.Moments.{observer_of, vector_of}
use Rattle.nam_ghost.specs.Stepping.{stepper_after, stepper_before, stepping}
use Rattle.nam_ghost.specs.Steps.{order_after}
use Rattle.nam_layout.specs.declared.field.Field.TheVariants.{Entry}
use Rattle.nam_past.proofs.MomentLemmas.{Adds, OrderNext, Stays, next_stamp, past_keeps}
use Rattle.nam_past.specs.Past.{ArePast}
use Rattle.nam_past.specs.PastLaw.{KeepsLaw, RestsOn}
use Rattle.nam_protocol.specs.Commit.{own_stamp}
use Rattle.nam_protocol.specs.Sorts.{committing_at}
use Rattle.nam_protocol.specs.declared.client.Answer.{Answer}
use Rattle.nam_protocol.specs.declared.client.CallPoint.{CallPoint}
use Rattle.nam_protocol.specs.declared.client.CallPoint.TheVariants.{InTxn}
use Rattle.nam_protocol.specs.declared.client.ClientState.{ClientState}
use Rattle.nam_protocol.specs.declared.client.Open.{Open}
use Rattle.nam_protocol.specs.declared.txn.CommitPoint.TheVariants.{Publishing}
use Rattle.nam_protocol.specs.declared.txn.TxnPoint.TheVariants.{Committing}
use Rattle.nam_store.proofs.BaseLemmas.{client_within, does_law}
use Rattle.nam_store.proofs.KindsLemmas.{AllWritten}
use Rattle.nam_store.specs.Changed.{Does}
use Rattle.nam_store.specs.Store.{Abandons, Asks, Cuts, StepsTo, Store, Takes, client_at, step}
use Rattle.nam_verbs.specs.declared.now.Now.{Now}
use Rattle.si_model.specs.declared.log.Stamp.{Stamp}

module _ (shape : Shape) (store : Store) (rests : RestsOn shape store) (nth : ℕ) (client : ClientState) where
  abbrev vector : List ℕ → ℕ → ℕ
  vector words = vector_of (memory shape words)

  -- with the words after the client's verb
  abbrev Goes : ClientState → List Stamp → List Stamp → Type 0
  Goes before =
      OrderNext shape.workers (vector store.words) (vector (step shape store nth before).words)

  -- a commit publishes the number after its worker's entry
  publishes : (attempt : Open) (order : List Stamp) → let before = committing_at client attempt Publishing in
      client_at store nth ≡ Some before → Does shape store nth before
      → Goes before order (order ++ own_stamp attempt.state ∷ [])
  publishes attempt order here does =
      let before = committing_at client attempt Publishing in
      let own = (rests.base.clients nth before here).own in
      let worker_is : attempt.state.worker ≡ nth + 1 = own.opened.worker_is ∙ own.worker_is in
      let entry : Entry attempt.state.worker ≡ Entry (nth + 1) = ap (λ (worker : ℕ). Entry worker) worker_is in
      let last_is : attempt.state.last ≡ vector store.words nth =
      own.opened.last_is ∙ sym (observer_ok shape store rests.moments nth before here).entry in
      let within = client_within shape store rests.base nth before here in
      let stamp_is : next_stamp nth (vector store.words nth) ≡ own_stamp attempt.state =
      λ t. record { thread = sym worker_is t; number = sym last_is t + 1 } in
      subst (λ (stamp : Stamp). Goes before order (order ++ stamp ∷ [])) stamp_is
      (Adds nth within
      (ap (memory shape (step shape store nth before).words) (sym entry) ∙ does.changes.here
      ∙ ap (λ (last : ℕ). last + 1) last_is)
      (λ a less apart. does.changes.others (Entry (a + 1)) (omega arith, omega arith)
      (λ same. apart (entry_one a nth (same ∙ entry)))))

  -- by the point at which the client is; no other writes an entry
  takes : (opened : Option Open) (place : CallPoint) (order : List Stamp) → let before = at_place client opened place in
      client_at store nth ≡ Some before → Does shape store nth before
      → Goes before order (order_after opened place order)
  takes (Some attempt) (InTxn (Committing Publishing)) order here does = publishes attempt order here does
  takes (Some attempt) (InTxn (Committing at)) order here does =
      Stays (λ a less. does.leaves (Entry (a + 1)) (omega arith, omega arith)
      (λ same. subst (AllWritten IsNoEntry) same (commit_no_entry attempt.state at (λ e. e))))
  takes None (InTxn (Committing at)) order here does =
      absurd (rests.base.clients nth (at_place client None (InTxn (Committing at))) here).fits.2
  takes (Some attempt) place order here does =
      Stays (λ a less. does.kinds (Entry (a + 1)) (omega arith, omega arith) (λ may. may))
  takes None place order here does =
      Stays (λ a less. does.kinds (Entry (a + 1)) (omega arith, omega arith) (λ may. may))

-- whichever step it is
order_next : (shape : Shape) (before after : Store) (goes : StepsTo shape before after) (ghost : Ghost)
    → RestsOn shape before
    → OrderNext shape.workers (vector_of (memory shape before.words)) (vector_of (memory shape after.words))
    ghost.order (ghost_step shape before after goes ghost).order
order_next shape store _ (Takes nth client place here runs at) ghost rests =
    let With : Option (Now CallPoint Answer) → ClientState = λ call. record client { call = call } in
    subst (λ call. Goes shape store rests nth client (With call) ghost.order
    (order_after client.txn place ghost.order)) (sym at)
    (takes shape store rests nth client client.txn place ghost.order
    (subst (λ call. client_at store nth ≡ Some (With call)) at here)
    (subst (λ call. Does shape store nth (With call)) at (does_law shape store rests.base nth client place here at)))
order_next shape store _ (Asks nth client asked here may words) ghost rests = Stays (λ a less. refl)
order_next shape store _ (Abandons nth client here resting) ghost rests = Stays (λ a less. refl)
order_next shape store _ (Cuts nth client here) ghost rests = Stays (λ a less. refl)

pub past_keep : KeepsLaw
past_keep shape before after goes ghost rests next past =
    let later = (ghost_step shape before after goes ghost).order in
    let nth = stepping shape before after goes in
    let client = stepper_before shape before after goes in
    let then = stepper_after shape before after goes in
    let V = vector_of (memory shape before.words) in
    let now = vector_of (memory shape after.words) in
    let observers = map observer_of before.clients in
    subst (λ clients. ArePast shape.start shape.workers now (map observer_of clients) later)
    (sym (others_same shape before after goes))
    (subst (λ observers. ArePast shape.start shape.workers now observers later)
    (sym (map-set observer_of before.clients nth then))
    (past_keeps shape.start shape.workers V observers nth (observer_of client)
    (observer_at before nth client (stepper_here shape before after goes)) now (observer_of then)
    next ghost.order later past (order_next shape before after goes ghost rests)))
