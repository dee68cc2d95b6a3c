-- Each step of a store keeps what is said of guards and of the order of publication.
use Rattle.std.proofs.Common.{List, None, Option, Some, [], map, refl, subst, sym, ℕ, ◌++◌, ◌∙◌, ◌∷◌, ◌≡◌}
use Rattle.std.proofs.lemmas.List.{map-set}
use Rattle.nam_calls.specs.Memory.{memory}
use Rattle.nam_catalog.specs.declared.shape.Shape.{Shape}
use Rattle.nam_ghost.proofs.SnapshotLemmas.{observer_at}
use Rattle.nam_ghost.proofs.SteppingLemmas.{others_same, stepper_here}
use Rattle.nam_ghost.specs.Commits.{CommitsOk}
use Rattle.nam_ghost.specs.Ghost.{Ghost, ghost_step}
use Rattle.nam_ghost.specs.Moments.{observer_of, vector_of}
use Rattle.nam_ghost.specs.Publications.{Publication, publication_of}
use Rattle.nam_ghost.specs.Since.{IsOvertaken, IsSince, SinceOk, WasPublished}
use Rattle.nam_ghost.specs.Stepping.{stepper_after, stepper_before, stepping}
use Rattle.nam_ghost.specs.Steps.{order_after, published_after}
use Rattle.nam_protocol.specs.Commit.{own_stamp}
use Rattle.nam_protocol.specs.declared.client.CallPoint.{CallPoint}
use Rattle.nam_protocol.specs.declared.client.CallPoint.TheVariants.{InTxn}
use Rattle.nam_protocol.specs.declared.client.Open.{Open}
use Rattle.nam_protocol.specs.declared.txn.CommitPoint.TheVariants.{Publishing}
use Rattle.nam_protocol.specs.declared.txn.TxnPoint.TheVariants.{Committing}
use Rattle.nam_since.proofs.AddLemmas.{one_more}
use Rattle.nam_since.proofs.PublishLemmas.{publishes, publishes_entered, runs_publishing}
use Rattle.nam_since.proofs.StayLemmas.{IsEntered, entered, since_stays, stays_entered}
use Rattle.nam_since.specs.SinceLaw.{KeepsLaw}
use Rattle.nam_store.specs.Store.{Abandons, Asks, Cuts, StepsTo, Store, Takes}
use Rattle.nam_verbs.specs.declared.now.Now.TheVariants.{At}
use Rattle.si_model.specs.declared.log.Stamp.{Stamp}

-- what the verb of a point makes of publications and their order: nothing, or one more where a commit publishes
published_cases : (P : (ℕ → List Publication) → List Stamp → Type 0) (nth : ℕ) (published : ℕ → List Publication)
    (order : List Stamp) (opened : Option Open) (place : CallPoint) → P published order
    → ((attempt : Open) → opened ≡ Some attempt → place ≡ InTxn (Committing Publishing)
    → P (one_more published nth (publication_of attempt.state)) (order ++ own_stamp attempt.state ∷ []))
    → P (published_after nth opened place published) (order_after opened place order)
published_cases P nth published order None place same more = same
published_cases P nth published order (Some attempt) (InTxn (Committing Publishing)) same more = more attempt refl refl
published_cases P nth published order (Some attempt) (InTxn (Committing _)) same more = same
published_cases P nth published order (Some attempt) (InTxn _) same more = same
published_cases P nth published order (Some attempt) _ same more = same

-- Of publications and an order after the step, with the vector and the clients before it: what is claimed holds, and
-- the vector has reached each publication that is overtaken.
pub record Holds (shape : Shape) (store : Store) (published : ℕ → List Publication) (order : List Stamp) : Type 0 where
  pub since : SinceOk shape store published order
  pub reaches : (first second : Publication) → WasPublished published first → WasPublished published second
      → IsOvertaken first second → IsEntered shape.workers (vector_of (memory shape store.words)) first.stamp

module _ (shape : Shape) (store : Store) (ghost : Ghost) (rests : CommitsOk shape store ghost)
    (since : SinceOk shape store ghost.published ghost.order) where
  held : Holds shape store ghost.published ghost.order
  held = record {
    since = since;
    reaches = λ first second was is over.
        entered shape.start shape.workers (vector_of (memory shape store.words)) (map observer_of store.clients)
        rests.moments ghost.chains ghost.published rests.published since.inside first was;
  }

  pub goes_holds : (after : Store) (goes : StepsTo shape store after)
      → let later = ghost_step shape store after goes ghost in Holds shape store later.published later.order
  goes_holds _ (Takes nth client place here runs at) =
      published_cases (Holds shape store) nth ghost.published ghost.order client.txn place held
      (λ attempt opened is.
      let running : client.call ≡ runs_publishing = at ∙ (λ k. Some (At (is k))) in
      record {
        since = publishes shape store ghost rests since nth client attempt here running opened;
        reaches = publishes_entered shape store ghost rests since nth client attempt here running opened;
      })
  goes_holds _ (Asks nth client asked here may words) = held
  goes_holds _ (Abandons nth client here rests) = held
  goes_holds _ (Cuts nth client here) = held

pub since_keep : KeepsLaw
since_keep shape before after goes ghost ok next since =
    let later = ghost_step shape before after goes ghost in
    let holds = goes_holds shape before ghost ok since after goes in
    let nth = stepping shape before after goes in
    let client = stepper_before shape before after goes in
    let V = vector_of (memory shape before.words) in
    let now = vector_of (memory shape after.words) in
    let observers = map observer_of before.clients in
    let is = observer_of (stepper_after shape before after goes) in
    let here = observer_at before nth client (stepper_here shape before after goes) in
    subst (λ clients. IsSince shape.workers now (map observer_of clients) later.published later.order)
    (sym (others_same shape before after goes))
    (subst (λ observers. IsSince shape.workers now observers later.published later.order)
    (sym (map-set observer_of before.clients nth (stepper_after shape before after goes)))
    (since_stays shape.start shape.workers V observers ok.moments nth (observer_of client) here now is next
    later.published later.order holds.since
    (λ first second was over_was over.
    stays_entered shape.start shape.workers V observers ok.moments nth (observer_of client) here now is next
    first.stamp (holds.reaches first second was over_was over))))
