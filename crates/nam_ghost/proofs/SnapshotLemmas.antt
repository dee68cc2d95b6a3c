-- Snapshots that were taken, and what a client is as an observer of the vector.
use Rattle.std.proofs.Common.{Bool, List, Some, ap, arith, false, inr, length, map, option_map, refl, subst, sym, true}
use Rattle.std.proofs.Common.{ℕ, ◌+◌, ◌<◌, ◌∙◌, ◌≡◌, ◌≤◌}
use Rattle.std.proofs.lemmas.Option.{slice_get-map}
use Rattle.std.specs.Prelude.{if◌then◌else◌, slice_get, ◌^◌}
use Rattle.nam_catalog.specs.Greatest.{greatest_number}
use Rattle.nam_catalog.specs.declared.form.Form.{Form}
use Rattle.nam_catalog.specs.declared.form.Form.TheVariants.{Held, Narrow, Wide}
use Rattle.nam_catalog.specs.declared.shape.Shape.{Shape}
use Rattle.nam_ghost.proofs.ObserverLemmas.{entries_rise, observed_client}
use Rattle.nam_ghost.proofs.OrderLemmas.{IsSnap}
use Rattle.nam_ghost.proofs.SteppingLemmas.{stepper_here}
use Rattle.nam_ghost.specs.Moments.{AreFound, AreOrdered, EntriesRise, IsCandidate, IsTaken, MomentsNext, MomentsOk}
use Rattle.nam_ghost.specs.Moments.{Observer, ObserverOk, entry_in, has_published, number_now, observer_of}
use Rattle.nam_ghost.specs.Stepping.{stepper_after, stepper_before, stepping}
use Rattle.nam_protocol.specs.declared.client.ClientState.{ClientState}
use Rattle.nam_store.proofs.Lists.{some_within}
use Rattle.nam_store.specs.Base.{BaseOk}
use Rattle.nam_store.specs.Store.{StepsTo, Store, client_at}
use Rattle.si_model.specs.Lists.{Listed}

-- 1. Clients as observers, and what they have taken

module _ (store : Store) where
  pub observer_at : (nth : ℕ) (client : ClientState) → client_at store nth ≡ Some client
      → slice_get (map observer_of store.clients) nth ≡ Some (observer_of client)
  observer_at nth client here = slice_get-map observer_of store.clients nth ∙ ap (option_map observer_of) here

  pub taken_snap : (s : List ℕ) → IsTaken store s → IsSnap (map observer_of store.clients) s
  taken_snap s (nth, (client, (here, listed))) = (nth, (observer_of client, (observer_at nth client here, listed)))

  pub snap_taken : (s : List ℕ) → IsSnap (map observer_of store.clients) s → IsTaken store s
  snap_taken s (nth, (observer, (here, listed))) =
      let client = observed_client store.clients nth observer here in
      (nth, (client.0, (client.1, subst (λ (o : Observer). Listed s o.snaps) (sym client.2) listed)))

  pub taken_candidate : (workers : ℕ) (s : List ℕ) → IsTaken store s
      → IsCandidate workers (map observer_of store.clients) s workers
  taken_candidate workers s (nth, (client, (here, listed))) =
      (nth, (observer_of client, (observer_at nth client here, inr (refl, listed))))

-- 2. In a store that meets what is claimed

module _ (shape : Shape) (store : Store) (ok : MomentsOk shape store) where
  pub observer_ok : (nth : ℕ) (client : ClientState) → client_at store nth ≡ Some client
      → ObserverOk shape.start shape.workers (entry_in shape store) nth (observer_of client)
  observer_ok nth client here = ok.each nth (observer_of client) (observer_at store nth client here)

  -- its entry is what it has published
  pub entry_is : (nth : ℕ) (client : ClientState) → client_at store nth ≡ Some client
      → entry_in shape store nth ≡ number_now client.call client.last
  entry_is nth client here = (observer_ok nth client here).entry

  pub taken_wide : (s : List ℕ) → IsTaken store s → length s ≡ shape.workers
  taken_wide s (nth, (client, (here, listed))) = (observer_ok nth client here).wide s listed

  pub taken_ordered : (s t : List ℕ) → IsTaken store s → IsTaken store t → AreOrdered shape.workers s t
  taken_ordered s t one two =
      ok.moments.ordered s t shape.workers shape.workers (taken_candidate store shape.workers s one)
      (taken_candidate store shape.workers t two)
      (λ a from less. absurd (omega arith)) (λ a from less. absurd (omega arith))

  pub taken_found : (s : List ℕ) → IsTaken store s → AreFound shape.start (entry_in shape store) shape.workers s
  taken_found s is = ok.moments.within s shape.workers (taken_candidate store shape.workers s is)

-- 3. Entries are small

-- no number is far from the greatest one
pub greatest_small : (form : Form) → greatest_number form < 2 ^ 45
greatest_small Narrow = omega arith
greatest_small Wide = omega arith
greatest_small Held = omega arith

-- no entry is above a commit's next number
pub entry_small : (shape : Shape) (store : Store) → BaseOk shape store → MomentsOk shape store → (a : ℕ)
    → a < shape.workers → entry_in shape store a ≤ greatest_number shape.form + 1
entry_small shape store base moments a less =
    let all = base.workers in
    let t = some_within store.clients a (omega arith) in
    let is = entry_is shape store moments a t.0 t.1 in
    let last = (base.clients a t.0 t.1).fits.3 in
    let more = one_more (has_published t.0.call) t.0.last in
    omega arith
  where
    one_more : (published : Bool) (last : ℕ) → (if published then last + 1 else last) ≤ last + 1
    one_more true last = omega arith
    one_more false last = omega arith

-- 4. By what the client of a step owes

pub entries_go : (shape : Shape) (before after : Store) (goes : StepsTo shape before after) → MomentsOk shape before
    → MomentsNext shape before after goes → EntriesRise shape before after
entries_go shape before after goes ok next =
    entries_rise shape.start shape.workers (entry_in shape before) (map observer_of before.clients) ok
    (stepping shape before after goes) (observer_of (stepper_before shape before after goes))
    (observer_at before (stepping shape before after goes) (stepper_before shape before after goes)
    (stepper_here shape before after goes)) (entry_in shape after)
    (observer_of (stepper_after shape before after goes)) next
