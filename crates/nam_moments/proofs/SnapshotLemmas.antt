-- What follows of the vector, of snapshots that were taken, and of one in its second pass.
use Rattle.std.proofs.Common.{List, Some, ap, arith, inl, inr, length, map, refl, subst, sym, ℕ, ◌-◌, ◌∙◌, ◌≡◌, ◌≤◌}
use Rattle.std.proofs.Common.{◌⊎◌}
use Rattle.std.proofs.lemmas.Bool.{cases_lt}
use Rattle.std.proofs.lemmas.List.{get_or_past}
use Rattle.std.specs.Prelude.{slice_index}
use Rattle.nam_catalog.specs.declared.shape.Shape.{Shape}
use Rattle.nam_ghost.proofs.SnapshotLemmas.{entry_is, observer_at, observer_ok, taken_candidate, taken_found}
use Rattle.nam_ghost.proofs.SnapshotLemmas.{taken_ordered, taken_wide}
use Rattle.nam_ghost.specs.Moments.{AreFound, AreOrdered, AtMost, FindsOwn, IsCandidate, IsFollowing, IsPassing}
use Rattle.nam_ghost.specs.Moments.{IsTaken, IsUnpassed, MomentsOk, PassOk, entry_in, number_now, observer_of, pass_of}
use Rattle.nam_moments.proofs.OpeningLemmas.{opening_moments}
use Rattle.nam_moments.proofs.SnapLemmas.{done_is}
use Rattle.nam_moments.proofs.StepLemmas.{moments_kept}
use Rattle.nam_moments.specs.MomentsLaw.{EntryLaw, ReachedLaw}
use Rattle.nam_moments.specs.SnapshotsLaw.{AreSnapshots, IsContainedIn, SnapshotsLaw}
use Rattle.nam_protocol.specs.Own.{OwnOpen}
use Rattle.nam_protocol.specs.declared.client.ClientState.{ClientState}
use Rattle.nam_protocol.specs.declared.client.Open.{Open}
use Rattle.nam_store.proofs.ReachedLemmas.{reached_holds}
use Rattle.nam_store.specs.Base.{BaseOk}
use Rattle.nam_store.specs.Reached.{no_ghost}
use Rattle.nam_store.specs.Store.{Store, client_at}
use Rattle.nam_vector.specs.Snap.{snap_after}
use Rattle.nam_vector.specs.declared.snap.SnapEnd.TheVariants.{Done}
use Rattle.nam_vector.specs.declared.snap.SnapPoint.{SnapPoint}
use Rattle.nam_vector.specs.declared.snap.SnapPoint.TheVariants.{Second}
use Rattle.nam_verbs.specs.declared.now.Now.TheVariants.{Over}
use Rattle.si_model.proofs.SnapshotLemmas.{contains_is, contains_says}

-- 1. Each store that comes about

pub moments_reached : ReachedLaw
moments_reached shape limits rows loaded store reached =
    reached_holds {G = Unit {0}} shape rows tt no_ghost limits loaded (λ s ghost. MomentsOk shape s)
    (opening_moments shape limits rows loaded)
    (λ before after ghost goes base ok. moments_kept shape before after goes base ok) store tt reached

-- 2. By what snapshots contain

-- an entry of a worker that there isn't is 0 in both
below : (workers : ℕ) (s t : List ℕ) → length s ≡ workers → AtMost workers s t → (a : ℕ)
    → slice_index s a ≤ slice_index t a
below workers s t wide most a = elim (cases_lt a workers) [
  | inl less ↦ most a less
  | inr past ↦ let none = get_or_past s a 0 (omega arith) in omega arith
]

pub contained_by : (workers : ℕ) (s t : List ℕ) → length s ≡ workers → AtMost workers s t → IsContainedIn s t
contained_by workers s t wide most stamp is =
    let says = contains_says s stamp is in
    let less = below workers s t wide most (stamp.thread - 1) in contains_is t stamp says.0 (omega (arith, says.1))

pub either_contained : (workers : ℕ) (s t : List ℕ) → length s ≡ workers → length t ≡ workers → AreOrdered workers s t
    → IsContainedIn s t ⊎ IsContainedIn t s
either_contained workers s t long wide (inl most) = inl (contained_by workers s t long most)
either_contained workers s t long wide (inr most) = inr (contained_by workers t s wide most)

module _ (shape : Shape) (store : Store) (ok : MomentsOk shape store) where
  -- 3. Snapshots that were taken

  pub are_snapshots : AreSnapshots shape store
  are_snapshots = record {
    wide = taken_wide shape store ok;
    published = taken_found shape store ok;
    ordered = taken_ordered shape store ok;
    prefixes = λ s t one two.
        either_contained shape.workers s t (taken_wide shape store ok s one) (taken_wide shape store ok t two)
        (taken_ordered shape store ok s t one two);
  }

  -- that of an open transaction was taken
  pub open_taken : BaseOk shape store → (nth : ℕ) (client : ClientState) (attempt : Open)
      → client_at store nth ≡ Some client → client.txn ≡ Some attempt → IsTaken store attempt.state.seen
  open_taken base nth client attempt here at =
      let own = subst (OwnOpen client.worker client.last client.log.snaps) at (base.clients nth client here).own.opened
      in (nth, (client, (here, own.listed)))

  -- 4. A snapshot in its second pass, with so many entries confirmed

  module _ (nth : ℕ) (client : ClientState) (here : client_at store nth ≡ Some client) (s : List ℕ) (confirmed : ℕ)
      (at : pass_of client.call ≡ Some (Second s confirmed)) where
    pub passing_candidate : IsCandidate shape.workers (map observer_of store.clients) s confirmed
    passing_candidate = (
      nth,
      (
        observer_of client,
        (
          observer_at store nth client here,
          inl (subst (λ pass. IsPassing pass s confirmed) (sym at) (refl, refl)),
        ),
      ),
    )

    pub passing_within : AreFound shape.start (entry_in shape store) shape.workers s
    passing_within = ok.moments.within s confirmed passing_candidate

    -- where the vector has passed no entry that isn't confirmed, it is ordered with each snapshot that was taken
    pub passing_ordered : IsUnpassed shape.workers (entry_in shape store) s confirmed → (t : List ℕ) → IsTaken store t
        → AreOrdered shape.workers s t
    passing_ordered unpassed t taken =
        ok.moments.ordered s t confirmed shape.workers passing_candidate
        (taken_candidate store shape.workers t taken) unpassed
        (λ a from less. absurd (omega arith))

  -- one that its next word ends is no less than those that the client has taken, and has all that it has published
  pub done_has : (nth : ℕ) (client : ClientState) → client_at store nth ≡ Some client → (point : SnapPoint)
      → pass_of client.call ≡ Some point → (found : ℕ) (seen : List ℕ)
      → snap_after shape.workers point found ≡ Over (Done seen)
      → IsFollowing shape.workers client.log.snaps seen × (slice_index seen nth ≡ number_now client.call client.last)
  done_has nth client here point at found seen e =
      let own = observer_ok shape store ok nth client here in
      let done = done_is shape.workers point found seen e in
      let is : pass_of client.call ≡ Some (Second seen done.0) = at ∙ ap Some done.1 in
      let pass = subst (PassOk shape.start shape.workers (entry_in shape store) client.log.snaps) is own.pass in
      (pass.2, subst (FindsOwn nth (number_now client.call client.last)) is own.finds_own)

-- 5. The laws

pub entry_law : EntryLaw
entry_law shape limits rows loaded store reached =
    entry_is shape store (moments_reached shape limits rows loaded store reached)

pub taken_law : SnapshotsLaw
taken_law shape limits rows loaded store reached =
    are_snapshots shape store (moments_reached shape limits rows loaded store reached)
