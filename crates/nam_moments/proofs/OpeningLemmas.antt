-- The opening of a store meets what is claimed of the moments of snapshots: each entry is the start, and nobody has
-- taken a snapshot.
use Rattle.std.proofs.Common.{List, Some, ap, arith, inl, inr, map, subst, sym, ℕ, ◌+◌, ◌<◌, ◌∙◌, ◌≡◌}
use Rattle.std.proofs.lemmas.List.{length-map}
use Rattle.std.specs.Prelude.{slice_get}
use Rattle.nam_catalog.specs.declared.shape.Shape.{Shape}
use Rattle.nam_ghost.proofs.ObserverLemmas.{observed_client}
use Rattle.nam_ghost.specs.Moments.{IsCandidate, IsCandidateOf, Observer, ObserverOk, entry_in, observer_of}
use Rattle.nam_layout.specs.declared.field.Field.TheVariants.{Entry}
use Rattle.nam_moments.specs.MomentsLaw.{OpensLaw}
use Rattle.nam_protocol.proofs.OpeningLemmas.{opening_law}
use Rattle.nam_protocol.specs.Telling.{new_client}
use Rattle.nam_store.proofs.OpeningLemmas.{new_workers, opening_client}
use Rattle.nam_store.specs.Opening.{AreLoaded, opening_store}
use Rattle.nam_store.specs.Store.{Store}
use Rattle.si_model.specs.declared.row.Row.{Row}

module _ (shape : Shape) (rows : List Row) (loaded : AreLoaded shape rows) where
  abbrev store : Store
  store = opening_store shape rows

  entry_starts : (a : ℕ) → a < shape.workers → entry_in shape store a ≡ shape.start
  entry_starts a less =
      (opening_law shape rows loaded.of_tables).untouched (Entry (a + 1)) (omega arith, omega arith) tt

  abbrev starting : ℕ → Observer
  starting nth = observer_of (new_client (nth + 1) shape.start)

  starts : (nth : ℕ) (observer : Observer) → slice_get (map observer_of store.clients) nth ≡ Some observer
      → (nth < shape.workers) × (starting nth ≡ observer)
  starts nth observer e =
      let t = observed_client store.clients nth observer e in
      let new = opening_client shape rows nth t.0 t.1 in
      (new.0, sym (ap observer_of new.1) ∙ t.2)

  no_candidate : (s : List ℕ) (confirmed : ℕ)
      → IsCandidate shape.workers (map observer_of store.clients) s confirmed → ⊥
  no_candidate s confirmed (nth, (observer, (e, is))) =
      none (subst (λ x. IsCandidateOf shape.workers x s confirmed) (sym (starts nth observer e).1) is)
    where
      none : IsCandidateOf shape.workers (starting nth) s confirmed → ⊥
      none (inl passing) = passing
      none (inr (whole, listed)) = listed

  pub opening_each : (nth : ℕ) (observer : Observer) → slice_get (map observer_of store.clients) nth ≡ Some observer
      → ObserverOk shape.start shape.workers (entry_in shape store) nth observer
  opening_each nth observer e =
      let t = starts nth observer e in
      subst (ObserverOk shape.start shape.workers (entry_in shape store) nth) t.1
      record { entry = entry_starts nth t.0; pass = tt; finds_own = tt; wide = λ s listed. absurd listed }

pub opening_moments : OpensLaw
opening_moments shape limits rows loaded = record {
  all = length-map (opening_store shape rows).clients observer_of ∙ new_workers shape.start 1 shape.workers;
  least = λ a less. let starts = entry_starts shape rows loaded a less in omega arith;
  each = opening_each shape rows loaded;
  moments = record {
    within = λ s confirmed is. absurd (no_candidate shape rows loaded s confirmed is);
    ordered = λ s t k l one two u v. absurd (no_candidate shape rows loaded s k one);
  };
}
