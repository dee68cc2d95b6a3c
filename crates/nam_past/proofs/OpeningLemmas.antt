-- At the opening nothing is published: each entry is the start, and nobody has taken a snapshot.
use Rattle.std.proofs.Common.{List, arith, inl, inr, map, subst, sym, ℕ, ◌+◌, ◌<◌, ◌∙◌, ◌≡◌}
use Rattle.std.proofs.lemmas.Option.{none-some}
use Rattle.nam_catalog.specs.declared.shape.Shape.{Shape}
use Rattle.nam_ghost.proofs.ObserverLemmas.{observed_client}
use Rattle.nam_ghost.specs.Moments.{IsCandidate, IsCandidateOf, Observer, entry_in, observer_of}
use Rattle.nam_layout.specs.declared.field.Field.TheVariants.{Entry}
use Rattle.nam_past.specs.PastLaw.{OpensLaw}
use Rattle.nam_protocol.proofs.OpeningLemmas.{opening_law}
use Rattle.nam_protocol.specs.Telling.{new_client}
use Rattle.nam_store.proofs.OpeningLemmas.{opening_client}
use Rattle.nam_store.specs.Opening.{AreLoaded, opening_store}
use Rattle.si_model.specs.declared.row.Row.{Row}

module _ (shape : Shape) (rows : List Row) where
  new_none : (nth : ℕ) (s : List ℕ) (confirmed : ℕ)
      → IsCandidateOf shape.workers (observer_of (new_client (nth + 1) shape.start)) s confirmed → ⊥
  new_none nth s confirmed (inl passing) = passing
  new_none nth s confirmed (inr taken) = taken.1

  nothing_taken : (s : List ℕ) (confirmed : ℕ)
      → IsCandidate shape.workers (map observer_of (opening_store shape rows).clients) s confirmed → ⊥
  nothing_taken s confirmed (nth, (observer, (here, is))) =
      let client = observed_client (opening_store shape rows).clients nth observer here in
      let new = opening_client shape rows nth client.0 client.1 in
      let observer_is : observer ≡ observer_of (new_client (nth + 1) shape.start) =
      sym client.2 ∙ (λ t. observer_of (new.1 t)) in
      new_none nth s confirmed (subst (λ (x : Observer). IsCandidateOf shape.workers x s confirmed) observer_is is)

  starts : AreLoaded shape rows → (a : ℕ) → a < shape.workers
      → entry_in shape (opening_store shape rows) a ≡ shape.start + 0
  starts loaded a less =
      let untouched =
      (opening_law shape rows loaded.of_tables).untouched (Entry (a + 1)) (omega arith, omega arith) tt in
      omega (arith, untouched)

pub past_open : OpensLaw
past_open shape limits rows loaded = record {
  numbered = λ place stamp at. absurd (none-some stamp at);
  vector = starts shape rows loaded;
  moments = λ s confirmed is. absurd (nothing_taken shape rows s confirmed is);
}
