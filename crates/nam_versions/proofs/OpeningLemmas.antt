-- At the opening each row has its loaded version alone, and nothing is published.
use Rattle.std.proofs.Common.{List, [], ap, arith, length, map, refl, slice_get, subst, suc, sym, zero, ℕ, ⊎_elim, ◌+◌}
use Rattle.std.proofs.Common.{◌∙◌, ◌∷◌, ◌≡◌}
use Rattle.std.proofs.lemmas.List.{length-map}
use Rattle.std.proofs.lemmas.Option.{none-some, same_Some}
use Rattle.nam_calls.proofs.FallsTests.{wide_or_none}
use Rattle.nam_calls.specs.Fits.{HasWidth}
use Rattle.nam_calls.specs.Memory.{memory}
use Rattle.nam_catalog.specs.declared.shape.Shape.{Shape}
use Rattle.nam_ghost.proofs.ObserverLemmas.{observed_client}
use Rattle.nam_ghost.specs.Chains.{ChainOk, IsLoaded}
use Rattle.nam_ghost.specs.Ghost.{loaded_chain, loaded_version, opening_ghost}
use Rattle.nam_ghost.specs.Moments.{Observer, observer_of}
use Rattle.nam_ghost.specs.Publications.{PublicationsOk}
use Rattle.nam_ghost.specs.Versions.{Version}
use Rattle.nam_header.specs.Stamp.{is_deleted}
use Rattle.nam_layout.specs.Place.{place_at}
use Rattle.nam_layout.specs.declared.field.Field.{Field}
use Rattle.nam_layout.specs.declared.field.Field.TheVariants.{Header, Word}
use Rattle.nam_layout.specs.declared.field.Place.{Place}
use Rattle.nam_protocol.specs.Opening.{opening_words}
use Rattle.nam_protocol.specs.Schedule.{numbers_from}
use Rattle.nam_protocol.specs.Telling.{new_client}
use Rattle.nam_store.proofs.OpeningLemmas.{opening_client}
use Rattle.nam_store.specs.Opening.{opening_store}
use Rattle.si_model.specs.declared.row.Row.{Row}
use Rattle.nam_versions.specs.ChainsLaw as chains
use Rattle.nam_versions.specs.PublishedLaw as published

-- 1. A chain

many_numbers : (first count : ℕ) → length (numbers_from first count) ≡ count
many_numbers first zero = refl
many_numbers first (suc count) = ap suc (many_numbers (first + 1) count)

loaded_wide : (place : Place) (m : Field → ℕ) → HasWidth place.width (loaded_version place m).value
loaded_wide place m =
    wide_or_none place.width (is_deleted place.form (m (Header place.row)))
    (map (λ nth. m (Word place.row nth)) (numbers_from 0 place.width))
    (length-map (numbers_from 0 place.width) (λ nth. m (Word place.row nth)) ∙ many_numbers 0 place.width)

loaded_ok : (observers : List Observer) (place : Place) (m : Field → ℕ)
    → ChainOk place.width observers (loaded_chain place m)
loaded_ok observers place m =
    let loaded = loaded_version place m in
    record {
      first = λ version is. subst IsLoaded (same_Some loaded version is) record { stamp = (refl, refl); seen = refl };
      later = λ number version is.
          let next : suc number ≡ number + 1 = omega arith in
          absurd (none-some version (ap (slice_get (loaded ∷ [])) next ∙ is));
      order = (tt, tt);
      wide = λ version is.
          ⊎_elim (λ (same : loaded ≡ version).
          subst (λ (x : Version). HasWidth place.width x.value) same (loaded_wide place m)) (λ none. absurd none) is;
    }

pub chains_open : chains.OpensLaw
chains_open shape limits rows loaded row is =
    loaded_ok (map observer_of (opening_store shape rows).clients) (place_at shape row)
    (memory shape (opening_words shape rows))

-- 2. Publications

nothing_published : (shape : Shape) (rows : List Row) (nth : ℕ) → let ghost = opening_ghost shape rows in
    PublicationsOk shape.start ghost.chains ghost.published nth (observer_of (new_client (nth + 1) shape.start))
nothing_published shape rows nth = record {
  all = let none : shape.start + 0 ≡ shape.start = omega arith in none;
  stamped = λ k commit is. absurd (none-some commit is);
  installed = λ commit is. absurd is;
}

pub published_open : published.OpensLaw
published_open shape limits rows loaded nth observer is =
    let ghost = opening_ghost shape rows in
    let client = observed_client (opening_store shape rows).clients nth observer is in
    let new = opening_client shape rows nth client.0 client.1 in
    subst (PublicationsOk shape.start ghost.chains ghost.published nth) (sym (ap observer_of new.1) ∙ client.2)
    (nothing_published shape rows nth)
