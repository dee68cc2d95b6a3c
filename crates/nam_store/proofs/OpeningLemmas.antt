-- The opening of a store meets what holds of every store.
use Rattle.std.proofs.Common.{List, Some, [], ap, arith, length, refl, subst, suc, sym, zero, ℕ, ◌+◌, ◌<◌, ◌∙◌, ◌≡◌}
use Rattle.std.specs.Prelude.{false, slice_get}
use Rattle.std.proofs.lemmas.Option.{none-some, same_Some}
use Rattle.si_model.specs.declared.row.Row.{Row}
use Rattle.nam_catalog.specs.declared.shape.Shape.{Shape}
use Rattle.nam_protocol.specs.declared.client.ClientState.{ClientState}
use Rattle.nam_protocol.specs.Telling.{new_client}
use Rattle.nam_protocol.proofs.HoldsOpening.{new_world_holds}
use Rattle.nam_protocol.proofs.OpeningLemmas.{opening_law}
use Rattle.nam_store.specs.Base.{ClientOk}
use Rattle.nam_store.specs.BaseLaw.{OpensLaw}
use Rattle.nam_store.specs.Opening.{new_clients, opening_store}
use Rattle.nam_store.specs.Store.{client_at}
use Rattle.nam_store.proofs.ClientLemmas.{client_new}

-- 1. New clients

pub new_workers : (start worker n : ℕ) → length (new_clients start worker n) ≡ n
new_workers start worker zero = refl
new_workers start worker (suc n) = ap suc (new_workers start (worker + 1) n)

-- the nth is new, and of the nth worker from the first on
pub new_at : (start worker n nth : ℕ) (client : ClientState) → slice_get (new_clients start worker n) nth ≡ Some client
    → (nth < n) × (client ≡ new_client (nth + worker) start)
new_at start worker zero nth client e = absurd (none-some client e)
new_at start worker (suc n) zero client e =
    let same : 0 + worker ≡ worker = omega arith in
    ((omega arith), sym (same_Some (new_client worker start) client e) ∙ ap (λ w. new_client w start) (sym same))
new_at start worker (suc n) (suc nth) client e =
    let t = new_at start (worker + 1) n nth client e in
    let less = t.0 in
    let same : nth + (worker + 1) ≡ suc nth + worker = omega arith in
    ((omega arith), t.1 ∙ ap (λ w. new_client w start) same)

-- 2. The opening

-- each client there is new
pub opening_client : (shape : Shape) (rows : List Row) (nth : ℕ) (client : ClientState)
    → client_at (opening_store shape rows) nth ≡ Some client
    → (nth < shape.workers) × (client ≡ new_client (nth + 1) shape.start)
opening_client shape rows nth client e = new_at shape.start 1 shape.workers nth client e

pub opening_ok : OpensLaw
opening_ok shape limits rows loaded = record {
  limits = limits;
  whole = (opening_law shape rows loaded.of_tables).whole;
  words = (new_world_holds shape limits rows record { tries = 1; tidy = false } [] loaded.words tt).0;
  workers = new_workers shape.start 1 shape.workers;
  clients = λ nth client e.
      let t = opening_client shape rows nth client e in
      subst (ClientOk shape nth) (sym t.1) (client_new shape limits nth t.0);
}
