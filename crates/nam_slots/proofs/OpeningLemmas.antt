-- At the opening each slot has the mark, and nothing is copied.
use Rattle.std.proofs.Common.{refl, subst, sym, ℕ, ◌+◌}
use Rattle.std.proofs.lemmas.Bool.{true≢false}
use Rattle.std.proofs.lemmas.Option.{none-some}
use Rattle.nam_calls.specs.Memory.{memory}
use Rattle.nam_ghost.specs.Copiers.{CopierOk, copier_of}
use Rattle.nam_ghost.specs.Ghost.{opening_ghost}
use Rattle.nam_layout.specs.declared.field.Field.{Field}
use Rattle.nam_layout.specs.declared.field.Field.TheVariants.{SlotHeader}
use Rattle.nam_protocol.proofs.OpeningLemmas.{opening_law}
use Rattle.nam_protocol.specs.Opening.{opening_words}
use Rattle.nam_protocol.specs.declared.client.ClientState.{ClientState}
use Rattle.nam_slots.proofs.OwnLemmas.{none_ok}
use Rattle.nam_slots.specs.SlotsLaw.{OpensLaw}
use Rattle.nam_store.proofs.OpeningLemmas.{opening_client}

pub slots_open : OpensLaw
slots_open shape limits rows loaded =
    let opening = opening_law shape rows loaded.of_tables in
    let ghost = opening_ghost shape rows in
    let m : Field → ℕ = memory shape (opening_words shape rows) in
    record {
      rows = λ row is. record {
        slots = λ slot less. opening.untouched (SlotHeader row slot) (is, less) tt;
        behind = λ slot less kept at. absurd (none-some kept at);
        whole = λ copied. absurd (true≢false (sym copied));
        dirty = λ dirty. absurd (true≢false (sym dirty));
        free = λ free. refl;
      };
      copiers = λ nth client here.
          subst (λ (c : ClientState). CopierOk shape m ghost.chains ghost.rings (copier_of c))
          (sym (opening_client shape rows nth client here).1)
          (none_ok shape m ghost.chains ghost.rings (nth + 1));
    }
