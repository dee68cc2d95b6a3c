-- At the opening no cell is in use, no slot keeps a version, and the horizon is the vector.
use Rattle.std.proofs.Common.{ap, arith, subst, sym, ℕ, ◌+◌}
use Rattle.std.proofs.lemmas.Option.{none-some}
use Rattle.nam_calls.specs.Memory.{memory}
use Rattle.nam_cells.specs.CellsLaw.{OpensLaw}
use Rattle.nam_ghost.specs.Ghost.{opening_ghost}
use Rattle.nam_ghost.specs.Upkeep.{UpkeepOk, upkeep_of}
use Rattle.nam_header.specs.Tag.{state_of}
use Rattle.nam_layout.specs.declared.field.Field.{Field}
use Rattle.nam_layout.specs.declared.field.Field.TheVariants.{Entry, Horizon, Tag}
use Rattle.nam_protocol.proofs.OpeningLemmas.{opening_law}
use Rattle.nam_protocol.specs.Opening.{opening_words}
use Rattle.nam_protocol.specs.declared.client.ClientState.{ClientState}
use Rattle.nam_store.proofs.OpeningLemmas.{opening_client}

pub cells_open : OpensLaw
cells_open shape limits rows loaded =
    let m : Field → ℕ = memory shape (opening_words shape rows) in
    let opening = opening_law shape rows loaded.of_tables in
    let ghost = opening_ghost shape rows in
    record {
      are = λ bucket cell is. ap state_of (opening.untouched (Tag bucket cell) is tt);
      old = λ row is. record {
        old = λ number less. absurd (omega arith);
        gone = λ slot less kept at moved. absurd (none-some kept at);
      };
      behind = λ a less.
          let horizon = opening.untouched (Horizon (a + 1)) (omega arith, omega arith) tt in
          let entry = opening.untouched (Entry (a + 1)) (omega arith, omega arith) tt in
          omega arith;
      upkeep = λ nth client here.
          subst (λ (c : ClientState). UpkeepOk shape ghost.chains ghost.rings m ghost.cells nth (upkeep_of shape c))
          (sym (opening_client shape rows nth client here).1) tt;
    }
