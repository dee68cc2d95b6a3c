-- At the opening no move has claimed a cell, and every tag is the first one.
use Rattle.std.proofs.Common.{arith, inr, subst, sym}
use Rattle.std.proofs.lemmas.Option.{none-some}
use Rattle.nam_filled.specs.Filled.{NowOk, scene_of}
use Rattle.nam_filled.specs.FilledLaw.{OpensLaw}
use Rattle.nam_filled.specs.Holders.{no_holders}
use Rattle.nam_ghost.specs.Ghost.{opening_ghost}
use Rattle.nam_layout.specs.declared.field.Field.TheVariants.{Tag}
use Rattle.nam_protocol.proofs.OpeningLemmas.{opening_law}
use Rattle.nam_protocol.specs.declared.client.ClientState.{ClientState}
use Rattle.nam_store.proofs.OpeningLemmas.{opening_client}
use Rattle.nam_store.specs.Opening.{opening_store}

pub filled_opens : OpensLaw
filled_opens shape limits rows loaded =
    let opening = opening_law shape rows loaded.of_tables in
    record {
      movers = λ bucket cell mover listed. absurd listed;
      once = λ b c i d e j mover at is. absurd (none-some mover at);
      tags = λ bucket cell is. let zero = opening.untouched (Tag bucket cell) is tt in omega arith;
      cells = λ bucket cell is. inr tt;
      calls = λ nth client here.
          subst (λ (c : ClientState).
          NowOk shape (scene_of shape (opening_store shape rows) (opening_ghost shape rows) no_holders) nth c.call)
          (sym (opening_client shape rows nth client here).1) tt;
    }
