-- At the opening no client reads.
use Rattle.std.proofs.Common.{subst, sym, ℕ}
use Rattle.nam_calls.specs.Memory.{memory}
use Rattle.nam_ghost.specs.Ghost.{opening_ghost}
use Rattle.nam_ghost.specs.Reads.{ReaderOk}
use Rattle.nam_layout.specs.declared.field.Field.{Field}
use Rattle.nam_protocol.specs.Opening.{opening_words}
use Rattle.nam_protocol.specs.Reader.{reader_of}
use Rattle.nam_protocol.specs.declared.client.ClientState.{ClientState}
use Rattle.nam_reads.specs.ReadsLaw.{OpensLaw}
use Rattle.nam_store.proofs.OpeningLemmas.{opening_client}

pub reads_open : OpensLaw
reads_open shape limits rows loaded nth client here =
    let m : Field → ℕ = memory shape (opening_words shape rows) in
    let ghost = opening_ghost shape rows in
    subst (λ (c : ClientState). ReaderOk shape ghost.chains ghost.rings m ghost.cells (reader_of shape c))
    (sym (opening_client shape rows nth client here).1) tt
