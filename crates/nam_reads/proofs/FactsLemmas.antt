-- What the law of words says of a row to one that reads it with a snapshot that was taken.
use Rattle.std.proofs.Common.{List, map, ℕ}
use Rattle.nam_calls.specs.Memory.{memory}
use Rattle.nam_catalog.specs.declared.shape.Shape.{Shape}
use Rattle.nam_ghost.proofs.ChainLemmas.{once}
use Rattle.nam_ghost.proofs.ListLemmas.{got_listed}
use Rattle.nam_ghost.proofs.OrderLemmas.{sees_front}
use Rattle.nam_ghost.proofs.SnapshotLemmas.{taken_snap, taken_wide}
use Rattle.nam_ghost.proofs.VisibleLemmas.{loaders_visible}
use Rattle.nam_ghost.specs.Cells.{IsElsewhere}
use Rattle.nam_ghost.specs.Ghost.{Ghost}
use Rattle.nam_ghost.specs.Moments.{IsTaken, entry_in, observer_of}
use Rattle.nam_ghost.specs.Versions.{versions}
use Rattle.nam_layout.specs.Address.{IsRow}
use Rattle.nam_layout.specs.Rows.{width_at}
use Rattle.nam_reads.proofs.CopyLemmas.{copy_unseen}
use Rattle.nam_reads.specs.Facts.{RowFacts}
use Rattle.nam_reads.specs.ReadsLaw.{Stands}
use Rattle.nam_store.specs.Store.{Store}

pub row_facts : (shape : Shape) (store : Store) (ghost : Ghost) → Stands shape store ghost → (seen : List ℕ)
    → IsTaken store seen → (row : ℕ) → IsRow shape row
    → RowFacts shape (memory shape store.words) row seen (ghost.chains row) (ghost.rings row)
    (IsElsewhere shape ghost.chains ghost.rings (memory shape store.words) ghost.cells row)
row_facts shape store ghost stands seen taken row inside =
    let width = width_at shape.tables row in
    let chain = ghost.chains row in
    let ok = stands.chains row inside in
    record {
      limits = stands.base.limits;
      inside = inside;
      long = taken_wide shape store stands.moments seen taken;
      record_is = stands.locks.rows row inside;
      ring_is = stands.slots.rows row inside;
      old = stands.cells.old row inside;
      first = λ version is. loaders_visible version.stamp seen (ok.first version is).stamp;
      front = sees_front shape.start shape.workers (entry_in shape store) (map observer_of store.clients) stands.moments
          width chain ok seen (taken_snap store seen taken);
      once = once width (map observer_of store.clients) chain ok;
      wide = λ number version is. ok.wide version (got_listed (versions chain) number version is);
      unseen = λ slot short kept at number.
          copy_unseen shape store ghost stands row inside slot short kept at number seen taken;
    }
