-- What is claimed of running scans holds at the opening, and each step keeps it.
use Rattle.std.specs.Prelude.{List, Option, Some, map, ℕ, ◌≡◌}
use Rattle.nam_calls.specs.Memory.{memory}
use Rattle.nam_calls.specs.Reading.{read_after}
use Rattle.nam_calls.specs.declared.reading.ReadingEnd.TheVariants.{Got}
use Rattle.nam_catalog.specs.Fits.{FitsLimits}
use Rattle.nam_catalog.specs.declared.shape.Shape.{Shape}
use Rattle.nam_ghost.specs.Cells.{IsElsewhere}
use Rattle.nam_ghost.specs.Chains.{IsNew}
use Rattle.nam_ghost.specs.Ghost.{Ghost, ghost_step, opening_ghost}
use Rattle.nam_ghost.specs.Keys.{KeysNext, KeysOk}
use Rattle.nam_ghost.specs.Moments.{observer_of}
use Rattle.nam_ghost.specs.Slots.{RowNext}
use Rattle.nam_ghost.specs.Wanted.{IsNewest}
use Rattle.nam_layout.specs.Address.{IsRow}
use Rattle.nam_layout.specs.Place.{place_at}
use Rattle.nam_layout.specs.Rows.{width_at}
use Rattle.nam_protocol.specs.Reader.{Reader, reader_of}
use Rattle.nam_protocol.specs.declared.client.ClientState.{ClientState}
use Rattle.nam_scans.specs.Gathered.{ScansOk}
use Rattle.nam_store.specs.Base.{BaseOk}
use Rattle.nam_store.specs.Opening.{AreLoaded, opening_store}
use Rattle.nam_store.specs.Store.{StepsTo, Store, client_at, found_word}
use Rattle.nam_verbs.specs.declared.now.Now.TheVariants.{Over}
use Rattle.si_model.specs.declared.row.Row.{Row}

module _ (shape : Shape) where
  -- What the law of words says of a store, as far as a scan needs it; of reads only that one which its next word ends
  -- with a value gets that of the newest version that its snapshot sees.
  pub record Stands (store : Store) (ghost : Ghost) : Type 0 where
    pub base : BaseOk shape store
    pub keys : KeysOk shape store ghost.chains
    pub reads : (nth : ℕ) (client : ClientState) → client_at store nth ≡ Some client → (reader : Reader)
        → reader_of shape client ≡ Some reader → (value : Option (List ℕ))
        → read_after reader.sight reader.seen reader.at (found_word shape store client) ≡ Over (Got value)
        → IsNewest reader.seen (ghost.chains reader.sight.place.row) value

  -- So it is before a step; and of the step, that each row goes on as it may, that key words that stand do, and that
  -- what is claimed of keys holds after it.
  pub record RestsOn (before after : Store) (goes : StepsTo shape before after) (ghost : Ghost) : Type 0 where
    pub stands : Stands before ghost
    pub rows : (row : ℕ) → IsRow shape row → let later = ghost_step shape before after goes ghost in
        RowNext (place_at shape row)
        (IsElsewhere shape ghost.chains ghost.rings (memory shape before.words) ghost.cells row)
        (IsNew (width_at shape.tables row) (map observer_of before.clients)) (ghost.chains row) (ghost.rings row)
        (later.chains row) (later.rings row)
    pub next : KeysNext shape (memory shape before.words) (memory shape after.words)
    pub keys : KeysOk shape after (ghost_step shape before after goes ghost).chains

abbrev pub OpensLaw : Type 0
OpensLaw = (shape : Shape) → FitsLimits shape → (rows : List Row) → AreLoaded shape rows
    → ScansOk shape (opening_store shape rows) (opening_ghost shape rows).chains

abbrev pub KeepsLaw : Type 0
KeepsLaw = (shape : Shape) (before after : Store) (goes : StepsTo shape before after) (ghost : Ghost)
    → RestsOn shape before after goes ghost → ScansOk shape before ghost.chains
    → ScansOk shape after (ghost_step shape before after goes ghost).chains
