-- What the end of a read tells.
use Rattle.std.specs.Prelude.{List, Option, Some, slice_index, ℕ, ◌-◌, ◌<◌, ◌≡◌}
use Rattle.nam_calls.specs.Fits.{HasWidth}
use Rattle.nam_calls.specs.Memory.{memory}
use Rattle.nam_calls.specs.Reading.{read_after}
use Rattle.nam_calls.specs.declared.reading.ReadPoint.{ReadPoint}
use Rattle.nam_calls.specs.declared.reading.ReadingEnd.{ReadingEnd}
use Rattle.nam_calls.specs.declared.reading.ReadingEnd.TheVariants.{Astray, Got, Passed}
use Rattle.nam_catalog.specs.declared.shape.Shape.{Shape}
use Rattle.nam_ghost.specs.Cells.{IsEnded}
use Rattle.nam_ghost.specs.Ghost.{Ghost}
use Rattle.nam_ghost.specs.Versions.{Version}
use Rattle.nam_ghost.specs.Wanted.{IsNewest, Wanted}
use Rattle.nam_layout.specs.Rows.{width_at}
use Rattle.nam_layout.specs.declared.field.Field.TheVariants.{Horizon}
use Rattle.nam_protocol.specs.Reader.{Reader, reader_of}
use Rattle.nam_protocol.specs.declared.client.ClientState.{ClientState}
use Rattle.nam_reads.specs.ReadsLaw.{Stands}
use Rattle.nam_store.specs.Store.{Store, client_at, found_word}
use Rattle.nam_verbs.specs.declared.now.Now.{Now}
use Rattle.nam_verbs.specs.declared.now.Now.TheVariants.{Over}

module _ (shape : Shape) (store : Store) where
  -- a client of the store that reads
  pub record ReadsAs (reader : Reader) : Type 0 where
    pub nth : ℕ
    pub client : ClientState
    pub here : client_at store nth ≡ Some client
    pub reads : reader_of shape client ≡ Some reader

  -- where the word that its next verb finds leads it
  abbrev pub now_read : (reader : Reader) → ReadsAs reader → Now ReadPoint ReadingEnd
  now_read reader reads = read_after reader.sight reader.seen reader.at (found_word shape store reads.client)

-- a value that a read gets is that of the newest version that its snapshot sees, whole
abbrev pub NewestLaw : Type 0
NewestLaw = (shape : Shape) (store : Store) (ghost : Ghost) → Stands shape store ghost → (reader : Reader)
    → (reads : ReadsAs shape store reader) → (value : Option (List ℕ))
    → now_read shape store reader reads ≡ Over (Got value) → let row = reader.sight.place.row in
    IsNewest reader.seen (ghost.chains row) value × HasWidth (width_at shape.tables row) value

-- A read ends without a value only where that version has ended within the horizon; the horizon entry that it tells is
-- above its snapshot's.
abbrev pub TooOldLaw : Type 0
TooOldLaw = (shape : Shape) (store : Store) (ghost : Ghost) → Stands shape store ghost → (reader : Reader)
    → (reads : ReadsAs shape store reader) → (worker entry horizon : ℕ)
    → now_read shape store reader reads ≡ Over (Passed worker entry horizon)
    → let row = reader.sight.place.row in
    let m = memory shape store.words in
    (entry ≡ slice_index reader.seen (worker - 1)) × (horizon ≡ m (Horizon worker)) × (entry < horizon)
    × ((number : ℕ) × (version : Version) × Wanted reader.seen (ghost.chains row) number version
    × IsEnded shape ghost.chains ghost.rings m ghost.cells row number)

-- it never ends astray
abbrev pub NeverAstrayLaw : Type 0
NeverAstrayLaw = (shape : Shape) (store : Store) (ghost : Ghost) → Stands shape store ghost → (reader : Reader)
    → (reads : ReadsAs shape store reader) → now_read shape store reader reads ≡ Over Astray → ⊥
