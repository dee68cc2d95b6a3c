-- One step of a store as each group takes it, by what the others show of it; so the groups that the others stand on are
-- kept by themselves.
use Rattle.std.proofs.Common.{List, map, ℕ}
use Rattle.nam_calls.specs.Memory.{memory}
use Rattle.nam_catalog.specs.Fits.{FitsLimits}
use Rattle.nam_catalog.specs.declared.shape.Shape.{Shape}
use Rattle.nam_cells.proofs.OpeningLemmas.{cells_open}
use Rattle.nam_cells.proofs.PlaceLemmas.{flags_law}
use Rattle.nam_cells.proofs.RowLemmas.{row_weaker}
use Rattle.nam_cells.proofs.StoreLemmas.{cells_keep, cells_next}
use Rattle.nam_ghost.specs.Cells.{IsElsewhere}
use Rattle.nam_ghost.specs.Chains.{ChainNext, IsNew}
use Rattle.nam_ghost.specs.Commits.{CommitsOk}
use Rattle.nam_ghost.specs.Ghost.{Ghost, ghost_step, opening_ghost}
use Rattle.nam_ghost.specs.Keys.{KeysOk}
use Rattle.nam_ghost.specs.Law.{GroundOk, WordsOk}
use Rattle.nam_ghost.specs.Locks.{LocksOk}
use Rattle.nam_ghost.specs.Moments.{EntriesRise, MomentsNext, MomentsOk, observer_of}
use Rattle.nam_ghost.specs.Slots.{RowNext}
use Rattle.nam_ghost.specs.Stepping.{stepping}
use Rattle.nam_ghost.specs.Upkeep.{CellsNext}
use Rattle.nam_keys.proofs.OpeningLemmas.{keys_open}
use Rattle.nam_keys.proofs.StoreLemmas.{keys_keep}
use Rattle.nam_law.specs.WordsLaw.{GroundLaw}
use Rattle.nam_layout.specs.Address.{IsRow}
use Rattle.nam_layout.specs.Place.{place_at}
use Rattle.nam_layout.specs.Rows.{width_at}
use Rattle.nam_locks.proofs.OpeningLemmas.{locks_open}
use Rattle.nam_locks.proofs.StoreLemmas.{locks_keep}
use Rattle.nam_moments.proofs.OpeningLemmas.{opening_moments}
use Rattle.nam_moments.proofs.StepLemmas.{moments_kept, moments_next, vector_rises}
use Rattle.nam_origins.proofs.OpeningLemmas.{origins_open}
use Rattle.nam_origins.proofs.StoreLemmas.{origins_keep}
use Rattle.nam_since.proofs.OpeningLemmas.{since_open}
use Rattle.nam_since.proofs.StoreLemmas.{since_keep}
use Rattle.nam_slots.proofs.OpeningLemmas.{slots_open}
use Rattle.nam_slots.proofs.StoreLemmas.{slots_keep, slots_next}
use Rattle.nam_slots.specs.SlotsLaw.{GoesOn}
use Rattle.nam_store.proofs.BaseLemmas.{base_keeps}
use Rattle.nam_store.proofs.OpeningLemmas.{opening_ok}
use Rattle.nam_store.specs.Opening.{AreLoaded, opening_store}
use Rattle.nam_store.specs.Store.{StepsTo, Store}
use Rattle.nam_versions.proofs.OpeningLemmas.{chains_open, published_open}
use Rattle.nam_versions.proofs.StoreLemmas.{chains_keep, chains_next, published_keep}
use Rattle.si_model.specs.declared.row.Row.{Row}
use Rattle.nam_cells.specs.CellsLaw as cells
use Rattle.nam_reads.specs.ReadsLaw as reads
use Rattle.nam_slots.specs.SlotsLaw as slots

-- what versions, publications and guards take
pub commits : (shape : Shape) (store : Store) (ghost : Ghost) → GroundOk shape store ghost
    → CommitsOk shape store ghost
commits shape store ghost ok = record {
  base = ok.base;
  moments = ok.moments;
  locks = ok.locks;
  chains = ok.chains;
  published = ok.published;
}

module _ (shape : Shape) (before after : Store) (goes : StepsTo shape before after) (ghost : Ghost)
    (ok : GroundOk shape before ghost) where
  abbrev later : Ghost
  later = ghost_step shape before after goes ghost

  -- 1. What moments, locks and keys show

  moments_later : MomentsOk shape after
  moments_later = moments_kept shape before after goes ok.base ok.moments

  pub moments_go : MomentsNext shape before after goes
  moments_go = moments_next shape before after goes ok.base ok.moments

  pub entries_rise : EntriesRise shape before after
  entries_rise = vector_rises shape before after goes ok.base ok.moments

  locks_later : LocksOk shape after (ghost_step shape before after goes ghost).chains
  locks_later = locks_keep shape before after goes ghost ok.base ok.locks

  pub keys_later : KeysOk shape after (ghost_step shape before after goes ghost).chains
  keys_later = keys_keep shape before after goes ghost ok.base ok.keys

  -- 2. What the others take, and show

  for_slots : slots.RestsOn shape before ghost
  for_slots = record { base = ok.base; locks = ok.locks; slots = ok.slots }

  pub chains_go : (row : ℕ) → IsRow shape row
      → ChainNext (width_at shape.tables row) (map observer_of before.clients) (ghost.chains row)
      ((ghost_step shape before after goes ghost).chains row)
  chains_go = chains_next shape before after goes ghost (commits shape before ghost ok) moments_go

  slots_go : GoesOn shape before after goes ghost
  slots_go = record {
    rests = for_slots;
    locks = locks_later;
    flags = flags_law shape before ghost ok.base ok.chains ok.slots ok.cells;
    grows = chains_go;
  }

  -- each row goes on as all others may rely on
  pub rows_go : (row : ℕ) → IsRow shape row → let later = ghost_step shape before after goes ghost in
      RowNext (place_at shape row)
      (IsElsewhere shape ghost.chains ghost.rings (memory shape before.words) ghost.cells row)
      (IsNew (width_at shape.tables row) (map observer_of before.clients)) (ghost.chains row) (ghost.rings row)
      (later.chains row) (later.rings row)
  rows_go = slots_next shape before after goes ghost slots_go

  for_cells : cells.Ready shape before after goes ghost
  for_cells = record {
    base = ok.base;
    vector = entries_rise;
    moments = moments_later;
    chains = ok.chains;
    slots = ok.slots;
    cells = ok.cells;
    rows = λ row is.
        let Elsewhere = IsElsewhere shape ghost.chains ghost.rings (memory shape before.words) ghost.cells row in
        row_weaker (place_at shape row) Elsewhere Elsewhere
        (IsNew (width_at shape.tables row) (map observer_of before.clients)) (λ version. Unit {0})
        (λ number there. there) (λ version new. tt) (ghost.chains row)
        ((ghost_step shape before after goes ghost).chains row) (ghost.rings row)
        ((ghost_step shape before after goes ghost).rings row) (rows_go row is);
  }

  pub cells_go : let later = ghost_step shape before after goes ghost in
      CellsNext shape (memory shape before.words) (memory shape after.words) later.chains later.rings ghost.cells
      later.cells (stepping shape before after goes)
  cells_go = cells_next shape before after goes ghost for_cells

  pub ground_keep : GroundOk shape after (ghost_step shape before after goes ghost)
  ground_keep = record {
    base = base_keeps shape before after goes ok.base;
    moments = moments_later;
    locks = locks_later;
    chains = chains_keep shape before after goes ghost (commits shape before ghost ok) moments_go;
    published = published_keep shape before after goes ghost (commits shape before ghost ok) moments_go;
    slots = slots_keep shape before after goes ghost for_slots locks_later;
    cells = cells_keep shape before after goes ghost for_cells;
    keys = keys_later;
    origins = origins_keep shape before after goes ghost ok.base ok.origins;
    since = since_keep shape before after goes ghost (commits shape before ghost ok) moments_go ok.since;
  }

pub ground_opens : (shape : Shape) → FitsLimits shape → (rows : List Row) → AreLoaded shape rows
    → GroundOk shape (opening_store shape rows) (opening_ghost shape rows)
ground_opens shape limits rows loaded = record {
  base = opening_ok shape limits rows loaded;
  moments = opening_moments shape limits rows loaded;
  locks = locks_open shape limits rows loaded;
  chains = chains_open shape limits rows loaded;
  published = published_open shape limits rows loaded;
  slots = slots_open shape limits rows loaded;
  cells = cells_open shape limits rows loaded;
  keys = keys_open shape limits rows loaded;
  origins = origins_open shape limits rows loaded;
  since = since_open shape limits rows loaded;
}

-- what a read takes of a store
pub for_reads : (shape : Shape) (store : Store) (ghost : Ghost) → WordsOk shape store ghost
    → reads.Stands shape store ghost
for_reads shape store ghost ok = record {
  base = ok.ground.base;
  moments = ok.ground.moments;
  locks = ok.ground.locks;
  chains = ok.ground.chains;
  slots = ok.ground.slots;
  cells = ok.ground.cells;
  reads = ok.reads;
}

pub ground_law : GroundLaw
ground_law = ground_keep
