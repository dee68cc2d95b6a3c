-- Each word of a read: where it leads, the reader may rely on what is claimed there; where it ends, it tells the truth.
use Rattle.std.proofs.Common.{List, Option, subst, sym, ℕ, ◌<◌, ◌≡◌}
use Rattle.nam_calls.specs.Fits.{HasWidth, ReadFits}
use Rattle.nam_calls.specs.Horizon.{old_after}
use Rattle.nam_calls.specs.Overflow.{cell_after, cell_verb}
use Rattle.nam_calls.specs.Reading.{on_cells, on_horizon, on_ring, on_unsure, read_after, read_verb}
use Rattle.nam_calls.specs.Ring.{ring_after, ring_verb}
use Rattle.nam_calls.specs.declared.horizon.OldEnd.{OldEnd}
use Rattle.nam_calls.specs.declared.horizon.OldEnd.TheVariants.{NotPassed, TooOld}
use Rattle.nam_calls.specs.declared.overflow.CellPoint.{CellPoint}
use Rattle.nam_calls.specs.declared.reading.ReadPoint.{ReadPoint}
use Rattle.nam_calls.specs.declared.reading.ReadPoint.TheVariants.{ReadCells, ReadCurrent, ReadHorizon, ReadRecheck}
use Rattle.nam_calls.specs.declared.reading.ReadPoint.TheVariants.{ReadRing, ReadUnsure}
use Rattle.nam_calls.specs.declared.reading.ReadingEnd.{ReadingEnd}
use Rattle.nam_calls.specs.declared.ring.RingPoint.{RingPoint}
use Rattle.nam_calls.specs.declared.ring.SearchEnd.{SearchEnd}
use Rattle.nam_calls.specs.declared.ring.SearchEnd.TheVariants.{Found, NotThere}
use Rattle.nam_catalog.specs.declared.shape.Shape.{Shape}
use Rattle.nam_ghost.specs.Cells.{CellMap, CellsAre, IsElsewhere}
use Rattle.nam_ghost.specs.Reads.{HeaderRead, IsUnsure, ReadOkAt}
use Rattle.nam_ghost.specs.Slots.{Ring}
use Rattle.nam_ghost.specs.Versions.{Chain, Version, current_number}
use Rattle.nam_ghost.specs.Wanted.{IsNewest, RingNow, Wanted}
use Rattle.nam_layout.specs.Place.{bucket_of, cells_of, place_at}
use Rattle.nam_layout.specs.Rows.{width_at}
use Rattle.nam_layout.specs.declared.field.Cells.{Cells}
use Rattle.nam_layout.specs.declared.field.Field.{Field}
use Rattle.nam_layout.specs.declared.field.Field.TheVariants.{Horizon}
use Rattle.nam_layout.specs.declared.field.Place.{Place}
use Rattle.nam_reads.proofs.CellLemmas.{cell_found, horizon_found}
use Rattle.nam_reads.proofs.CurrentLemmas.{current_found, recheck_found}
use Rattle.nam_reads.proofs.RingLemmas.{ring_found}
use Rattle.nam_reads.specs.Comes.{CellsCome, Comes, HorizonComes, row_sight}
use Rattle.nam_reads.specs.Facts.{RowFacts}
use Rattle.nam_verbs.specs.VerbAt.{found_at}
use Rattle.nam_verbs.specs.declared.now.Now.{Now}
use Rattle.nam_verbs.specs.declared.now.Now.TheVariants.{At, Over}

module _ (shape : Shape) (chains : ℕ → Chain) (rings : ℕ → Ring) (m : Field → ℕ) (cells : CellMap) (seen : List ℕ)
    (row : ℕ) where
  abbrev place : Place
  place = place_at shape row

  abbrev there : Cells
  there = cells_of shape (bucket_of shape row)

  abbrev chain : Chain
  chain = chains row

  abbrev Elsewhere : ℕ → Type 0
  Elsewhere = IsElsewhere shape chains rings m cells row

  module _ (facts : RowFacts shape m row seen chain (rings row) Elsewhere)
      (are : CellsAre shape chains rings m cells) where
    abbrev Leads : Now ReadPoint ReadingEnd → Type 0
    Leads now = Comes shape chains rings m cells seen row now

    -- 1. By what a search has come to

    module _ (number : ℕ) (version : Version) (wanted : Wanted seen chain number version) where
      gets : (value : Option (List ℕ)) → value ≡ version.value
          → IsNewest seen chain value × HasWidth (width_at shape.tables row) value
      gets value same = (
        record { number = number; version = version; wanted = wanted; value_is = same },
        subst (HasWidth (width_at shape.tables row)) (sym same) (facts.wide number version wanted.is),
      )

      unsure_now : (value : List ℕ) (head : ℕ) → HeaderRead shape.form seen chain head number version
          → (now : Now RingPoint SearchEnd)
          → RingNow place seen chain (rings row)
          (IsUnsure place seen chain (rings row) Elsewhere value number version) number version.value now
          → Leads (on_unsure value head now)
      unsure_now value head reads (At at) o = (number, version, reads, o)
      unsure_now value head reads (Over (Found got)) o = gets got o
      unsure_now value head reads (Over NotThere) o = (number, version, reads, o)

      module _ (old : number < current_number chain) where
        ring_now : (now : Now RingPoint SearchEnd)
            → RingNow place seen chain (rings row) (Elsewhere number) number version.value now → Leads (on_ring now)
        ring_now (At at) o = (number, version, (wanted, old), o)
        ring_now (Over (Found got)) o = gets got o
        ring_now (Over NotThere) o = (number, version, (wanted, old), o.2)

        cells_now : (now : Now CellPoint SearchEnd)
            → CellsCome shape chains rings m cells seen row number version.value now
            → Leads (on_cells now)
        cells_now (At at) o = (number, version, (wanted, old), o)
        cells_now (Over (Found got)) o = gets got o
        cells_now (Over NotThere) o = (number, version, (wanted, old), o)

        horizon_now : (now : Now ℕ OldEnd)
            → HorizonComes shape chains rings m cells seen row number now
            → Leads (on_horizon now)
        horizon_now (At worker) o = (number, version, (wanted, old), o)
        horizon_now (Over (TooOld worker entry horizon)) o = (o.0, o.1, o.2, (number, version, wanted, o.3))
        horizon_now (Over NotPassed) o = absurd o

    -- 2. Each point

    pub read_found : (at : ReadPoint) → ReadFits (row_sight shape row) at
        → ReadOkAt shape chains rings m cells seen row (place_at shape row) at
        → Leads (read_after (row_sight shape row) seen at (found_at m (read_verb (row_sight shape row) at)))
    read_found (ReadCurrent at) fits o = current_found shape chains rings m cells seen row facts at fits o
    read_found (ReadUnsure value head at) fits (number, version, reads, o) =
        let Away = IsUnsure place seen chain (rings row) Elsewhere value number version in
        unsure_now number version reads.wanted value head reads
        (ring_after place seen at (found_at m (ring_verb place at)))
        (ring_found facts Away reads.wanted at fits.1 o)
    read_found (ReadRecheck value head) fits (number, version, reads, o) =
        recheck_found shape chains rings m cells seen row facts head value fits number version reads o
    read_found (ReadRing at) fits (number, version, (wanted, old), o) =
        ring_now number version wanted old (ring_after place seen at (found_at m (ring_verb place at)))
        (ring_found facts (Elsewhere number) wanted at fits o)
    read_found (ReadCells at) fits (number, version, (wanted, old), o) =
        cells_now number version wanted old (cell_after there place seen at (found_at m (cell_verb there at)))
        (cell_found shape chains rings m cells seen row facts are number version wanted old at fits o)
    read_found (ReadHorizon worker) fits (number, version, (wanted, old), o) =
        horizon_now number version wanted old (old_after shape.workers seen worker (m (Horizon worker)))
        (horizon_found shape chains rings m cells seen row facts are number version wanted old worker fits o)
