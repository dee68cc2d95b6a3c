-- What the claims come to: full cells, the horizon, cells that are freed, and where old versions stand.
use Rattle.std.proofs.Common.{Option, Some, ap, arith, inl, inr, map, refl, subst, sym, ℕ, ⊎_elim, ◌∙◌, ◌≡◌}
use Rattle.std.proofs.lemmas.Option.{same_Some}
use Rattle.nam_calls.specs.Memory.{memory}
use Rattle.nam_calls.specs.declared.mover.MovePoint.TheVariants.{MoveFlag}
use Rattle.nam_catalog.specs.declared.shape.Shape.{Shape}
use Rattle.nam_cells.proofs.SlotLemmas.{again_there, kept_there}
use Rattle.nam_cells.proofs.StoreLemmas.{cells_keep, cells_next}
use Rattle.nam_cells.proofs.ViewLemmas.{upkeep_fits}
use Rattle.nam_cells.specs.CellsLaw.{FlagsLaw, FreedLaw, FullLaw, HorizonLaw, IsInFull, IsInSlot, PlacesLaw}
use Rattle.nam_cells.specs.Views.{UpkeepFits}
use Rattle.nam_ghost.proofs.CellLemmas.{bucket_within}
use Rattle.nam_ghost.proofs.ChainLemmas.{once}
use Rattle.nam_ghost.specs.Cells.{Cell, CellIs, ClaimedBy, FreeCell, InCell, IsElsewhere, IsWhole, Stores}
use Rattle.nam_ghost.specs.Chains.{ChainsOk}
use Rattle.nam_ghost.specs.Copiers.{SlotsOk}
use Rattle.nam_ghost.specs.Ghost.{Ghost}
use Rattle.nam_ghost.specs.Moments.{observer_of}
use Rattle.nam_ghost.specs.Slots.{Keeps, Kept, home}
use Rattle.nam_ghost.specs.Upkeep.{CellsOk, Mover, UpkeepOk, upkeep_in}
use Rattle.nam_ghost.specs.Versions.{cell_image}
use Rattle.nam_header.specs.Tag.{state_of}
use Rattle.nam_layout.proofs.LimitLemmas.{place_within_limits}
use Rattle.nam_layout.specs.Address.{IsCell, IsRow}
use Rattle.nam_layout.specs.Place.{bucket_of, place_at}
use Rattle.nam_layout.specs.Rows.{row_of, width_at}
use Rattle.nam_layout.specs.declared.field.Field.{Field}
use Rattle.nam_layout.specs.declared.field.Field.TheVariants.{SlotHeader, Tag}
use Rattle.nam_protocol.specs.declared.client.Answer.{Answer}
use Rattle.nam_protocol.specs.declared.client.CallPoint.{CallPoint}
use Rattle.nam_store.specs.Base.{BaseOk}
use Rattle.nam_store.specs.Store.{Store}
use Rattle.nam_verbs.specs.declared.now.Now.{Now}

module _ (shape : Shape) (store : Store) (ghost : Ghost)
    (ok : CellsOk shape store ghost.chains ghost.rings ghost.cells) where
  abbrev m : Field → ℕ
  m = memory shape store.words

  -- what a cell has
  cell_is : (bucket cell : ℕ) → IsCell shape bucket cell → (x : Cell) → ghost.cells bucket cell ≡ x
      → CellIs shape ghost.chains ghost.rings bucket (cell_image m bucket cell) x
  cell_is bucket cell is x e =
      subst (CellIs shape ghost.chains ghost.rings bucket (cell_image m bucket cell)) e (ok.are bucket cell is)

  -- 1. A full cell

  abbrev HasVersion : ℕ → ℕ → Type 0
  HasVersion bucket cell =
      (row : ℕ) × (number : ℕ) × (bucket ≡ bucket_of shape row)
      × IsWhole shape ghost.chains ghost.rings row number (cell_image m bucket cell)

  full_has : (bucket cell : ℕ) → IsCell shape bucket cell → state_of (m (Tag bucket cell)) ≡ 2 → (x : Cell)
      → ghost.cells bucket cell ≡ x → HasVersion bucket cell
  full_has bucket cell is full FreeCell e =
      let none : state_of (m (Tag bucket cell)) ≡ 0 = cell_is bucket cell is FreeCell e in absurd (omega arith)
  full_has bucket cell is full (ClaimedBy worker) e =
      let one : state_of (m (Tag bucket cell)) ≡ 1 = cell_is bucket cell is (ClaimedBy worker) e in
      absurd (omega arith)
  full_has bucket cell is full (Stores row number) e =
      let has = cell_is bucket cell is (Stores row number) e in (row, number, has.1, has.2)

  -- 2. Where an old version stands

  module _ (base : BaseOk shape store) (slots : SlotsOk shape store ghost.chains ghost.rings) where
    in_slot : (row number : ℕ) → IsRow shape row
        → Keeps ((ghost.rings row).kept (home (place_at shape row) number)) number
        → IsInSlot shape store ghost row number
    in_slot row number is keeps =
        let least = (place_within_limits shape row base.limits is).least_ring in (
          keeps.0,
          keeps.1,
          keeps.2,
          kept_there shape base.limits m ghost.chains ghost.rings row is (slots.rows row is)
              (home (place_at shape row) number) (omega arith) keeps.0 keeps.1,
        )

    in_full : (row number : ℕ) → InCell shape ghost.chains ghost.rings m ghost.cells 0 row number
        → IsInFull shape store ghost row number
    in_full row number (cell, least, less, e) =
        let has =
        cell_is (bucket_of shape row) cell (bucket_within shape base.limits row, less) (Stores row number) e in
        (cell, less, has.0, has.2)

    -- 3. The version in a slot whose moved flag is set next

    module _ (nth : ℕ) (row slot header : ℕ) (fits : UpkeepFits shape (Mover row (MoveFlag slot header)))
        (upkeep : UpkeepOk shape ghost.chains ghost.rings m ghost.cells nth (Mover row (MoveFlag slot header)))
        (chains : ChainsOk shape store ghost.chains) where
      flags : m (SlotHeader row slot) ≡ header → (kept : Kept) → (ghost.rings row).kept slot ≡ Some kept
          → IsElsewhere shape ghost.chains ghost.rings m ghost.cells row kept.number
      flags stands kept at =
          let number = upkeep.1.0 in
          let is = fits.0 in
          let o = upkeep.1.2 in
          let there =
          again_there shape base.limits m ghost.chains ghost.rings row is (slots.rows row is) slot fits.1
          (λ a b u v.
          once (width_at shape.tables row) (map observer_of store.clients) (ghost.chains row) (chains row is) a b u v)
          header number upkeep.1.1 o.0 stands in
          subst (IsElsewhere shape ghost.chains ghost.rings m ghost.cells row)
          (sym there.2 ∙ ap (λ (k : Kept). k.number) (same_Some there.0 kept (sym there.1 ∙ at)))
          (is, o.0.was_copied, o.1)

-- 4. The laws

pub full_law : FullLaw
full_law shape store ghost ok bucket cell is full =
    full_has shape store ghost ok bucket cell is full (ghost.cells bucket cell) refl

pub horizon_law : HorizonLaw
horizon_law shape before after goes ghost ready a less = (
  (cells_next shape before after goes ghost ready).horizon a less,
  (cells_keep shape before after goes ghost ready).behind a less,
)

pub freed_law : FreedLaw
freed_law shape before after goes ghost ready bucket cell row number is stores changes =
    ⊎_elim (λ kept. absurd (changes kept.1)) (λ ended. ended)
    ((cells_next shape before after goes ghost ready).stored bucket cell row number is stores)

pub places_law : PlacesLaw
places_law shape store ghost base slots ok row number is less =
    ⊎_elim (λ keeps. inl (in_slot shape store ghost ok base slots row number is keeps))
    (λ elsewhere. ⊎_elim (λ in_cell. inr (inl (in_full shape store ghost ok base slots row number in_cell)))
    (λ ended. inr (inr ended)) elsewhere.2) ((ok.old row is).old number less)

pub flags_law : FlagsLaw
flags_law shape store ghost base chains slots ok nth client here table key position slot header at =
    let row = row_of shape.tables table position in
    let m = memory shape store.words in
    flags shape store ghost ok base slots nth row slot header
    (subst (λ (call : Option (Now CallPoint Answer)). UpkeepFits shape (upkeep_in shape call)) at
    (upkeep_fits shape client (base.clients nth client here).fits))
    (subst
    (λ (call : Option (Now CallPoint Answer)).
    UpkeepOk shape ghost.chains ghost.rings m ghost.cells nth (upkeep_in shape call)) at (ok.upkeep nth client here))
    chains
