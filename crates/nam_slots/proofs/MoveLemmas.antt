-- A mover writes no word of a slot, but for the moved flag, which it sets by an exchange.
use Rattle.std.proofs.Common.{Bool, None, Option, Some, ap, false, refl, subst, sym, true, ℕ, ⊎_elim, ◌<◌, ◌∙◌, ◌≡◌}
use Rattle.std.proofs.Common.{◌≢◌}
use Rattle.std.proofs.lemmas.Bool.{cases_eq, eqb-true}
use Rattle.std.specs.Prelude.{if◌then◌else◌, ◌==◌}
use Rattle.nam_calls.specs.Fits.{MoveFits}
use Rattle.nam_calls.specs.Mover.{move_verb}
use Rattle.nam_calls.specs.Writes.{claim_writes, fill_writes, move_writes}
use Rattle.nam_calls.specs.declared.mover.MovePoint.{MovePoint}
use Rattle.nam_calls.specs.declared.mover.MovePoint.TheVariants.{MoveAgain, MoveBack, MoveClaim, MoveCount, MoveEnding}
use Rattle.nam_calls.specs.declared.mover.MovePoint.TheVariants.{MoveFill, MoveFlag, MoveFull, MoveHead, MoveWords}
use Rattle.nam_calls.specs.declared.overflow.ClaimPoint.{ClaimPoint}
use Rattle.nam_calls.specs.declared.overflow.ClaimPoint.TheVariants.{ClaimLook, ClaimTake}
use Rattle.nam_calls.specs.declared.overflow.FillPoint.{FillPoint}
use Rattle.nam_calls.specs.declared.overflow.FillPoint.TheVariants.{FillBegin, FillEnding, FillOwner, FillWord}
use Rattle.nam_catalog.specs.declared.shape.Shape.{Shape}
use Rattle.nam_ghost.specs.Slots.{Kept, Ring, flagged}
use Rattle.nam_ghost.specs.Steps.{at_ring, move_rings}
use Rattle.nam_ghost.specs.Versions.{Chain, slot_image}
use Rattle.nam_header.specs.Stamp.{with_moved}
use Rattle.nam_layout.specs.Address.{IsRow}
use Rattle.nam_layout.specs.Place.{bucket_of, cells_of, place_at}
use Rattle.nam_layout.specs.Rows.{ring_at, width_at}
use Rattle.nam_layout.specs.declared.field.Cells.{Cells}
use Rattle.nam_layout.specs.declared.field.Field.{Field}
use Rattle.nam_layout.specs.declared.field.Field.TheVariants.{SlotEnd, SlotHeader, SlotWord}
use Rattle.nam_layout.specs.declared.field.Place.{Place}
use Rattle.nam_slots.proofs.SpotLemmas.{none_changes, ring_changes, rows_beside, slots_beside, slots_nowhere}
use Rattle.nam_slots.specs.Change.{BesideSlot, FlagsSlot, RowsChange, SameSlot}
use Rattle.nam_slots.specs.Spots.{RowSame, written_spot}
use Rattle.nam_store.specs.Changed.{Changed, OthersStay}
use Rattle.nam_verbs.specs.VerbAt.{found_at, left_at, target}

-- where a mover's next verb sets the flag, the version there is one of these
abbrev pub FlagsAt : (Field → ℕ) → (ℕ → Ring) → (ℕ → ℕ → Type 0) → ℕ → MovePoint → Type 0
FlagsAt m rings Flagged row (MoveFlag slot header) =
    m (SlotHeader row slot) ≡ header → (kept : Kept) → (rings row).kept slot ≡ Some kept → Flagged row kept.number
FlagsAt m rings Flagged row _ = Unit {0}

module _ (shape : Shape) (m now : Field → ℕ) (chains : ℕ → Chain) (rings : ℕ → Ring) (nth : ℕ)
    (Flagged : ℕ → ℕ → Type 0) (row : ℕ) (is : IsRow shape row) where
  abbrev place : Place
  place = place_at shape row

  abbrev cells : Cells
  cells = cells_of shape (bucket_of shape row)

  abbrev Changes : (ℕ → Ring) → Type 0
  Changes next = RowsChange shape m now nth chains rings Flagged chains next

  -- 1. The exchange

  module _ (slot header : ℕ) (short : slot < ring_at shape.tables row)
      (flags : m (SlotHeader row slot) ≡ header → (kept : Kept) → (rings row).kept slot ≡ Some kept
      → Flagged row kept.number) where
    module _ (word : ℕ) (changed : Changed shape m now (SlotHeader row slot) word) where
      abbrev beside : BesideSlot (place_at shape row) (slot_image m row) (slot_image now row) slot
      beside = slots_beside shape m now (SlotHeader row slot) word row slot changed refl is

      abbrev rows : (other : ℕ) → IsRow shape other → other ≢ row → RowSame shape m now other
      rows = rows_beside shape m now (SlotHeader row slot) word row slot changed refl

      end_same : now (SlotEnd row slot) ≡ m (SlotEnd row slot)
      end_same = changed.others (SlotEnd row slot) (is, short) (λ e. cc)

      body_same : (nth : ℕ) → nth < width_at shape.tables row → now (SlotWord row slot nth) ≡ m (SlotWord row slot nth)
      body_same nth less = changed.others (SlotWord row slot nth) ((is, short), less) (λ e. cc)

    hits : m (SlotHeader row slot) ≡ header
        → Changed shape m now (SlotHeader row slot) (with_moved shape.form header)
        → Changes (at_ring row rings (flagged slot))
    hits there changed =
        let word = with_moved shape.form header in
        ring_changes shape m now nth chains rings Flagged row (flagged slot (rings row)) (rows word changed)
        (λ inside. FlagsSlot slot short (beside word changed)
        (changed.here ∙ ap (with_moved shape.form) (sym there)) (end_same word changed) (body_same word changed)
        (flags there))

    misses : Changed shape m now (SlotHeader row slot) (m (SlotHeader row slot)) → Changes rings
    misses changed =
        let word = m (SlotHeader row slot) in
        none_changes shape m now nth chains rings Flagged
        (λ other inside. ⊎_elim
        (λ (e : other ≡ row). subst (RowSame shape m now) (sym e)
        (λ u less. ⊎_elim
        (λ (f : u ≡ slot). subst
        (λ v. SameSlot (width_at shape.tables row) (slot_image m row v) (slot_image now row v)) (sym f)
        record { header = changed.here; ending = end_same word changed; body = body_same word changed })
        (λ (apart : u ≢ slot). beside word changed u less apart) (cases_eq u slot)))
        (λ (apart : other ≢ row). rows word changed other inside apart) (cases_eq other row))

    pub exchanges : let found = m (SlotHeader row slot) in
        Changed shape m now (SlotHeader row slot) (if found == header then with_moved shape.form header else found)
        → Changes (if found == header then at_ring row rings (flagged slot) else rings)
    exchanges changed = by_hit (m (SlotHeader row slot) == header) refl changed
      where
        by_hit : (b : Bool) → (m (SlotHeader row slot) == header) ≡ b
            → Changed shape m now (SlotHeader row slot)
            (if b then with_moved shape.form header else m (SlotHeader row slot))
            → Changes (if b then at_ring row rings (flagged slot) else rings)
        by_hit true e changed = hits (eqb-true (m (SlotHeader row slot)) header e) changed
        by_hit false e changed = misses changed

  -- 2. Each word of a mover

  claim_nowhere : (at : ClaimPoint) → written_spot (claim_writes cells at) ≡ None
  claim_nowhere (ClaimLook cell) = refl
  claim_nowhere (ClaimTake cell tag) = refl

  fill_nowhere : (cell : ℕ) (at : FillPoint) → written_spot (fill_writes cells cell at) ≡ None
  fill_nowhere cell FillOwner = refl
  fill_nowhere cell FillBegin = refl
  fill_nowhere cell FillEnding = refl
  fill_nowhere cell (FillWord nth) = refl

  quiet : (written : Option Field) → OthersStay shape m now written → written_spot written ≡ None → Changes rings
  quiet written stays none =
      none_changes shape m now nth chains rings Flagged (slots_nowhere shape m now written stays none)

  pub moves : (at : MovePoint) → MoveFits place cells at → FlagsAt m rings Flagged row at
      → Changed shape m now (target (move_verb place cells at)) (left_at m (move_verb place cells at))
      → OthersStay shape m now (move_writes place cells at)
      → Changes (move_rings row at (found_at m (move_verb place cells at)) rings)
  moves MoveCount fits flags changed stays = quiet None stays refl
  moves (MoveHead slot) fits flags changed stays = quiet None stays refl
  moves (MoveEnding slot header) fits flags changed stays = quiet None stays refl
  moves (MoveClaim slot header ending at) fits flags changed stays =
      quiet (claim_writes cells at) stays (claim_nowhere at)
  moves (MoveWords slot header ending cell tag got) fits flags changed stays = quiet None stays refl
  moves (MoveFill slot header cell tag version at) fits flags changed stays =
      quiet (fill_writes cells cell at) stays (fill_nowhere cell at)
  moves (MoveAgain slot header cell tag) fits flags changed stays = quiet None stays refl
  moves (MoveFull slot header cell tag) fits flags changed stays =
      quiet (move_writes place cells (MoveFull slot header cell tag)) stays refl
  moves (MoveFlag slot header) fits flags changed stays = exchanges slot header fits flags changed
  moves (MoveBack header cell tag) fits flags changed stays =
      quiet (move_writes place cells (MoveBack header cell tag)) stays refl
