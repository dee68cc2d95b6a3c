-- fields of places, of cells and of workers: where they stand, and where they end
use Rattle.std.proofs.Common.{◌≡◌, ℕ, ◌+◌, ◌*◌, ◌<◌, refl, subst, sym, arith}
use Rattle.nam_catalog.specs.declared.shape.Shape.{Shape}
use Rattle.nam_catalog.specs.Words.{slot_words}
use Rattle.nam_layout.specs.declared.field.Field.{Field}
use Rattle.nam_layout.specs.declared.field.Field.TheVariants.{Entry, Horizon, Key, Header, Count, Word}
use Rattle.nam_layout.specs.declared.field.Field.TheVariants.{SlotHeader, SlotEnd, SlotWord}
use Rattle.nam_layout.specs.declared.field.Field.TheVariants.{Tag, Owner, Begin, End, CellWord, Intent}
use Rattle.nam_layout.specs.declared.field.Place.{Place}
use Rattle.nam_layout.specs.declared.field.Cells.{Cells}
use Rattle.nam_layout.specs.Address.{IsRow, IsField, address}
use Rattle.nam_layout.specs.Place.{place_at, cells_of, position_address, cell_address, worker_address, known_address}
use Rattle.nam_layout.specs.Place.{place_end, cells_end}
use Rattle.nam_layout.specs.PlaceFits.{FitsPlace, FitsCells}
use Rattle.nam_layout.specs.Known.{IsOfPlace, IsOfCells, IsOfWorkers, IsKnown}
use Rattle.nam_layout.proofs.NumberLemmas.{place_within as word_within}

-- 1. Fields of a shape

module _ (shape : Shape) where
  abbrev PlaceStands : ℕ → Field → Type 0
  PlaceStands row f = (address shape f ≡ position_address (place_at shape row) f) × (IsRow shape row → IsField shape f)

  -- a field of a row's place
  pub place_stands : (row : ℕ) (f : Field) → IsOfPlace (place_at shape row) f
      → (address shape f ≡ position_address (place_at shape row) f) × (IsRow shape row → IsField shape f)
  place_stands row (Key r) is = subst (λ n. PlaceStands row (Key n)) (sym is) (refl, λ within. within)
  place_stands row (Header r) is = subst (λ n. PlaceStands row (Header n)) (sym is) (refl, λ within. within)
  place_stands row (Count r) is = subst (λ n. PlaceStands row (Count n)) (sym is) (refl, λ within. within)
  place_stands row (Word r nth) is =
      subst (λ n. PlaceStands row (Word n nth)) (sym is.0) (refl, λ within. (within, is.1))
  place_stands row (SlotHeader r slot) is =
      subst (λ n. PlaceStands row (SlotHeader n slot)) (sym is.0) (refl, λ within. (within, is.1))
  place_stands row (SlotEnd r slot) is =
      subst (λ n. PlaceStands row (SlotEnd n slot)) (sym is.0) (refl, λ within. (within, is.1))
  place_stands row (SlotWord r slot nth) is =
      subst (λ n. PlaceStands row (SlotWord n slot nth)) (sym is.0.0) (refl, λ within. ((within, is.0.1), is.1))
  place_stands row _ is = absurd is

  abbrev CellsStand : ℕ → Field → Type 0
  CellsStand bucket f =
      (address shape f ≡ cell_address (cells_of shape bucket) f) × (bucket < shape.buckets → IsField shape f)

  -- a field of a bucket's cells
  pub cells_stand : (bucket : ℕ) (f : Field) → IsOfCells (cells_of shape bucket) f
      → (address shape f ≡ cell_address (cells_of shape bucket) f) × (bucket < shape.buckets → IsField shape f)
  cells_stand bucket (Tag b cell) is =
      subst (λ n. CellsStand bucket (Tag n cell)) (sym is.0) (refl, λ within. (within, is.1))
  cells_stand bucket (Owner b cell) is =
      subst (λ n. CellsStand bucket (Owner n cell)) (sym is.0) (refl, λ within. (within, is.1))
  cells_stand bucket (Begin b cell) is =
      subst (λ n. CellsStand bucket (Begin n cell)) (sym is.0) (refl, λ within. (within, is.1))
  cells_stand bucket (End b cell) is =
      subst (λ n. CellsStand bucket (End n cell)) (sym is.0) (refl, λ within. (within, is.1))
  cells_stand bucket (CellWord b cell nth) is =
      subst (λ n. CellsStand bucket (CellWord n cell nth)) (sym is.0.0) (refl, λ within. ((within, is.0.1), is.1))
  cells_stand bucket _ is = absurd is

  -- a worker's entry
  pub workers_stand : (f : Field) → IsOfWorkers shape.workers f
      → (address shape f ≡ worker_address shape.workers f) × IsField shape f
  workers_stand (Entry worker) is = (refl, is)
  workers_stand (Horizon worker) is = (refl, is)
  workers_stand _ is = absurd is

  module _ (row bucket : ℕ) where
    abbrev KnownStands : Field → Type 0
    KnownStands f =
        (address shape f ≡ known_address (place_at shape row) (cells_of shape bucket) shape.workers f)
        × (IsRow shape row → bucket < shape.buckets → IsField shape f)

    of_place : (f : Field) → IsOfPlace (place_at shape row) f
        → (address shape f ≡ position_address (place_at shape row) f)
        × (IsRow shape row → bucket < shape.buckets → IsField shape f)
    of_place f is = let stands = place_stands row f is in (stands.0, λ within less. stands.1 within)

    of_cells : (f : Field) → IsOfCells (cells_of shape bucket) f
        → (address shape f ≡ cell_address (cells_of shape bucket) f)
        × (IsRow shape row → bucket < shape.buckets → IsField shape f)
    of_cells f is = let stands = cells_stand bucket f is in (stands.0, λ within. stands.1)

    -- any of these
    pub known_stands : (f : Field) → IsKnown (place_at shape row) (cells_of shape bucket) shape.workers f
        → (address shape f ≡ known_address (place_at shape row) (cells_of shape bucket) shape.workers f)
        × (IsRow shape row → bucket < shape.buckets → IsField shape f)
    known_stands (Entry worker) is = (refl, λ within less. is)
    known_stands (Horizon worker) is = (refl, λ within less. is)
    known_stands (Key r) is = of_place (Key r) is
    known_stands (Header r) is = of_place (Header r) is
    known_stands (Count r) is = of_place (Count r) is
    known_stands (Word r nth) is = of_place (Word r nth) is
    known_stands (SlotHeader r slot) is = of_place (SlotHeader r slot) is
    known_stands (SlotEnd r slot) is = of_place (SlotEnd r slot) is
    known_stands (SlotWord r slot nth) is = of_place (SlotWord r slot nth) is
    known_stands (Tag b cell) is = of_cells (Tag b cell) is
    known_stands (Owner b cell) is = of_cells (Owner b cell) is
    known_stands (Begin b cell) is = of_cells (Begin b cell) is
    known_stands (End b cell) is = of_cells (End b cell) is
    known_stands (CellWord b cell nth) is = of_cells (CellWord b cell nth) is
    known_stands (Intent worker nth) is = absurd is

-- 2. Words within places, cells and entries

-- a word of a slot of the place
slot_within : (place : Place) (slot rest : ℕ) → slot < place.ring → rest < slot_words place.width
    → place.ring_at + slot * slot_words place.width + rest < place_end place
slot_within place slot rest less small =
    let within = word_within slot (slot_words place.width) rest place.ring less small in omega arith

pub place_within : (place : Place) (f : Field) → FitsPlace place → IsOfPlace place f
    → position_address place f < place_end place
place_within place (Key r) fits is = omega arith
place_within place (Header r) fits is = omega arith
place_within place (Count r) fits is = omega arith
place_within place (Word r nth) fits is = omega arith
place_within place (SlotHeader r slot) fits is =
    let within = slot_within place slot 0 is.1 (omega arith) in omega arith
place_within place (SlotEnd r slot) fits is =
    let within = slot_within place slot 1 is.1 (omega arith) in omega arith
place_within place (SlotWord r slot nth) fits is =
    let within = slot_within place slot (2 + nth) is.0.1 (omega arith) in omega arith
place_within place _ fits is = absurd is

pub cells_within : (cells : Cells) (f : Field) → FitsCells cells → IsOfCells cells f
    → cell_address cells f < cells_end cells
cells_within cells (Tag b cell) fits is = omega arith
cells_within cells (Owner b cell) fits is = omega arith
cells_within cells (Begin b cell) fits is = omega arith
cells_within cells (End b cell) fits is = omega arith
cells_within cells (CellWord b cell nth) fits is = omega arith
cells_within cells _ fits is = absurd is

pub workers_within : (workers : ℕ) (f : Field) → IsOfWorkers workers f → worker_address workers f < 2 * workers
workers_within workers (Entry worker) is = omega arith
workers_within workers (Horizon worker) is = omega arith
workers_within workers _ is = absurd is
