-- The read at a position as a straight program, to be compared with the order of verbs.
use Rattle.std.specs.Prelude.{if◌then◌else◌, ℕ, zero, suc, ◌+◌, ◌-◌, ◌<◌, ◌==◌, ◌&&◌, ◌||◌, not, nat_lt, List, []}
use Rattle.std.specs.Prelude.{Some}
use Rattle.std.specs.Prelude.{None, slice_index}
use Rattle.nam_verbs.specs.declared.now.Now.TheVariants.{At}
use Rattle.nam_header.specs.Stamp.{is_locked, is_deleted, same_stamp, sees, mark}
use Rattle.nam_header.specs.Tag.{is_full}
use Rattle.nam_layout.specs.declared.field.Place.{Place}
use Rattle.nam_layout.specs.declared.field.Cells.{Cells}
use Rattle.nam_layout.specs.declared.field.Field.TheVariants as field
use Rattle.nam_calls.specs.declared.ring.SearchEnd.{SearchEnd}
use Rattle.nam_calls.specs.declared.ring.SearchEnd.TheVariants.{Found, NotThere}
use Rattle.nam_calls.specs.declared.horizon.OldEnd.{OldEnd}
use Rattle.nam_calls.specs.declared.horizon.OldEnd.TheVariants.{TooOld, NotPassed}
use Rattle.nam_calls.specs.declared.reading.Sight.{Sight}
use Rattle.nam_calls.specs.declared.reading.ReadingEnd.{ReadingEnd}
use Rattle.nam_calls.specs.declared.reading.ReadingEnd.TheVariants.{Got, Passed, Astray}
use Rattle.nam_calls.specs.Reading.{read_begin, read_verb, read_after}
use Rattle.nam_calls.specs.Program.{Prog, Ret, ◌>>=◌, read, words, IsTheProgram, standing, taking}

module _ (place : Place) (seen : List ℕ) where
  -- the search of the ring: so many slots, from this one on
  abbrev pub search_ring : ℕ → ℕ → Prog SearchEnd
  search_ring zero slot = Ret NotThere
  search_ring (suc rest) slot =
      read (field.SlotHeader place.row slot) >>= λ header.
      if (header == mark) || not (sees place.form seen header) then search_ring rest (slot + 1) else
      read (field.SlotEnd place.row slot) >>= λ ending.
      if sees place.form seen ending then search_ring rest (slot + 1) else
      words (field.SlotWord place.row slot) place.width [] >>= λ value.
      read (field.SlotHeader place.row slot) >>= λ again.
      if same_stamp place.form again header && not (again == mark)
      then Ret (Found (if is_deleted place.form header then None else Some value))
      else search_ring rest (slot + 1)

  -- the search of the cells: so many cells, from this one on
  abbrev pub search_cells : Cells → ℕ → ℕ → Prog SearchEnd
  search_cells cells zero cell = Ret NotThere
  search_cells cells (suc rest) cell =
      read (field.Tag cells.bucket cell) >>= λ tag.
      if not (is_full tag) then search_cells cells rest (cell + 1) else
      read (field.Owner cells.bucket cell) >>= λ owner.
      if not (owner == place.row) then search_cells cells rest (cell + 1) else
      read (field.Begin cells.bucket cell) >>= λ header.
      if not (sees place.form seen header) then search_cells cells rest (cell + 1) else
      read (field.End cells.bucket cell) >>= λ ending.
      if sees place.form seen ending then search_cells cells rest (cell + 1) else
      words (field.CellWord cells.bucket cell) place.width [] >>= λ value.
      read (field.Tag cells.bucket cell) >>= λ again.
      if again == tag then Ret (Found (if is_deleted place.form header then None else Some value))
      else search_cells cells rest (cell + 1)

-- the horizon entries of so many workers, from this one on, until one is above the snapshot's
abbrev pub show_old : ℕ → List ℕ → ℕ → ℕ → Prog OldEnd
show_old workers seen zero worker = Ret NotPassed
show_old workers seen (suc rest) worker =
    read (field.Horizon worker) >>= λ horizon.
    if nat_lt (slice_index seen (worker - 1)) horizon then Ret (TooOld worker (slice_index seen (worker - 1)) horizon)
    else show_old workers seen rest (worker + 1)

-- what a search found is the answer; else the rest follows
abbrev pub found_or : Prog ReadingEnd → SearchEnd → Prog ReadingEnd
found_or rest (Found value) = Ret (Got value)
found_or rest NotThere = rest

abbrev pub reading_end : OldEnd → ReadingEnd
reading_end (TooOld worker entry horizon) = Passed worker entry horizon
reading_end NotPassed = Astray

module _ (sight : Sight) (seen : List ℕ) where
  -- steps 6 to 8: the ring, the cells, the horizon
  abbrev pub old_versions : Prog ReadingEnd
  old_versions =
      search_ring sight.place seen sight.place.ring 0 >>= found_or (
      search_cells sight.place seen sight.cells sight.cells.cells 0 >>= found_or (
      show_old sight.workers seen sight.workers 1 >>= λ end.
      Ret (reading_end end)))

  -- steps 1 to 5: the header, the words, the header; where one of the two looks found a lock, the ring and the header
  abbrev pub read_program : Prog ReadingEnd
  read_program =
      read (field.Header sight.place.row) >>= λ header.
      if not (sees sight.place.form seen header) then old_versions else
      if is_deleted sight.place.form header then Ret (Got None) else
      words (field.Word sight.place.row) sight.place.width [] >>= λ value.
      read (field.Header sight.place.row) >>= λ again.
      if not (same_stamp sight.place.form again header) then old_versions else
      if not (is_locked sight.place.form header || is_locked sight.place.form again) then Ret (Got (Some value)) else
      search_ring sight.place seen sight.place.ring 0 >>= found_or (
      read (field.Header sight.place.row) >>= λ last.
      if same_stamp sight.place.form last header then Ret (Got (Some value)) else old_versions)

-- a record has words and slots, its bucket cells, and the store workers
pub record SightHasAll (sight : Sight) : Type 0 where
  pub words : 0 < sight.place.width
  pub slots : 0 < sight.place.ring
  pub cells : 0 < sight.cells.cells
  pub workers : 0 < sight.workers

-- the read does what its program says
abbrev pub ReadIsProgram : Type 0
ReadIsProgram = (sight : Sight) (seen : List ℕ) → SightHasAll sight
    → IsTheProgram (standing (read_verb sight)) (taking (read_after sight seen)) (At read_begin)
    (read_program sight seen)
