-- Old versions in cells: the search of a bucket, the claim of a free cell, and its filling.
use Rattle.std.specs.Prelude.{if◌then◌else◌, ℕ, ◌+◌, ◌-◌, ◌*◌, ◌==◌, List, [], ◌∷◌, ◌++◌, length, slice_index, Some}
use Rattle.std.specs.Prelude.{None}
use Rattle.nam_verbs.specs.declared.now.Now.{Now}
use Rattle.nam_verbs.specs.declared.now.Now.TheVariants.{At, Over}
use Rattle.nam_verbs.specs.Until.{until}
use Rattle.nam_verbs.specs.VerbAt.{VerbAt, ReadAt, WriteAt, ExchangeAt}
use Rattle.nam_header.specs.Stamp.{is_deleted, sees}
use Rattle.nam_header.specs.Tag.{is_free, is_full, written}
use Rattle.nam_layout.specs.declared.field.Place.{Place}
use Rattle.nam_layout.specs.declared.field.Cells.{Cells}
use Rattle.nam_layout.specs.declared.field.Field.{Field}
use Rattle.nam_layout.specs.declared.field.Field.TheVariants as field
use Rattle.nam_calls.specs.declared.ring.SearchEnd.{SearchEnd}
use Rattle.nam_calls.specs.declared.ring.SearchEnd.TheVariants.{Found, NotThere}
use Rattle.nam_calls.specs.declared.overflow.CellPoint.{CellPoint}
use Rattle.nam_calls.specs.declared.overflow.CellPoint.TheVariants.{CellTag, CellOwner, CellBegin, CellEnding}
use Rattle.nam_calls.specs.declared.overflow.CellPoint.TheVariants.{CellWords, CellAgain}
use Rattle.nam_calls.specs.declared.overflow.ClaimPoint.{ClaimPoint}
use Rattle.nam_calls.specs.declared.overflow.ClaimPoint.TheVariants.{ClaimLook, ClaimTake}
use Rattle.nam_calls.specs.declared.overflow.ClaimEnd.{ClaimEnd}
use Rattle.nam_calls.specs.declared.overflow.ClaimEnd.TheVariants.{Claimed, NoRoom}
use Rattle.nam_calls.specs.declared.overflow.Version.{Version}
use Rattle.nam_calls.specs.declared.overflow.FillPoint.{FillPoint}
use Rattle.nam_calls.specs.declared.overflow.FillPoint.TheVariants.{FillOwner, FillBegin, FillEnding, FillWord}

-- 1. SearchCells: cell after cell its tag, owner, begin, end, its words, its tag again

abbrev pub cell_begin : CellPoint
cell_begin = CellTag 0

abbrev pub cell_verb : Cells → CellPoint → VerbAt Field
cell_verb cells (CellTag cell) = ReadAt (field.Tag cells.bucket cell)
cell_verb cells (CellOwner cell tag) = ReadAt (field.Owner cells.bucket cell)
cell_verb cells (CellBegin cell tag) = ReadAt (field.Begin cells.bucket cell)
cell_verb cells (CellEnding cell tag header) = ReadAt (field.End cells.bucket cell)
cell_verb cells (CellWords cell tag header got) = ReadAt (field.CellWord cells.bucket cell (length got))
cell_verb cells (CellAgain cell tag header value) = ReadAt (field.Tag cells.bucket cell)

abbrev pub next_cell : Cells → ℕ → Now CellPoint SearchEnd
next_cell cells cell = if cell + 1 == cells.cells then Over NotThere else At (CellTag (cell + 1))

-- a full cell of the row, with a version that the snapshot sees, whose successor it does not see, and which is still
-- there
abbrev pub cell_after : Cells → Place → List ℕ → CellPoint → ℕ → Now CellPoint SearchEnd
cell_after cells place seen (CellTag cell) found =
    if is_full found then At (CellOwner cell found) else next_cell cells cell
cell_after cells place seen (CellOwner cell tag) found =
    if found == place.row then At (CellBegin cell tag) else next_cell cells cell
cell_after cells place seen (CellBegin cell tag) found =
    if sees place.form seen found then At (CellEnding cell tag found) else next_cell cells cell
cell_after cells place seen (CellEnding cell tag header) found =
    if sees place.form seen found then next_cell cells cell else At (CellWords cell tag header [])
cell_after cells place seen (CellWords cell tag header got) found =
    At (until place.width (got ++ found ∷ []) (CellWords cell tag header) (CellAgain cell tag header))
cell_after cells place seen (CellAgain cell tag header value) found =
    if found == tag then Over (Found (if is_deleted place.form header then None else Some value))
    else next_cell cells cell

-- the cells after this one
abbrev pub cells_left : Cells → Place → ℕ → ℕ
cells_left cells place cell = (cells.cells - cell - 1) * (place.width + 5)

abbrev pub cell_left : Cells → Place → CellPoint → ℕ
cell_left cells place (CellTag cell) = cells_left cells place cell + (place.width + 5)
cell_left cells place (CellOwner cell tag) = cells_left cells place cell + (place.width + 4)
cell_left cells place (CellBegin cell tag) = cells_left cells place cell + (place.width + 3)
cell_left cells place (CellEnding cell tag header) = cells_left cells place cell + (place.width + 2)
cell_left cells place (CellWords cell tag header got) = cells_left cells place cell + (place.width - length got + 1)
cell_left cells place (CellAgain cell tag header value) = cells_left cells place cell + 1

-- 2. ClaimCell: the first free cell whose tag is exchanged

abbrev pub claim_begin : ClaimPoint
claim_begin = ClaimLook 0

abbrev pub claim_verb : Cells → ClaimPoint → VerbAt Field
claim_verb cells (ClaimLook cell) = ReadAt (field.Tag cells.bucket cell)
claim_verb cells (ClaimTake cell tag) = ExchangeAt (field.Tag cells.bucket cell) tag (written tag)

abbrev pub claim_next : Cells → ℕ → Now ClaimPoint ClaimEnd
claim_next cells cell = if cell + 1 == cells.cells then Over NoRoom else At (ClaimLook (cell + 1))

abbrev pub claim_after : Cells → ClaimPoint → ℕ → Now ClaimPoint ClaimEnd
claim_after cells (ClaimLook cell) found = if is_free found then At (ClaimTake cell found) else claim_next cells cell
claim_after cells (ClaimTake cell tag) found =
    if found == tag then Over (Claimed cell (written tag)) else claim_next cells cell

abbrev pub claim_left : Cells → ClaimPoint → ℕ
claim_left cells (ClaimLook cell) = (cells.cells - cell - 1) * 2 + 2
claim_left cells (ClaimTake cell tag) = (cells.cells - cell - 1) * 2 + 1

-- 3. FillCell: owner, begin, end, words

abbrev pub fill_begin : FillPoint
fill_begin = FillOwner

abbrev pub fill_verb : Cells → ℕ → ℕ → Version → FillPoint → VerbAt Field
fill_verb cells cell owner version FillOwner = WriteAt (field.Owner cells.bucket cell) owner
fill_verb cells cell owner version FillBegin = WriteAt (field.Begin cells.bucket cell) version.begin
fill_verb cells cell owner version FillEnding = WriteAt (field.End cells.bucket cell) version.«end»
fill_verb cells cell owner version (FillWord nth) =
    WriteAt (field.CellWord cells.bucket cell nth) (slice_index version.value nth)

abbrev pub fill_after : ℕ → FillPoint → Now FillPoint (Unit {0})
fill_after width FillOwner = At FillBegin
fill_after width FillBegin = At FillEnding
fill_after width FillEnding = At (FillWord 0)
fill_after width (FillWord nth) = if nth + 1 == width then Over tt else At (FillWord (nth + 1))

abbrev pub fill_left : ℕ → FillPoint → ℕ
fill_left width FillOwner = width + 3
fill_left width FillBegin = width + 2
fill_left width FillEnding = width + 1
fill_left width (FillWord nth) = width - nth
