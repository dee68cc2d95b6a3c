-- Which words the filling of a cell writes.
use Rattle.std.specs.Prelude.{ℕ, ◌<◌, ◌≤◌, List, ◌∷◌, length}
use Rattle.nam_verbs.specs.Steps.{writes_of, EndsAfter}
use Rattle.nam_verbs.specs.Machine.{Always}
use Rattle.nam_verbs.specs.VerbAt.{VerbAt, WriteAt, target}
use Rattle.nam_catalog.specs.declared.bounds.TheConstants.{MOST_WIDTH}
use Rattle.nam_layout.specs.declared.field.Cells.{Cells}
use Rattle.nam_layout.specs.Known.{IsOfCells}
use Rattle.nam_layout.specs.declared.field.Field.{Field}
use Rattle.nam_layout.specs.declared.field.Field.TheVariants as field
use Rattle.nam_calls.specs.Overflow.{fill_verb}
use Rattle.nam_overflow.specs.Fill.{filling, running}

-- the writes of a cell's owner, begin, end and words
abbrev pub fill_verbs : Cells → ℕ → ℕ → ℕ → ℕ → List ℕ → List (VerbAt Field)
fill_verbs cells cell owner begin ending words =
    WriteAt (field.Owner cells.bucket cell) owner ∷ WriteAt (field.Begin cells.bucket cell) begin
    ∷ WriteAt (field.End cells.bucket cell) ending
    ∷ writes_of (field.CellWord cells.bucket cell) words

-- the cell's owner, begin, end and words are written, in this order, and nothing else
abbrev pub FillLaw : Type 0
FillLaw = (cells : Cells) (cell owner begin ending : ℕ) (words : List ℕ) → 1 ≤ length words
    → EndsAfter (running (filling cells cell owner begin ending words))
    (fill_verbs cells cell owner begin ending words) tt

-- each verb writes a field of the bucket's cells
abbrev pub FillFieldLaw : Type 0
FillFieldLaw = (cells : Cells) (cell : ℕ) → cell < cells.cells
    → (owner begin ending : ℕ) (words : List ℕ) → 1 ≤ length words → length words ≤ MOST_WIDTH
    → let call = filling cells cell owner begin ending words in
    Always (λ at. IsOfCells cells (target (fill_verb cells cell owner call.version at))) (running call)
