-- What each field has at the opening.
use Rattle.std.specs.Prelude.{◌≡◌, ◌≢◌, ◌⊎◌, ℕ, ◌+◌, ◌<◌, List, length, slice_index}
use Rattle.std.specs.List.{AllByRecursion}
use Rattle.si_model.specs.declared.row.Row.{Row}
use Rattle.si_model.specs.Lists.{Listed}
use Rattle.nam_catalog.specs.declared.shape.Shape.{Shape}
use Rattle.nam_catalog.specs.Words.{words_of}
use Rattle.nam_header.specs.Stamp.{blank_header}
use Rattle.nam_layout.specs.declared.field.Field.{Field}
use Rattle.nam_layout.specs.declared.field.Field.TheVariants.{Key, Header, Word}
use Rattle.nam_layout.specs.Rows.{row_of, width_at}
use Rattle.nam_layout.specs.Address.{IsRow, IsField}
use Rattle.nam_calls.specs.Words.{width_of, capacity_of, key_word, path_of}
use Rattle.nam_calls.specs.Index.{nth_position, nth_key}
use Rattle.nam_calls.specs.Memory.{memory}
use Rattle.nam_calls.specs.Fits.{IsTableOf}
use Rattle.nam_protocol.specs.Opening.{blank_words, blank_at, opening_words}

-- 1. Without rows: there are as many words as the shape's, and each field has its blank word

pub record IsBlank (shape : Shape) (words : List ℕ) : Type 0 where
  pub whole : length words ≡ words_of shape
  pub each : (f : Field) → IsField shape f → memory shape words f ≡ blank_at shape f

abbrev pub BlankLaw : Type 0
BlankLaw = (shape : Shape) → IsBlank shape (blank_words shape)

-- 2. With rows, each of a table and of its width

pub record IsOfTable (shape : Shape) (row : Row) : Type 0 where
  pub table_is : IsTableOf shape row.table
  pub wide : length row.value ≡ width_of shape row.table

-- a field that no row is loaded into
abbrev pub IsUntouched : Field → Type 0
IsUntouched (Key at) = ⊥
IsUntouched (Header at) = ⊥
IsUntouched (Word at nth) = ⊥
IsUntouched _ = Unit {0}

-- the position of this number among all has no row
pub record IsFree (shape : Shape) (words : List ℕ) (at : ℕ) : Type 0 where
  pub key : memory shape words (Key at) ≡ 0
  pub header : memory shape words (Header at) ≡ blank_header
  pub words_are : (nth : ℕ) → nth < width_at shape.tables at → memory shape words (Word at nth) ≡ 0

-- it is one of the row's table, and has the row under the loader's stamp
pub record HasRow (shape : Shape) (words : List ℕ) (at : ℕ) (row : Row) : Type 0 where
  pub position : ℕ
  pub within : position < capacity_of shape row.table
  pub at_is : at ≡ row_of shape.tables row.table position
  pub key : memory shape words (Key at) ≡ key_word row.key
  pub header : memory shape words (Header at) ≡ 0
  pub words_are : (nth : ℕ) → nth < width_at shape.tables at
      → memory shape words (Word at nth) ≡ slice_index row.value nth

-- each position is free or has one of the rows; all other fields are blank
pub record IsOpening (shape : Shape) (rows : List Row) (words : List ℕ) : Type 0 where
  pub whole : length words ≡ words_of shape
  pub positions : (at : ℕ) → IsRow shape at
      → IsFree shape words at ⊎ ((row : Row) × Listed row rows × HasRow shape words at row)
  pub untouched : (f : Field) → IsField shape f → IsUntouched f → memory shape words f ≡ blank_at shape f

-- so many positions of the row's path bear keys
abbrev pub BearKeys : Shape → List ℕ → Row → ℕ → Type 0
BearKeys shape words row count =
    (k : ℕ) → k < count → memory shape words (nth_key (path_of shape row.table row.key) k) ≢ 0

-- the row stands on its key's path, after positions that bear keys
pub record StandsOnPath (shape : Shape) (words : List ℕ) (row : Row) : Type 0 where
  pub passed : ℕ
  pub within : passed < capacity_of shape row.table
  pub has : let path = path_of shape row.table row.key in HasRow shape words (path.row + nth_position path passed) row
  pub past : BearKeys shape words row passed

abbrev pub OpeningLaw : Type 0
OpeningLaw = (shape : Shape) (rows : List Row) → AllByRecursion (IsOfTable shape) rows
    → IsOpening shape rows (opening_words shape rows)

-- each of the rows stands on its path, or its table is full
abbrev pub PathLaw : Type 0
PathLaw = (shape : Shape) (rows : List Row) → AllByRecursion (IsOfTable shape) rows
    → (row : Row) → Listed row rows
    → let words = opening_words shape rows in
    StandsOnPath shape words row ⊎ BearKeys shape words row (capacity_of shape row.table)
