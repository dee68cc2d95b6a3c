-- The words of current versions, row by row, and which of them a written word leaves as they were.
use Rattle.std.specs.Prelude.{None, Option, Some, ℕ, ◌<◌, ◌≡◌, ◌≢◌}
use Rattle.nam_catalog.specs.declared.shape.Shape.{Shape}
use Rattle.nam_layout.specs.Address.{IsRow}
use Rattle.nam_layout.specs.Rows.{width_at}
use Rattle.nam_layout.specs.declared.field.Field.{Field}
use Rattle.nam_layout.specs.declared.field.Field.TheVariants.{Count, Header, Word}

-- the row whose current version a word is of
abbrev pub current_row : Field → Option ℕ
current_row (Header row) = Some row
current_row (Count row) = Some row
current_row (Word row nth) = Some row
current_row _ = None

-- that of the word that is written, if one is
abbrev pub written_row : Option Field → Option ℕ
written_row None = None
written_row (Some field) = current_row field

module _ (shape : Shape) (m now : Field → ℕ) where
  -- the words of this row's current version are what they were
  pub record SameRow (row : ℕ) : Type 0 where
    pub header : now (Header row) ≡ m (Header row)
    pub count : now (Count row) ≡ m (Count row)
    pub word : (nth : ℕ) → nth < width_at shape.tables row → now (Word row nth) ≡ m (Word row nth)

  -- so are those of each row, or of each but one
  abbrev pub SameRows : Type 0
  SameRows = (row : ℕ) → IsRow shape row → SameRow row

  abbrev pub OtherRows : ℕ → Type 0
  OtherRows row = (other : ℕ) → IsRow shape other → other ≢ row → SameRow other
