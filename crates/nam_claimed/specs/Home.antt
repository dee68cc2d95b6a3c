-- The position of a key, as a function of the words.
use Rattle.std.specs.Prelude.{None, Option, Some, if◌then◌else◌, suc, zero, ℕ, ◌==◌}
use Rattle.si_model.specs.declared.row.Key.{Key}
use Rattle.nam_catalog.specs.declared.shape.Shape.{Shape}
use Rattle.nam_layout.specs.Rows.{row_of}
use Rattle.nam_layout.specs.declared.field.Field.{Field}
use Rattle.nam_calls.specs.Words.{capacity_of, key_word}
use Rattle.nam_layout.specs.declared.field.Field.TheVariants as field

-- the first of so many positions, from this one on, that bears the word
abbrev pub first_bearing : (ℕ → ℕ) → ℕ → ℕ → ℕ → Option ℕ
first_bearing words word position zero = None
first_bearing words word position (suc more) =
    if words position == word then Some position else first_bearing words word (suc position) more

module _ (shape : Shape) (m : Field → ℕ) where
  -- the key word of a table's position
  abbrev pub word_at : ℕ → ℕ → ℕ
  word_at table position = m (field.Key (row_of shape.tables table position))

  -- where the key stands in its table, if it does
  abbrev pub home_of : Key → Option ℕ
  home_of key = first_bearing (word_at key.table) (key_word key.key) 0 (capacity_of shape key.table)
