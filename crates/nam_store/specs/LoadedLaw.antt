-- Loaded rows stand in the index: each on its key's path, and no key twice.
use Rattle.std.specs.Prelude.{◌≡◌, ◌≢◌, ℕ, ◌<◌, List}
use Rattle.si_model.specs.declared.row.Row.{Row}
use Rattle.si_model.specs.Lists.{Listed}
use Rattle.nam_catalog.specs.declared.shape.Shape.{Shape}
use Rattle.nam_calls.specs.Fits.{IsTableOf}
use Rattle.nam_calls.specs.Index.{nth_key}
use Rattle.nam_calls.specs.Memory.{memory}
use Rattle.nam_calls.specs.Words.{capacity_of, key_word, path_of}
use Rattle.nam_protocol.specs.Opening.{opening_words}
use Rattle.nam_protocol.specs.OpeningLaw.{StandsOnPath}
use Rattle.nam_store.specs.Opening.{AreLoaded}

module _ (shape : Shape) (words : List ℕ) where
  -- the word of the position after so many others on a key's path
  abbrev pub word_after : ℕ → ℕ → ℕ → ℕ
  word_after table key passed = memory shape words (nth_key (path_of shape table key) passed)

  -- where a key stands on its path, the positions before it bear other keys
  abbrev pub KeysStand : Type 0
  KeysStand = (table key passed : ℕ) → IsTableOf shape table → passed < capacity_of shape table
      → word_after table key passed ≡ key_word key
      → (k : ℕ) → k < passed → (word_after table key k ≢ 0) × (word_after table key k ≢ key_word key)

abbrev pub KeysOpenLaw : Type 0
KeysOpenLaw = (shape : Shape) (rows : List Row) → AreLoaded shape rows → KeysStand shape (opening_words shape rows)

abbrev pub RowsStandLaw : Type 0
RowsStandLaw = (shape : Shape) (rows : List Row) → AreLoaded shape rows → (row : Row) → Listed row rows
    → StandsOnPath shape (opening_words shape rows) row
