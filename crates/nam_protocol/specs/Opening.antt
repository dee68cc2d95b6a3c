-- The words at the opening: a shape's blank words with the loaded rows.
use Rattle.std.specs.Prelude.{ℕ, zero, suc, ◌+◌, ◌*◌, ◌==◌, true, false, List, [], ◌∷◌, ◌++◌, replicate}
use Rattle.si_model.specs.declared.row.Row.{Row}
use Rattle.nam_catalog.specs.declared.shape.Table.{Table}
use Rattle.nam_catalog.specs.declared.shape.Shape.{Shape}
use Rattle.nam_catalog.specs.Words.{cell_words, intent_words}
use Rattle.nam_header.specs.Stamp.{blank_header, mark}
use Rattle.nam_layout.specs.declared.field.Field.{Field}
use Rattle.nam_layout.specs.declared.field.Field.TheVariants as field
use Rattle.nam_calls.specs.Memory.{memory, with_word}
use Rattle.nam_calls.specs.Index.{nth_position, nth_key}
use Rattle.nam_calls.specs.Words.{capacity_of, key_word, path_of}

-- 1. Blank words

-- so many times the same words
unfoldable pub copies : ℕ → List ℕ → List ℕ
copies zero words = []
copies (suc n) words = words ++ copies n words

abbrev pub blank_slot : ℕ → List ℕ
blank_slot width = mark ∷ 0 ∷ replicate {A = ℕ} width 0

-- a position of so many data words and slots
abbrev pub blank_position : ℕ → ℕ → List ℕ
blank_position width ring = 0 ∷ blank_header ∷ 0 ∷ replicate {A = ℕ} width 0 ++ copies ring (blank_slot width)

abbrev pub blank_tables : List Table → List ℕ
blank_tables [] = []
blank_tables (t ∷ ts) = copies t.capacity (blank_position t.width t.ring) ++ blank_tables ts

-- vector and horizon at start, no key, every slot with the mark, free cells, no intent
abbrev pub blank_words : Shape → List ℕ
blank_words shape =
    replicate {A = ℕ} (2 * shape.workers) shape.start
    ++ blank_tables shape.tables
    ++ replicate {A = ℕ} (shape.buckets * shape.cells * cell_words) 0
    ++ replicate {A = ℕ} (shape.workers * intent_words shape.form) 0

-- the blank word of a field
abbrev pub blank_at : Shape → Field → ℕ
blank_at shape (field.Entry worker) = shape.start
blank_at shape (field.Horizon worker) = shape.start
blank_at shape (field.Header row) = blank_header
blank_at shape (field.SlotHeader row slot) = mark
blank_at shape _ = 0

-- 2. Loaded rows

-- the words with these data words at a row, from the nth on
abbrev pub with_value : Shape → ℕ → ℕ → List ℕ → List ℕ → List ℕ
with_value shape at nth [] words = words
with_value shape at nth (v ∷ vs) words = with_value shape at (nth + 1) vs (with_word shape words (field.Word at nth) v)

-- the words with a loaded row at a row, under the loader's stamp
abbrev pub with_row : Shape → ℕ → Row → List ℕ → List ℕ
with_row shape at row words =
    with_value shape at 0 row.value
    (with_word shape (with_word shape words (field.Key at) (key_word row.key)) (field.Header at) 0)

-- the row is loaded at the first free position of its key's path, after so many that were passed
unfoldable pub load_from : Shape → Row → ℕ → ℕ → List ℕ → List ℕ
load_from shape row zero passed words = words
load_from shape row (suc rest) passed words =
    elim (memory shape words (nth_key (path_of shape row.table row.key) passed) == 0) [
      | true ↦
          let path = path_of shape row.table row.key in with_row shape (path.row + nth_position path passed) row words
      | false ↦ load_from shape row rest (passed + 1) words
    ]

abbrev pub with_rows : Shape → List Row → List ℕ → List ℕ
with_rows shape [] words = words
with_rows shape (row ∷ rows) words = with_rows shape rows (load_from shape row (capacity_of shape row.table) 0 words)

abbrev pub opening_words : Shape → List Row → List ℕ
opening_words shape rows = with_rows shape rows (blank_words shape)
