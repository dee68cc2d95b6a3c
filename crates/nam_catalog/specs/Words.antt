-- How many words a shape takes.
use Rattle.std.specs.Prelude.{ℕ, ◌+◌, ◌*◌, List, [], ◌∷◌}
use Rattle.nam_catalog.specs.declared.form.Form.{Form}
use Rattle.nam_catalog.specs.declared.form.Form.TheVariants.{Narrow, Wide, Held}
use Rattle.nam_catalog.specs.declared.bounds.TheConstants.{CELL_WORDS, INTENT_WORDS}
use Rattle.nam_catalog.specs.declared.shape.Table.{Table}
use Rattle.nam_catalog.specs.declared.shape.Shape.{Shape}

-- a slot: a header, an end and a value
abbrev pub slot_words : ℕ → ℕ
slot_words width = 2 + width

-- a position: key, header, count, the current value, and a slot for each old version
abbrev pub position_words : ℕ → ℕ → ℕ
position_words width ring = 3 + width + ring * slot_words width

abbrev pub table_words : Table → ℕ
table_words t = t.capacity * position_words t.width t.ring

abbrev pub tables_words : List Table → ℕ
tables_words [] = 0
tables_words (t ∷ ts) = table_words t + tables_words ts

-- an overflow cell: tag, owner, begin, end, and room for the widest value
abbrev pub cell_words : ℕ
cell_words = CELL_WORDS

-- a worker's intent in form Held: state, commit number, and 11 words for each of 16 records; the other forms have none
abbrev pub intent_words : Form → ℕ
intent_words Narrow = 0
intent_words Wide = 0
intent_words Held = INTENT_WORDS

-- vector and horizon entries, the positions of all tables, the cells of all buckets, and the intents
abbrev pub words_of : Shape → ℕ
words_of shape =
    2 * shape.workers + tables_words shape.tables + shape.buckets * shape.cells * cell_words
    + shape.workers * intent_words shape.form
