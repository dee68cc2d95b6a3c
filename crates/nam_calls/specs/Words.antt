-- Tables, the path of a key through one, and counts.
use Rattle.std.specs.Prelude.{ℕ, ◌+◌, ◌%◌, ◌^◌, slice_index}
use Rattle.nam_catalog.specs.declared.shape.Shape.{Shape}
use Rattle.nam_catalog.specs.Tables.{widths_of, capacities_of, rings_of}
use Rattle.nam_catalog.specs.Words.{position_words}
use Rattle.nam_layout.specs.Rows.{row_of}
use Rattle.nam_layout.specs.declared.field.Field.TheVariants.{Key}
use Rattle.nam_layout.specs.Address.{address}
use Rattle.nam_calls.specs.declared.index.Path.{Path}

abbrev pub width_of : Shape → ℕ → ℕ
width_of shape table = slice_index (widths_of shape.tables) table

abbrev pub ring_of : Shape → ℕ → ℕ
ring_of shape table = slice_index (rings_of shape.tables) table

abbrev pub capacity_of : Shape → ℕ → ℕ
capacity_of shape table = slice_index (capacities_of shape.tables) table

-- the position of a key's path after so many others
abbrev pub on_path : ℕ → ℕ → ℕ → ℕ
on_path capacity key passed = (key % capacity + passed) % capacity

-- the path of a key of a table
abbrev pub path_of : Shape → ℕ → ℕ → Path
path_of shape table key = record {
  key = key;
  capacity = capacity_of shape table;
  row = row_of shape.tables table 0;
  first = address shape (Key (row_of shape.tables table 0));
  words = position_words (width_of shape table) (ring_of shape table);
}

-- the word that a position bears whose key this is
abbrev pub key_word : ℕ → ℕ
key_word key = key + 1

-- a count is a word
abbrev pub wrapped : ℕ → ℕ
wrapped n = n % 2 ^ 64
