-- where the key words of a path stand
use Rattle.std.specs.Prelude.{ℕ, ◌+◌, ◌-◌, ◌*◌, ◌^◌, ◌<◌, ◌≤◌}
use Rattle.nam_catalog.specs.declared.bounds.TheConstants.{MOST_WORDS}
use Rattle.nam_layout.specs.declared.field.Field.{Field}
use Rattle.nam_layout.specs.declared.field.Field.TheVariants.{Key}
use Rattle.nam_calls.specs.declared.index.Path.{Path}

-- the positions of a table stand one after another
abbrev pub path_address : Path → Field → ℕ
path_address path (Key row) = path.first + (row - path.row) * path.words
path_address path _ = 0

-- after the last of them
abbrev pub path_end : Path → ℕ
path_end path = path.first + path.capacity * path.words

-- the key has a word, there are positions, and the last word of the last is a word of a store
pub record FitsPath (path : Path) : Type 0 where
  pub key : path.key < 2 ^ 64 - 1
  pub least_capacity : 1 ≤ path.capacity
  pub least_words : 1 ≤ path.words
  pub last : path_end path ≤ MOST_WORDS
