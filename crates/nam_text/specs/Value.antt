-- The text of values.
use Rattle.std.specs.Prelude.{ℕ, List, map, Option}
use Rattle.std.specs.Fmt.{decimal}
use Rattle.nam_text.specs.Spelling.{dash_fields}
use Rattle.nam_text.specs.Kinds.{behind_spaces}

-- each word behind a space
abbrev pub words_text : List ℕ → List ℕ
words_text words = behind_spaces (map decimal words)

-- the words of a value, or a dash where it is absent
abbrev pub value_text : Option (List ℕ) → List ℕ
value_text value = behind_spaces (dash_fields (map decimal) value)
