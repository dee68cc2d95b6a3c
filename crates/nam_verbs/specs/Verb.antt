-- what a verb finds, and what it does to the words
use Rattle.std.specs.Prelude.{ℕ, List, ◌==◌, if◌then◌else◌, slice_index, slice_set}
use Rattle.nam_verbs.specs.declared.verb.Verb.{Verb}
use Rattle.nam_verbs.specs.declared.verb.Verb.TheVariants.{Read, Write, Exchange}

-- the address of the word that a verb reaches
abbrev pub address_of : Verb → ℕ
address_of (Read at) = at
address_of (Write at word) = at
address_of (Exchange at expect word) = at

-- the word that a verb finds, and 0 for a write
abbrev pub found_by : List ℕ → Verb → ℕ
found_by words (Read at) = slice_index words at
found_by words (Write at word) = 0
found_by words (Exchange at expect word) = slice_index words at

-- the words after a verb: an exchange stores exactly where it finds what it expects
abbrev pub after_verb : List ℕ → Verb → List ℕ
after_verb words (Read at) = words
after_verb words (Write at word) = slice_set words at word
after_verb words (Exchange at expect word) = if slice_index words at == expect then slice_set words at word else words
