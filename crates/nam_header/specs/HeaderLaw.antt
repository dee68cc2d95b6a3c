-- Each word is exactly one header of each form.
use Rattle.std.specs.Prelude.{◌≡◌, ℕ, ◌+◌, ◌<◌, ◌^◌}
use Rattle.nam_catalog.specs.declared.form.Form.{Form}
use Rattle.nam_catalog.specs.Greatest.{greatest_number}
use Rattle.nam_header.specs.declared.header.Header.{Header}
use Rattle.nam_header.specs.Header.{IsWithin, fields_of, word_of, header_of}

-- what was packed is unpacked
abbrev pub UnpackedLaw : Type 0
UnpackedLaw = (form : Form) (h : Header) → IsWithin form h → header_of form (word_of form h) ≡ h

-- what was unpacked is packed
abbrev pub PackedLaw : Type 0
PackedLaw = (form : Form) (word : ℕ) → word < 2 ^ 64 → word_of form (header_of form word) ≡ word

-- what is unpacked can be packed
abbrev pub WithinLaw : Type 0
WithinLaw = (form : Form) (word : ℕ) → word < 2 ^ 64 → IsWithin form (header_of form word)

-- what is packed is a word
abbrev pub WordLaw : Type 0
WordLaw = (form : Form) (h : Header) → IsWithin form h → word_of form h < 2 ^ 64

-- the bound on numbers is above the greatest number
abbrev pub GreatestLaw : Type 0
GreatestLaw = (form : Form) → greatest_number form + 1 ≡ (fields_of form).numbers
