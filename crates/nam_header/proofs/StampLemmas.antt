-- What the word of a header tells.
use Rattle.std.proofs.Common.{◌≡◌, ℕ, ◌<◌, ◌^◌, List, ap, arith}
use Rattle.nam_catalog.specs.declared.form.Form.{Form}
use Rattle.nam_header.specs.declared.header.Header.{Header}
use Rattle.nam_header.specs.Header.{IsWithin, header_of, word_of}
use Rattle.nam_header.specs.Stamp.{stamp_in, is_locked, is_deleted, is_moved, sees}
use Rattle.nam_header.specs.Visible.{is_visible}

-- the word of a header is unpacked to it
pub header_of-word_of : (form : Form) (h : Header) → IsWithin form h → header_of form (word_of form h) ≡ h
header_of-word_of form h within = grind arith

-- the header of a word is packed to it, and is within the form's bounds
pub word_of-header_of : (form : Form) (word : ℕ) → word < 2 ^ 64 → word_of form (header_of form word) ≡ word
word_of-header_of form word below = grind arith

pub within-header_of : (form : Form) (word : ℕ) → word < 2 ^ 64 → IsWithin form (header_of form word)
within-header_of form word below = grind arith

pub word_of-below : (form : Form) (h : Header) → IsWithin form h → word_of form h < 2 ^ 64
word_of-below form h within = grind arith

pub stamp_in-word_of : (form : Form) (h : Header) → IsWithin form h → stamp_in form (word_of form h) ≡ h.stamp
stamp_in-word_of form h within = ap (λ (g : Header). g.stamp) (header_of-word_of form h within)

pub is_locked-word_of : (form : Form) (h : Header) → IsWithin form h → is_locked form (word_of form h) ≡ h.locked
is_locked-word_of form h within = ap (λ (g : Header). g.locked) (header_of-word_of form h within)

pub is_deleted-word_of : (form : Form) (h : Header) → IsWithin form h → is_deleted form (word_of form h) ≡ h.deleted
is_deleted-word_of form h within = ap (λ (g : Header). g.deleted) (header_of-word_of form h within)

pub is_moved-word_of : (form : Form) (h : Header) → IsWithin form h → is_moved form (word_of form h) ≡ h.moved
is_moved-word_of form h within = ap (λ (g : Header). g.moved) (header_of-word_of form h within)

pub sees-word_of : (form : Form) (h : Header) (seen : List ℕ) → IsWithin form h
    → sees form seen (word_of form h) ≡ is_visible h.stamp seen
sees-word_of form h seen within = ap (λ (g : Header). is_visible g.stamp seen) (header_of-word_of form h within)
