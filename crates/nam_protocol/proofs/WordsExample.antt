-- Addresses, opening words, the generator and the bounds at small numbers.
use Rattle.std.proofs.Common.{◌≡◌, ◌+◌, ◌*◌, false, [], ◌∷◌, refl}
use Rattle.std.specs.Prelude.{length}
use Rattle.si_model.specs.declared.op.Op.TheVariants.{Need, Add, Scan}
use Rattle.si_model.specs.Generator.{next_state, pick}
use Rattle.nam_catalog.specs.declared.form.Form.TheVariants.{Narrow, Wide, Held}
use Rattle.nam_catalog.specs.declared.shape.Shape.{Shape}
use Rattle.nam_catalog.specs.Words.{words_of}
use Rattle.nam_header.specs.Tag.{freed}
use Rattle.nam_layout.specs.declared.field.Field.TheVariants.{Header, SlotHeader, Tag, Intent}
use Rattle.nam_layout.specs.Address.{address}
use Rattle.nam_protocol.specs.Opening.{copies, load_from, blank_words, opening_words}
use Rattle.nam_protocol.specs.Bound.{verb_bound}
use Rattle.nam_protocol.proofs.Shown.{shape, table, loaded}

-- one worker, one table of two positions with a ring of one slot, and one cell
abbrev small : Shape
small = shape Narrow 1 (table 1 2 1 ∷ []) 1 1 0

second_header : address small (Header 1) ≡ 10
second_header = refl

second_slot : address small (SlotHeader 1 0) ≡ 13
second_slot = refl

first_tag : address small (Tag 0 0) ≡ 16
first_tag = refl

blank_is_whole : length (blank_words small) ≡ words_of small
unfolding copies
blank_is_whole = refl

-- two workers, two tables, two buckets of three cells, and the workers' intents
abbrev with_intents : Shape
with_intents = shape Held 2 (table 1 2 1 ∷ table 2 1 2 ∷ []) 2 3 7

intents_are_blank : length (blank_words with_intents) ≡ words_of with_intents
unfolding copies
intents_are_blank = refl

-- the vector and the horizon, the positions, the cells, and 178 words for each worker's intent
words_with_intents : words_of with_intents ≡ 2 * 2 + (2 * 7 + 13) + 6 * 12 + 2 * 178
words_with_intents = refl

loaded_with_intents : length (opening_words with_intents (loaded 0 3 (30 ∷ []) ∷ loaded 1 5 (50 ∷ 51 ∷ []) ∷ [])) ≡ 459
unfolding copies load_from
loaded_with_intents = refl

without_intents : words_of (record with_intents { form = Wide }) ≡ 103
without_intents = refl

-- the second worker's intent is the last of the words
last_word : address with_intents (Intent 2 177) ≡ 458
last_word = refl

-- key 3 is loaded at position 1, and key 5 then at position 0
loaded_words : opening_words small (loaded 0 3 (30 ∷ []) ∷ loaded 0 5 (50 ∷ []) ∷ [])
    ≡ 0 ∷ 0 ∷ 6 ∷ 0 ∷ 0 ∷ 50 ∷ 5 ∷ 0 ∷ 0 ∷ 4 ∷ 0 ∷ 0 ∷ 30 ∷ 5 ∷ 0 ∷ 0 ∷ 0 ∷ 0 ∷ 0 ∷ 0 ∷ 0 ∷ 0 ∷ 0 ∷ 0 ∷ 0 ∷ 0 ∷ 0 ∷
    0 ∷ []
unfolding copies load_from
loaded_words = refl

-- a tag of the last generation is not set free again
last_tag : freed 18446744073709551613 ≡ 18446744073709551613
last_tag = refl

first_state : next_state 1 ≡ 7806831264735756412
first_state = refl

first_pick : pick (next_state 1) 16 ≡ 6
first_pick = refl

-- a need and two adds on a table of one word, two positions and a ring of one slot, beside one cell and one worker
transfer_bound : verb_bound small (Need 0 0 1 10 ∷ Add 0 0 1 false 10 ∷ Add 0 1 1 false 10 ∷ []) ≡ 2 + 3 * (2 + 20)
    + 2 * 4 + 2 * 12 + 1
transfer_bound = refl

-- a scan of that table
scan_bound : verb_bound small (Scan 0 0 9 ∷ []) ≡ 2 + 2 * 21 + 1
scan_bound = refl
