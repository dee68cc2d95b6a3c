-- a field's address is below the number of words, and the field stands there
use Rattle.std.proofs.Common.{◌≡◌, ◌≢◌, ℕ, ◌+◌, ◌-◌, ◌*◌, ◌/◌, ◌%◌, ◌<◌, ◌≤◌, refl, sym, ◌∙◌, ap, arith}
use Rattle.std.proofs.lemmas.Nat.{div-mul-add, mod-mul-add}
use Rattle.nam_catalog.specs.declared.shape.Shape.{Shape}
use Rattle.nam_catalog.specs.Words.{slot_words, position_words, tables_words, cell_words, intent_words, words_of}
use Rattle.nam_layout.specs.declared.field.Field.{Field}
use Rattle.nam_layout.specs.declared.field.Field.TheVariants.{Entry, Horizon, Key, Header, Count, Word, SlotHeader}
use Rattle.nam_layout.specs.declared.field.Field.TheVariants.{SlotEnd, SlotWord, Tag, Owner, Begin, End, CellWord}
use Rattle.nam_layout.specs.declared.field.Field.TheVariants.{Intent}
use Rattle.nam_layout.specs.Rows.{width_at, ring_at, row_at}
use Rattle.nam_layout.specs.Address.{IsField, IsWorker, IsRow, IsSlot, IsCell, tables_at, cells_at, intents_at}
use Rattle.nam_layout.specs.Address.{position_at, slot_at, cell_at, address}
use Rattle.nam_layout.specs.FieldAt.{rest_in, field_in_slot, field_in_position, field_in_tables, field_in_cell}
use Rattle.nam_layout.specs.FieldAt.{field_in_cells, field_in_intents, field_at}
use Rattle.nam_layout.proofs.TestLemmas.{if_less, if_not_less, if_other}
use Rattle.nam_layout.proofs.NumberLemmas.{place_within}
use Rattle.nam_layout.proofs.RowLemmas.{row_stands}

-- the choices among the words of a slot
slot_header : (row slot : ℕ) → field_in_slot row slot 0 ≡ SlotHeader row slot
slot_header row slot = refl

slot_end : (row slot : ℕ) → field_in_slot row slot 1 ≡ SlotEnd row slot
slot_end row slot = refl

slot_word : (row slot nth : ℕ) → field_in_slot row slot (2 + nth) ≡ SlotWord row slot nth
slot_word row slot nth =
    let some : 2 + nth ≢ 0 = λ same. omega arith in
    let more : 2 + nth ≢ 1 = λ same. omega arith in
    let after : 2 + nth - 2 ≡ nth = omega arith in
    if_other _ _ _ _ some ∙ if_other _ _ _ _ more ∙ ap (SlotWord row slot) after

-- the choices among the words of a position
word : (width row nth : ℕ) → nth < width → field_in_position width row (3 + nth) ≡ Word row nth
word width row nth less =
    let some : 3 + nth ≢ 0 = λ same. omega arith in
    let more : 3 + nth ≢ 1 = λ same. omega arith in
    let most : 3 + nth ≢ 2 = λ same. omega arith in
    let after : 3 + nth - 3 ≡ nth = omega arith in
    let below : 3 + nth < 3 + width = omega arith in
    if_other _ _ _ _ some ∙ if_other _ _ _ _ more ∙ if_other _ _ _ _ most ∙ if_less _ _ _ _ below ∙ ap (Word row) after

old : (width row slot rest : ℕ) → rest < slot_words width
    → field_in_position width row (3 + width + (slot * slot_words width + rest)) ≡ field_in_slot row slot rest
old width row slot rest less =
    let at = 3 + width + (slot * slot_words width + rest) in
    let some : at ≢ 0 = λ same. omega arith in
    let more : at ≢ 1 = λ same. omega arith in
    let most : at ≢ 2 = λ same. omega arith in
    let past : 3 + width ≤ at = omega arith in
    let after : at - (3 + width) ≡ slot * slot_words width + rest = omega arith in
    if_other _ _ _ _ some ∙ if_other _ _ _ _ more ∙ if_other _ _ _ _ most ∙ if_not_less _ _ _ _ past
    ∙ ap (λ n. field_in_slot row (n / slot_words width) (n % slot_words width)) after
    ∙ ap (λ s. field_in_slot row s ((slot * slot_words width + rest) % slot_words width))
    (div-mul-add slot (slot_words width) rest less)
    ∙ ap (field_in_slot row slot) (mod-mul-add slot (slot_words width) rest less)

cell_word : (bucket cell nth : ℕ) → field_in_cell bucket cell (4 + nth) ≡ CellWord bucket cell nth
cell_word bucket cell nth =
    let some : 4 + nth ≢ 0 = λ same. omega arith in
    let more : 4 + nth ≢ 1 = λ same. omega arith in
    let many : 4 + nth ≢ 2 = λ same. omega arith in
    let most : 4 + nth ≢ 3 = λ same. omega arith in
    let after : 4 + nth - 4 ≡ nth = omega arith in
    if_other _ _ _ _ some ∙ if_other _ _ _ _ more ∙ if_other _ _ _ _ many ∙ if_other _ _ _ _ most
    ∙ ap (CellWord bucket cell) after

module _ (shape : Shape) where
  -- the word at an address is this field
  abbrev pub Finds : ℕ → Field → Type 0
  Finds at f = (at < words_of shape) × (field_at shape at ≡ f)

  -- the regions of the words
  in_vector : (at : ℕ) → at < shape.workers → field_at shape at ≡ Entry (at + 1)
  in_vector at less = if_less _ _ _ _ less

  in_horizon : (at : ℕ) → shape.workers ≤ at → at < tables_at shape
      → field_at shape at ≡ Horizon (at - shape.workers + 1)
  in_horizon at least less = if_not_less _ _ _ _ least ∙ if_less _ _ _ _ less

  pub in_tables : (at : ℕ) → tables_at shape ≤ at → at < cells_at shape
      → field_at shape at ≡ field_in_tables shape.tables (at - tables_at shape)
  in_tables at least less =
      let past : shape.workers ≤ at = omega arith in
      if_not_less _ _ _ _ past ∙ if_not_less _ _ _ _ least ∙ if_less _ _ _ _ less

  in_cells : (at : ℕ) → cells_at shape ≤ at → at < intents_at shape
      → field_at shape at ≡ field_in_cells shape.cells (at - cells_at shape)
  in_cells at least less =
      let past : shape.workers ≤ at = omega arith in
      let over : tables_at shape ≤ at = omega arith in
      if_not_less _ _ _ _ past ∙ if_not_less _ _ _ _ over ∙ if_not_less _ _ _ _ least ∙ if_less _ _ _ _ less

  in_intents : (at : ℕ) → intents_at shape ≤ at
      → field_at shape at ≡ field_in_intents (intent_words shape.form) (at - intents_at shape)
  in_intents at least =
      let past : shape.workers ≤ at = omega arith in
      let over : tables_at shape ≤ at = omega arith in
      let beyond : cells_at shape ≤ at = omega arith in
      if_not_less _ _ _ _ past ∙ if_not_less _ _ _ _ over ∙ if_not_less _ _ _ _ beyond ∙ if_not_less _ _ _ _ least

  entry_found : (worker : ℕ) → IsWorker shape worker → Finds (worker - 1) (Entry worker)
  entry_found worker is =
      let same : worker - 1 + 1 ≡ worker = omega arith in
      (omega arith, in_vector (worker - 1) (omega arith) ∙ ap Entry same)

  horizon_found : (worker : ℕ) → IsWorker shape worker → Finds (shape.workers + (worker - 1)) (Horizon worker)
  horizon_found worker is =
      let same : shape.workers + (worker - 1) - shape.workers + 1 ≡ worker = omega arith in
      (omega arith, in_horizon (shape.workers + (worker - 1)) (omega arith) (omega arith) ∙ ap Horizon same)

  position_found : (at row rest : ℕ) → at ≡ position_at shape row + rest → IsRow shape row
      → rest < position_words (width_at shape.tables row) (ring_at shape.tables row)
      → Finds at (field_in_position (width_at shape.tables row) row rest)
  position_found at row rest there is less =
      let stands = row_stands shape.tables row rest is less in
      let offset = row_at shape.tables row + rest in
      let within : offset < tables_words shape.tables = stands.offset_within in
      let from : at - tables_at shape ≡ offset = omega arith in (
        omega arith,
        in_tables at (omega arith) (omega arith)
            ∙ ap (field_in_tables shape.tables) from
            ∙ ap (λ r. field_in_position (width_at shape.tables r) r (rest_in shape.tables offset)) stands.row_is
            ∙ ap (field_in_position (width_at shape.tables row) row) stands.rest_is,
      )

  slot_found : (at row slot rest : ℕ) → at ≡ slot_at shape row slot + rest → IsSlot shape row slot
      → rest < slot_words (width_at shape.tables row)
      → Finds at (field_in_slot row slot rest)
  slot_found at row slot rest there is less =
      let width = width_at shape.tables row in
      let within : slot * slot_words width + rest < ring_at shape.tables row * slot_words width
      = place_within slot (slot_words width) rest (ring_at shape.tables row) is.1 less in
      let found = position_found at row (3 + width + (slot * slot_words width + rest))
      (omega arith) is.0 (omega arith) in
      (found.0, found.1 ∙ old width row slot rest less)

  cell_found : (at bucket cell rest : ℕ) → at ≡ cell_at shape bucket cell + rest → IsCell shape bucket cell
      → rest < cell_words
      → Finds at (field_in_cell bucket cell rest)
  cell_found at bucket cell rest there is less =
      let cells = shape.cells in
      let nth = bucket * cells + cell in
      let below : nth < shape.buckets * cells = place_within bucket cells cell shape.buckets is.0 is.1 in
      let within : nth * cell_words + rest < shape.buckets * cells * cell_words
      = place_within nth cell_words rest (shape.buckets * cells) below less in
      let from : at - cells_at shape ≡ nth * cell_words + rest = omega arith in (
        omega arith,
        in_cells at (omega arith) (omega arith)
            ∙ ap (field_in_cells cells) from
            ∙ ap (λ n. field_in_cell (n / cells) (n % cells) ((nth * cell_words + rest) % cell_words))
            (div-mul-add nth cell_words rest less)
            ∙ ap (field_in_cell (nth / cells) (nth % cells)) (mod-mul-add nth cell_words rest less)
            ∙ ap (λ b. field_in_cell b (nth % cells) rest) (div-mul-add bucket cells cell is.1)
            ∙ ap (λ c. field_in_cell bucket c rest) (mod-mul-add bucket cells cell is.1),
      )

  intent_found : (worker nth : ℕ) → IsWorker shape worker → nth < intent_words shape.form
      → Finds (intents_at shape + (worker - 1) * intent_words shape.form + nth) (Intent worker nth)
  intent_found worker nth is less =
      let words = intent_words shape.form in
      let before = worker - 1 in
      let at = intents_at shape + before * words + nth in
      let within : before * words + nth < shape.workers * words
      = place_within before words nth shape.workers (omega arith) less in
      let from : at - intents_at shape ≡ before * words + nth = omega arith in
      let same : before + 1 ≡ worker = omega arith in (
        omega arith,
        in_intents at (omega arith)
            ∙ ap (field_in_intents words) from
            ∙ ap (λ b. Intent (b + 1) ((before * words + nth) % words)) (div-mul-add before words nth less)
            ∙ ap (Intent (before + 1)) (mod-mul-add before words nth less)
            ∙ ap (λ w. Intent w nth) same,
      )

  -- a field is found at its address
  pub found_there : (f : Field) → IsField shape f → Finds (address shape f) f
  found_there (Entry worker) is = entry_found worker is
  found_there (Horizon worker) is = horizon_found worker is
  found_there (Key row) is = position_found _ row 0 (omega arith) is (omega arith)
  found_there (Header row) is = position_found _ row 1 refl is (omega arith)
  found_there (Count row) is = position_found _ row 2 refl is (omega arith)
  found_there (Word row nth) is =
      let found = position_found (position_at shape row + 3 + nth) row (3 + nth) (omega arith) is.0 (omega arith) in
      (found.0, found.1 ∙ word (width_at shape.tables row) row nth is.1)
  found_there (SlotHeader row slot) is = slot_found _ row slot 0 (omega arith) is (omega arith)
  found_there (SlotEnd row slot) is = slot_found _ row slot 1 refl is (omega arith)
  found_there (SlotWord row slot nth) is =
      let found = slot_found (slot_at shape row slot + 2 + nth) row slot (2 + nth) (omega arith) is.0 (omega arith) in
      (found.0, found.1 ∙ slot_word row slot nth)
  found_there (Tag bucket cell) is = cell_found _ bucket cell 0 (omega arith) is (omega arith)
  found_there (Owner bucket cell) is = cell_found _ bucket cell 1 refl is (omega arith)
  found_there (Begin bucket cell) is = cell_found _ bucket cell 2 refl is (omega arith)
  found_there (End bucket cell) is = cell_found _ bucket cell 3 refl is (omega arith)
  found_there (CellWord bucket cell nth) is =
      let found = cell_found (cell_at shape bucket cell + 4 + nth) bucket cell (4 + nth)
      (omega arith) is.0 (omega arith) in
      (found.0, found.1 ∙ cell_word bucket cell nth)
  found_there (Intent worker nth) is = intent_found worker nth is.0 is.1

  -- fields with one address are one
  pub are_one : (f g : Field) → IsField shape f → IsField shape g → address shape f ≡ address shape g → f ≡ g
  are_one f g is_f is_g same = sym (found_there f is_f).1 ∙ ap (field_at shape) same ∙ (found_there g is_g).1
