-- Each field of a new store has its blank word.
use Rattle.std.proofs.Common.{◌≡◌, ℕ, zero, suc, ◌+◌, ◌-◌, ◌*◌, ◌<◌, inl, inr, List, [], ◌∷◌, ◌++◌, length, get_or}
use Rattle.std.proofs.Common.{replicate, refl, sym, ◌∙◌, ap, arith, length-append}
use Rattle.std.proofs.lemmas.Bool.{cases_lt}
use Rattle.std.proofs.lemmas.List.{get_or_append_left, get_or-append_right, get_or-append-add, get_or-replicate}
use Rattle.std.proofs.lemmas.List.{length-replicate, append_assoc, replicate-append-replicate}
use Rattle.nam_catalog.specs.declared.shape.Table.{Table}
use Rattle.nam_catalog.specs.declared.shape.Shape.{Shape}
use Rattle.nam_catalog.specs.Words.{slot_words, position_words, table_words, tables_words, cell_words, intent_words}
use Rattle.nam_catalog.specs.Words.{words_of}
use Rattle.nam_layout.specs.declared.field.Field.{Field}
use Rattle.nam_layout.specs.declared.field.Field.TheVariants.{Entry, Horizon, Key, Header, Count, Word, SlotHeader}
use Rattle.nam_layout.specs.declared.field.Field.TheVariants.{SlotEnd, SlotWord, Tag, Owner, Begin, End, CellWord}
use Rattle.nam_layout.specs.declared.field.Field.TheVariants.{Intent}
use Rattle.nam_layout.specs.Rows.{rows_in, width_at, ring_at, row_at}
use Rattle.nam_layout.specs.Address.{IsRow, IsSlot, IsField, tables_at, cells_at, position_at, slot_at, cell_at}
use Rattle.nam_layout.proofs.TestLemmas.{if_less, if_not_less}
use Rattle.nam_layout.proofs.NumberLemmas.{place_within}
use Rattle.nam_layout.proofs.RowLemmas.{row_stands}
use Rattle.nam_calls.specs.Memory.{memory}
use Rattle.nam_protocol.specs.Opening.{copies, blank_slot, blank_position, blank_tables, blank_words, blank_at}
use Rattle.nam_protocol.specs.OpeningLaw.{BlankLaw}

-- 1. Zeros and copies

zeros : (n k : ℕ) → get_or (replicate {A = ℕ} n 0) k 0 ≡ 0
zeros zero k = refl
zeros (suc n) zero = refl
zeros (suc n) (suc k) = zeros n k

one_more : (n size : ℕ) → suc n * size ≡ size + n * size
one_more n size = omega arith

copies_length : (n : ℕ) (xs : List ℕ) (size : ℕ) → length xs ≡ size → length (copies n xs) ≡ n * size
unfolding copies
copies_length zero xs size is = omega arith
copies_length (suc n) xs size is =
    omega (arith, length-append xs (copies n xs), copies_length n xs size is, one_more n size)

copies_at : (n : ℕ) (xs : List ℕ) (size i j : ℕ) → length xs ≡ size → i < n → j < size
    → get_or (copies n xs) (i * size + j) 0 ≡ get_or xs j 0
unfolding copies
copies_at zero xs size i j is less small = absurd (omega arith)
copies_at (suc n) xs size zero j is less small =
    let first : zero * size + j ≡ j = omega arith in
    ap (λ k. get_or (xs ++ copies n xs) k 0) first ∙ get_or_append_left xs (copies n xs) 0 j (omega arith)
copies_at (suc n) xs size (suc i) j is less small =
    let more = one_more i size in
    let before : suc i * size + j - size ≡ i * size + j = omega arith in
    get_or-append_right xs (copies n xs) size (suc i * size + j) 0 is (omega arith)
    ∙ ap (λ k. get_or (copies n xs) k 0) before
    ∙ copies_at n xs size i j is (omega arith) small

-- 2. Positions

slot_length : (width : ℕ) → length (blank_slot width) ≡ slot_words width
slot_length width = omega (arith, length-replicate {A = ℕ} width 0)

position_length : (width ring : ℕ) → length (blank_position width ring) ≡ position_words width ring
position_length width ring =
    omega (
      arith,
      length-append (replicate {A = ℕ} width 0) (copies ring (blank_slot width)),
      length-replicate {A = ℕ} width 0,
      copies_length ring (blank_slot width) (slot_words width) (slot_length width),
    )

-- a data word of a position
word_at : (width ring nth : ℕ) → nth < width → get_or (blank_position width ring) (3 + nth) 0 ≡ 0
word_at width ring nth less =
    let there : 3 + nth ≡ suc (suc (suc nth)) = omega arith in
    let long = length-replicate {A = ℕ} width 0 in
    ap (λ k. get_or (blank_position width ring) k 0) there
    ∙ get_or_append_left (replicate {A = ℕ} width 0) (copies ring (blank_slot width)) 0 nth (omega arith)
    ∙ zeros width nth

-- a word of a slot
slot_word : (width ring slot rest : ℕ) → slot < ring → rest < slot_words width
    → get_or (blank_position width ring) (3 + width + (slot * slot_words width + rest)) 0
    ≡ get_or (blank_slot width) rest 0
slot_word width ring slot rest less small =
    let at = slot * slot_words width + rest in
    let there : 3 + width + at ≡ suc (suc (suc (width + at))) = omega arith in
    ap (λ k. get_or (blank_position width ring) k 0) there
    ∙ ap (λ n. get_or (replicate {A = ℕ} width 0 ++ copies ring (blank_slot width)) (n + at) 0)
    (sym (length-replicate {A = ℕ} width 0))
    ∙ get_or-append-add (replicate {A = ℕ} width 0) (copies ring (blank_slot width)) at 0
    ∙ copies_at ring (blank_slot width) (slot_words width) slot rest (slot_length width) less small

-- 3. Tables

tables_length : (tables : List Table) → length (blank_tables tables) ≡ tables_words tables
tables_length [] = refl
tables_length (t ∷ ts) =
    omega (
      arith,
      length-append (copies t.capacity (blank_position t.width t.ring)) (blank_tables ts),
      copies_length t.capacity (blank_position t.width t.ring) (position_words t.width t.ring)
          (position_length t.width t.ring),
      tables_length ts,
    )

-- a word of a row, by where the row begins, its width and its ring
same_word : (words : List ℕ) (at begins width wide ring slots rest : ℕ) → at ≡ begins → width ≡ wide → ring ≡ slots
    → get_or words (begins + rest) 0 ≡ get_or (blank_position wide slots) rest 0
    → get_or words (at + rest) 0 ≡ get_or (blank_position width ring) rest 0
same_word words at begins width wide ring slots rest a w r is =
    ap (λ n. get_or words (n + rest) 0) a ∙ is ∙ ap (λ n. get_or (blank_position n slots) rest 0) (sym w)
    ∙ ap (λ n. get_or (blank_position width n) rest 0) (sym r)

-- a word of a row is that of a blank position
table_word : (tables : List Table) (row rest : ℕ) → row < rows_in tables
    → rest < position_words (width_at tables row) (ring_at tables row)
    → get_or (blank_tables tables) (row_at tables row + rest) 0
    ≡ get_or (blank_position (width_at tables row) (ring_at tables row)) rest 0
table_word [] row rest is less = absurd (omega arith)
table_word (t ∷ ts) row rest is less =
    let size = position_words t.width t.ring in
    let here = copies t.capacity (blank_position t.width t.ring) in
    let long : length here ≡ table_words t
    = copies_length t.capacity (blank_position t.width t.ring) size (position_length t.width t.ring) in
    let before = row - t.capacity in
    elim (cases_lt row t.capacity) [
      | inl first ↦
          let width = if_less row t.capacity t.width (width_at ts before) first in
          let ring = if_less row t.capacity t.ring (ring_at ts before) first in
          let at = if_less row t.capacity (row * size) (table_words t + row_at ts before) first in
          let small : rest < size = rw (width, ring) at less in
          let within = place_within row size rest t.capacity first small in
          same_word (here ++ blank_tables ts) _ _ _ _ _ _ rest at width ring (
          get_or_append_left here (blank_tables ts) 0 (row * size + rest) (omega arith)
          ∙ copies_at t.capacity (blank_position t.width t.ring) size row rest (position_length t.width t.ring) first
          small)
      | inr past ↦
          let width = if_not_less row t.capacity t.width (width_at ts before) past in
          let ring = if_not_less row t.capacity t.ring (ring_at ts before) past in
          let at = if_not_less row t.capacity (row * size) (table_words t + row_at ts before) past in
          let small : rest < position_words (width_at ts before) (ring_at ts before) = rw (width, ring) at less in
          let after : table_words t + row_at ts before + rest - table_words t ≡ row_at ts before + rest
          = omega arith in
          same_word (here ++ blank_tables ts) _ _ _ _ _ _ rest at width ring (
          get_or-append_right here (blank_tables ts) (table_words t) (table_words t + row_at ts before + rest) 0 long
          (omega arith)
          ∙ ap (λ k. get_or (blank_tables ts) k 0) after
          ∙ table_word ts before rest (omega arith) small)
    ]

-- 4. The words of a shape

module _ (shape : Shape) where
  abbrev entries : List ℕ
  entries = replicate {A = ℕ} (2 * shape.workers) shape.start

  -- how many words follow the tables
  abbrev rest_words : ℕ
  rest_words = shape.buckets * shape.cells * cell_words + shape.workers * intent_words shape.form

  abbrev rest_zeros : List ℕ
  rest_zeros = replicate {A = ℕ} rest_words 0

  parts : blank_words shape ≡ entries ++ (blank_tables shape.tables ++ rest_zeros)
  parts =
      let cells = replicate {A = ℕ} (shape.buckets * shape.cells * cell_words) 0 in
      let intents = replicate {A = ℕ} (shape.workers * intent_words shape.form) 0 in
      append_assoc (entries ++ blank_tables shape.tables) cells intents
      ∙ append_assoc entries (blank_tables shape.tables) (cells ++ intents)
      ∙ ap (λ zs. entries ++ (blank_tables shape.tables ++ zs))
      (replicate-append-replicate {A = ℕ} (shape.buckets * shape.cells * cell_words)
      (shape.workers * intent_words shape.form) 0)

  blank_length : length (blank_words shape) ≡ words_of shape
  blank_length =
      ap length parts ∙ omega (
        arith,
        length-append entries (blank_tables shape.tables ++ rest_zeros),
        length-append (blank_tables shape.tables) rest_zeros,
        length-replicate {A = ℕ} (2 * shape.workers) shape.start,
        tables_length shape.tables,
        length-replicate {A = ℕ} rest_words 0,
      )

  abbrev Is : ℕ → ℕ → Type 0
  Is at word = get_or (blank_words shape) at 0 ≡ word

  in_entries : (at : ℕ) → at < 2 * shape.workers → Is at shape.start
  in_entries at less =
      let long = length-replicate {A = ℕ} (2 * shape.workers) shape.start in
      ap (λ ws. get_or ws at 0) parts
      ∙ get_or_append_left entries (blank_tables shape.tables ++ rest_zeros) 0 at (omega arith)
      ∙ get_or-replicate {A = ℕ} (2 * shape.workers) at shape.start 0 less

  -- behind the entries
  after_entries : (at k : ℕ) → at ≡ tables_at shape + k
      → Is at (get_or (blank_tables shape.tables ++ rest_zeros) k 0)
  after_entries at k there =
      let long = length-replicate {A = ℕ} (2 * shape.workers) shape.start in
      let from : at ≡ length entries + k = omega arith in
      ap (λ ws. get_or ws at 0) parts ∙ ap (λ n. get_or (entries ++ (blank_tables shape.tables ++ rest_zeros)) n 0) from
      ∙ get_or-append-add entries (blank_tables shape.tables ++ rest_zeros) k 0

  in_row : (at row rest : ℕ) → at ≡ position_at shape row + rest → IsRow shape row
      → rest < position_words (width_at shape.tables row) (ring_at shape.tables row)
      → Is at (get_or (blank_position (width_at shape.tables row) (ring_at shape.tables row)) rest 0)
  in_row at row rest there is less =
      let within = (row_stands shape.tables row rest is less).offset_within in
      let long = tables_length shape.tables in
      after_entries at (row_at shape.tables row + rest) (omega arith)
      ∙ get_or_append_left (blank_tables shape.tables) rest_zeros 0 (row_at shape.tables row + rest) (omega arith)
      ∙ table_word shape.tables row rest is less

  in_slot : (at row slot rest : ℕ) → at ≡ slot_at shape row slot + rest → IsSlot shape row slot
      → rest < slot_words (width_at shape.tables row)
      → Is at (get_or (blank_slot (width_at shape.tables row)) rest 0)
  in_slot at row slot rest there is less =
      let width = width_at shape.tables row in
      let within : slot * slot_words width + rest < ring_at shape.tables row * slot_words width
      = place_within slot (slot_words width) rest (ring_at shape.tables row) is.1 less in
      in_row at row (3 + width + (slot * slot_words width + rest)) (omega arith) is.0 (omega arith)
      ∙ slot_word width (ring_at shape.tables row) slot rest is.1 less

  -- behind the tables
  after_tables : (at k : ℕ) → at ≡ cells_at shape + k → Is at 0
  after_tables at k there =
      let long = tables_length shape.tables in
      let from : tables_words shape.tables + k ≡ length (blank_tables shape.tables) + k = omega arith in
      after_entries at (tables_words shape.tables + k) (omega arith)
      ∙ ap (λ n. get_or (blank_tables shape.tables ++ rest_zeros) n 0) from
      ∙ get_or-append-add (blank_tables shape.tables) rest_zeros k 0
      ∙ zeros rest_words k

  in_cell : (at bucket cell rest : ℕ) → at ≡ cell_at shape bucket cell + rest → Is at 0
  in_cell at bucket cell rest there =
      after_tables at (bucket * shape.cells * cell_words + cell * cell_words + rest) (omega arith)

  blank_there : (f : Field) → IsField shape f → memory shape (blank_words shape) f ≡ blank_at shape f
  blank_there (Entry worker) is = in_entries (worker - 1) (omega arith)
  blank_there (Horizon worker) is = in_entries (shape.workers + (worker - 1)) (omega arith)
  blank_there (Key row) is = in_row _ row 0 (omega arith) is (omega arith)
  blank_there (Header row) is = in_row _ row 1 refl is (omega arith)
  blank_there (Count row) is = in_row _ row 2 refl is (omega arith)
  blank_there (Word row nth) is =
      in_row (position_at shape row + 3 + nth) row (3 + nth) (omega arith) is.0 (omega arith)
      ∙ word_at (width_at shape.tables row) (ring_at shape.tables row) nth is.1
  blank_there (SlotHeader row slot) is = in_slot _ row slot 0 (omega arith) is (omega arith)
  blank_there (SlotEnd row slot) is = in_slot _ row slot 1 refl is (omega arith)
  blank_there (SlotWord row slot nth) is =
      let rest : 2 + nth ≡ suc (suc nth) = omega arith in
      in_slot (slot_at shape row slot + 2 + nth) row slot (2 + nth) (omega arith) is.0 (omega arith)
      ∙ ap (λ k. get_or (blank_slot (width_at shape.tables row)) k 0) rest
      ∙ zeros (width_at shape.tables row) nth
  blank_there (Tag bucket cell) is = in_cell _ bucket cell 0 (omega arith)
  blank_there (Owner bucket cell) is = in_cell _ bucket cell 1 refl
  blank_there (Begin bucket cell) is = in_cell _ bucket cell 2 refl
  blank_there (End bucket cell) is = in_cell _ bucket cell 3 refl
  blank_there (CellWord bucket cell nth) is =
      in_cell (cell_at shape bucket cell + 4 + nth) bucket cell (4 + nth) (omega arith)
  blank_there (Intent worker nth) is =
      after_tables _
      (shape.buckets * shape.cells * cell_words + (worker - 1) * intent_words shape.form + nth) (omega arith)

pub blank_law : BlankLaw
blank_law shape = record { whole = blank_length shape; each = blank_there shape }
