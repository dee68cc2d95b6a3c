-- the field at an address is a field, and stands there
use Rattle.std.proofs.Common.{◌≡◌, ℕ, ◌+◌, ◌-◌, ◌*◌, ◌/◌, ◌%◌, ◌<◌, ◌≤◌, ◌∙◌, ap, subst, arith}
use Rattle.std.proofs.lemmas.Nat.{div-add-mod', div_below, mod_below}
use Rattle.nam_catalog.specs.declared.shape.Shape.{Shape}
use Rattle.nam_catalog.specs.Words.{slot_words, position_words, tables_words, cell_words, intent_words, words_of}
use Rattle.nam_layout.specs.declared.field.Field.{Field}
use Rattle.nam_layout.specs.Rows.{width_at, ring_at}
use Rattle.nam_layout.specs.Address.{IsField, IsRow, IsSlot, IsCell, tables_at, cells_at, intents_at, position_at}
use Rattle.nam_layout.specs.Address.{slot_at, cell_at, address}
use Rattle.nam_layout.specs.FieldAt.{row_in, rest_in, field_in_slot, field_in_position, field_in_tables}
use Rattle.nam_layout.specs.FieldAt.{field_in_cell, field_in_cells, field_in_intents, field_at}
use Rattle.nam_layout.proofs.TestLemmas.{by_less, by_equal}
use Rattle.nam_layout.proofs.NumberLemmas.{some_length}
use Rattle.nam_layout.proofs.RowLemmas.{offset_stands}

module _ (shape : Shape) where
  -- a field of the shape, and where it stands
  pub record IsAt (at : ℕ) (f : Field) : Type 0 where
    pub field : IsField shape f
    pub address_is : address shape f ≡ at

  in_slot : (row slot rest : ℕ) → IsSlot shape row slot → rest < slot_words (width_at shape.tables row)
      → IsAt (slot_at shape row slot + rest) (field_in_slot row slot rest)
  in_slot row slot rest is less =
      let P = λ (f : Field). IsAt (slot_at shape row slot + rest) f in
      by_equal P rest 0 _ _ (λ same. record { field = is; address_is = omega arith }) (λ not_header.
      by_equal P rest 1 _ _ (λ same. record { field = is; address_is = omega arith }) (λ not_end.
      record { field = (is, omega arith); address_is = omega arith }))

  in_position : (row rest : ℕ) → IsRow shape row
      → rest < position_words (width_at shape.tables row) (ring_at shape.tables row)
      → IsAt (position_at shape row + rest) (field_in_position (width_at shape.tables row) row rest)
  in_position row rest is less =
      let width = width_at shape.tables row in
      let after = rest - (3 + width) in
      let slot = after / slot_words width in
      let nth = after % slot_words width in
      let P = λ (f : Field). IsAt (position_at shape row + rest) f in
      by_equal P rest 0 _ _ (λ same. record { field = is; address_is = omega arith }) (λ not_key.
      by_equal P rest 1 _ _ (λ same. record { field = is; address_is = omega arith }) (λ not_header.
      by_equal P rest 2 _ _ (λ same. record { field = is; address_is = omega arith }) (λ not_count.
      by_less P rest (3 + width) _ _ (λ word. record { field = (is, omega arith); address_is = omega arith }) (λ old.
      let whole : slot * slot_words width + nth ≡ after = div-add-mod' after (slot_words width) in
      let there : slot_at shape row slot + nth ≡ position_at shape row + rest = omega arith in
      let within : slot < ring_at shape.tables row
      = div_below after (slot_words width) (ring_at shape.tables row) (omega arith) (omega arith) in
      let less : nth < slot_words width = mod_below after (slot_words width) (omega arith) in
      subst (λ at. IsAt at (field_in_slot row slot nth)) there (in_slot row slot nth (is, within) less)))))

  in_tables : (offset : ℕ) → offset < tables_words shape.tables
      → IsAt (tables_at shape + offset) (field_in_tables shape.tables offset)
  in_tables offset within =
      let stands = offset_stands shape.tables offset within in
      let row = row_in shape.tables offset in
      let rest = rest_in shape.tables offset in
      let there : position_at shape row + rest ≡ tables_at shape + offset = let o = stands.offset_is in omega arith in
      subst (λ at. IsAt at (field_in_tables shape.tables offset)) there
      (in_position row rest stands.row_within stands.rest_within)

  in_cell : (bucket cell rest : ℕ) → IsCell shape bucket cell → rest < cell_words
      → IsAt (cell_at shape bucket cell + rest) (field_in_cell bucket cell rest)
  in_cell bucket cell rest is less =
      let P = λ (f : Field). IsAt (cell_at shape bucket cell + rest) f in
      by_equal P rest 0 _ _ (λ same. record { field = is; address_is = omega arith }) (λ not_tag.
      by_equal P rest 1 _ _ (λ same. record { field = is; address_is = omega arith }) (λ not_owner.
      by_equal P rest 2 _ _ (λ same. record { field = is; address_is = omega arith }) (λ not_begin.
      by_equal P rest 3 _ _ (λ same. record { field = is; address_is = omega arith }) (λ not_end.
      record { field = (is, omega arith); address_is = omega arith }))))

  in_cells : (offset : ℕ) → offset < shape.buckets * shape.cells * cell_words
      → IsAt (cells_at shape + offset) (field_in_cells shape.cells offset)
  in_cells offset within =
      let nth = offset / cell_words in
      let rest = offset % cell_words in
      let bucket = nth / shape.cells in
      let cell = nth % shape.cells in
      let below : nth < shape.buckets * shape.cells
      = div_below offset cell_words (shape.buckets * shape.cells) (omega arith) within in
      let some : 1 ≤ shape.cells = some_length nth shape.buckets shape.cells below in
      let is : IsCell shape bucket cell
      = (div_below nth shape.cells shape.buckets some below, mod_below nth shape.cells some) in
      let whole : bucket * shape.cells + cell ≡ nth = div-add-mod' nth shape.cells in
      let there : cell_at shape bucket cell + rest ≡ cells_at shape + offset = omega arith in
      subst (λ at. IsAt at (field_in_cell bucket cell rest)) there
      (in_cell bucket cell rest is (mod_below offset cell_words (omega arith)))

  in_intents : (offset : ℕ) → offset < shape.workers * intent_words shape.form
      → IsAt (intents_at shape + offset) (field_in_intents (intent_words shape.form) offset)
  in_intents offset within =
      let words = intent_words shape.form in
      let some : 1 ≤ words = some_length offset shape.workers words within in
      let before = offset / words in
      let below : before < shape.workers = div_below offset words shape.workers some within in
      let whole : before * words + offset % words ≡ offset = div-add-mod' offset words in
      let same : before + 1 - 1 ≡ before = omega arith in
      record {
        field = ((omega arith, omega arith), mod_below offset words some);
        address_is = ap (λ b. intents_at shape + b * words + offset % words) same ∙ (omega arith);
      }

  -- the field at an address stands there
  pub stands_there : (at : ℕ) → at < words_of shape → IsAt at (field_at shape at)
  stands_there at within =
      by_less (IsAt at) at shape.workers _ _
      (λ less. record { field = (omega arith, omega arith); address_is = omega arith }) (λ least.
      by_less (IsAt at) at (tables_at shape) _ _
      (λ less. record { field = (omega arith, omega arith); address_is = omega arith }) (λ least.
      by_less (IsAt at) at (cells_at shape) _ _ (λ less.
      from (tables_at shape) (field_in_tables shape.tables) least
      (in_tables (at - tables_at shape) (omega arith))) (λ least.
      by_less (IsAt at) at (intents_at shape) _ _ (λ less.
      from (cells_at shape) (field_in_cells shape.cells) least (in_cells (at - cells_at shape) (omega arith))) (λ least.
      from (intents_at shape) (field_in_intents (intent_words shape.form)) least
      (in_intents (at - intents_at shape) (omega arith))))))
    where
      from : (begin : ℕ) (named : ℕ → Field) → begin ≤ at → IsAt (begin + (at - begin)) (named (at - begin))
          → IsAt at (named (at - begin))
      from begin named least is =
          let same : begin + (at - begin) ≡ at = omega arith in subst (λ a. IsAt a (named (at - begin))) same is
