-- Which words of current versions a written word leaves as they were.
use Rattle.std.proofs.Common.{None, Option, Some, ap, refl, subst, sym, ℕ, ⊎_elim, ◌∙◌, ◌≡◌, ◌≢◌}
use Rattle.std.proofs.lemmas.Bool.{cases_eq}
use Rattle.std.proofs.lemmas.Option.{none-some, same_Some}
use Rattle.nam_catalog.specs.declared.shape.Shape.{Shape}
use Rattle.nam_layout.specs.Address.{IsField, IsRow}
use Rattle.nam_layout.specs.declared.field.Field.{Field}
use Rattle.nam_layout.specs.declared.field.Field.TheVariants.{Begin, CellWord, Count, End, Header, Horizon, Key, Owner}
use Rattle.nam_layout.specs.declared.field.Field.TheVariants.{SlotHeader, Tag, Word}
use Rattle.nam_locks.specs.Rows.{OtherRows, SameRow, SameRows, current_row, written_row}
use Rattle.nam_store.specs.Changed.{Changed, OthersStay}
use Rattle.nam_store.specs.Kinds.{IsCollectField, IsKeyField, IsMoveField}

pub same_rows : (shape : Shape) (m : Field → ℕ) → SameRows shape m m
same_rows shape m row is = record { header = refl; count = refl; word = λ nth less. refl }

module _ (shape : Shape) (m now : Field → ℕ) where
  -- a row's words stay where each of them does
  pub row_same : (row : ℕ) → IsRow shape row
      → ((field : Field) → current_row field ≡ Some row → IsField shape field → now field ≡ m field)
      → SameRow shape m now row
  row_same row is stays = record {
    header = stays (Header row) refl is;
    count = stays (Count row) refl is;
    word = λ nth less. stays (Word row nth) refl (is, less);
  }

  module _ (field : Field) (word : ℕ) (changed : Changed shape m now field word) where
    -- a word of one row was written
    pub written_apart : (row : ℕ) → current_row field ≡ Some row → OtherRows shape m now row
    written_apart row at other is apart =
        row_same other is (λ f here of_shape. changed.others f of_shape
        (λ same. apart (same_Some other row (sym here ∙ ap current_row same ∙ at))))

  -- no word of a current version was written
  pub written_nowhere : (written : Option Field) → OthersStay shape m now written → written_row written ≡ None
      → SameRows shape m now
  written_nowhere written stays none row is =
      row_same row is (λ field here of_shape. stays field of_shape
      (λ same. none-some row (sym none ∙ ap written_row same ∙ here)))

-- a header was written that was the same before
pub written_same : (shape : Shape) (m now : Field → ℕ) (row : ℕ) → Changed shape m now (Header row) (m (Header row))
    → SameRows shape m now
written_same shape m now row changed other is = record {
  header =
      ⊎_elim (λ (e : other ≡ row). subst (λ x. now (Header x) ≡ m (Header x)) (sym e) changed.here)
      (λ (apart : other ≢ row).
      changed.others (Header other) is (λ e. apart (same_Some other row (ap current_row e)))) (cases_eq other row);
  count = changed.others (Count other) is (λ e. cc);
  word = λ nth less. changed.others (Word other nth) (is, less) (λ e. cc);
}

-- what keys, moves and collections may write is no word of a current version
pub not_key : (field : Field) (row : ℕ) → current_row field ≡ Some row → IsKeyField field → ⊥
not_key (Key at) row e is = none-some row e
not_key _ row e is = is

pub not_moves : (field : Field) (row : ℕ) → current_row field ≡ Some row → IsMoveField field → ⊥
not_moves (SlotHeader at slot) row e is = none-some row e
not_moves (Tag bucket cell) row e is = none-some row e
not_moves (Owner bucket cell) row e is = none-some row e
not_moves (Begin bucket cell) row e is = none-some row e
not_moves (End bucket cell) row e is = none-some row e
not_moves (CellWord bucket cell nth) row e is = none-some row e
not_moves _ row e is = is

pub not_collects : (field : Field) (row : ℕ) → current_row field ≡ Some row → IsCollectField field → ⊥
not_collects (Horizon worker) row e is = none-some row e
not_collects (Tag bucket cell) row e is = none-some row e
not_collects _ row e is = is
