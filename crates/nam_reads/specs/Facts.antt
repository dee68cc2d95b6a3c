-- What is known of a row to one that reads it with a snapshot that was taken.
use Rattle.std.specs.Prelude.{List, Some, false, length, true, ℕ, ◌<◌, ◌≡◌}
use Rattle.nam_calls.specs.Fits.{HasWidth}
use Rattle.nam_catalog.specs.Fits.{FitsLimits}
use Rattle.nam_catalog.specs.declared.shape.Shape.{Shape}
use Rattle.nam_ghost.specs.Cells.{OldOk}
use Rattle.nam_ghost.specs.Locks.{RecordOk}
use Rattle.nam_ghost.specs.Slots.{Kept, Ring, RingOk}
use Rattle.nam_ghost.specs.Versions.{Chain, IsNth, Version, current_number, record_image, slot_image}
use Rattle.nam_header.specs.Visible.{is_visible}
use Rattle.nam_layout.specs.Address.{IsRow}
use Rattle.nam_layout.specs.Place.{place_at}
use Rattle.nam_layout.specs.Rows.{ring_at, width_at}
use Rattle.nam_layout.specs.declared.field.Field.{Field}

-- Its words are those that the groups of locks, slots and cells say. The snapshot sees a front of its versions, the
-- loader's at least; no stamp comes twice; each value has the row's width. A copy of the current version ends unseen,
-- since its holder publishes the next version's number later.
pub record RowFacts (shape : Shape) (m : Field → ℕ) (row : ℕ) (seen : List ℕ) (chain : Chain) (ring : Ring)
    (Elsewhere : ℕ → Type 0) : Type 0 where
  pub limits : FitsLimits shape
  pub inside : IsRow shape row
  pub long : length seen ≡ shape.workers
  pub record_is : RecordOk shape.form shape.workers (width_at shape.tables row) (record_image m row) chain
  pub ring_is : RingOk (place_at shape row) (slot_image m row) chain ring
  pub old : OldOk (place_at shape row) Elsewhere chain ring
  pub first : (version : Version) → IsNth chain 0 version → is_visible version.stamp seen ≡ true
  pub front : (a b : ℕ) (u v : Version) → a < b → IsNth chain a u → IsNth chain b v
      → is_visible v.stamp seen ≡ true → is_visible u.stamp seen ≡ true
  pub once : (a b : ℕ) (u v : Version) → IsNth chain a u → IsNth chain b v → u.stamp ≡ v.stamp → a ≡ b
  pub wide : (number : ℕ) (version : Version) → IsNth chain number version
      → HasWidth (width_at shape.tables row) version.value
  pub unseen : (slot : ℕ) → slot < ring_at shape.tables row → (kept : Kept) → ring.kept slot ≡ Some kept
      → kept.number ≡ current_number chain → is_visible kept.next seen ≡ false
