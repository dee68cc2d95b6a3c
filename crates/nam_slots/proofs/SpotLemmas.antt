-- Which words of slots a verb leaves as they were, and that a step changes one row at the most.
use Rattle.std.proofs.Common.{None, Option, Some, ap, refl, subst, sym, ℕ, ⊎_elim, ◌∙◌, ◌≡◌, ◌≢◌}
use Rattle.std.proofs.lemmas.Bool.{cases_eq}
use Rattle.std.proofs.lemmas.Option.{none-some, same_Some}
use Rattle.nam_catalog.specs.declared.shape.Shape.{Shape}
use Rattle.nam_ghost.specs.Slots.{Ring}
use Rattle.nam_ghost.specs.Versions.{Chain, slot_image}
use Rattle.nam_layout.specs.Address.{IsField, IsRow, IsSlot}
use Rattle.nam_layout.specs.Place.{place_at}
use Rattle.nam_layout.specs.Rows.{width_at}
use Rattle.nam_layout.specs.declared.field.Field.{Field}
use Rattle.nam_layout.specs.declared.field.Field.TheVariants.{SlotEnd, SlotHeader, SlotWord}
use Rattle.nam_slots.specs.Change.{BesideSlot, RowChange, RowGoes, RowsChange, SameSlot, Stays}
use Rattle.nam_slots.specs.Spots.{AllSame, RowSame, slot_spot, written_spot}
use Rattle.nam_store.proofs.Lists.{put_beside, put_here}
use Rattle.nam_store.specs.Changed.{Changed, OthersStay}
use Rattle.nam_store.specs.Everyone.{put}

module _ (shape : Shape) (m now : Field → ℕ) where
  -- a slot's words stay where each of them does
  slot_stays : (row slot : ℕ) → IsSlot shape row slot
      → ((field : Field) → IsField shape field → slot_spot field ≡ Some (row, slot) → now field ≡ m field)
      → SameSlot (width_at shape.tables row) (slot_image m row slot) (slot_image now row slot)
  slot_stays row slot is stays = record {
    header = stays (SlotHeader row slot) is refl;
    ending = stays (SlotEnd row slot) is refl;
    body = λ nth less. stays (SlotWord row slot nth) (is, less) refl;
  }

  -- no word of a slot may be written
  pub slots_unwritten : ((field : Field) (row slot : ℕ) → IsField shape field → slot_spot field ≡ Some (row, slot)
      → now field ≡ m field) → AllSame shape m now
  slots_unwritten stays row is slot less =
      slot_stays row slot (is, less) (λ field of_shape at. stays field row slot of_shape at)

  -- none was
  pub slots_nowhere : (written : Option Field) → OthersStay shape m now written → written_spot written ≡ None
      → AllSame shape m now
  slots_nowhere written stays none = slots_unwritten
      (λ field row slot of_shape at. stays field of_shape
      (λ same. none-some (row, slot) (sym none ∙ ap written_spot same ∙ at)))

  module _ (field : Field) (word row slot : ℕ) (changed : Changed shape m now field word)
      (at : slot_spot field ≡ Some (row, slot)) where
    -- one of this slot was
    beside : (other u : ℕ) → IsSlot shape other u → ((other ≡ row) → (u ≡ slot) → ⊥)
        → SameSlot (width_at shape.tables other) (slot_image m other u) (slot_image now other u)
    beside other u is apart =
        slot_stays other u is (λ f of_shape here. changed.others f of_shape
        (λ same. let e = same_Some (other, u) (row, slot) (sym here ∙ ap slot_spot same ∙ at) in
        apart (ap (λ (x : ℕ × ℕ). x.0) e) (ap (λ (x : ℕ × ℕ). x.1) e)))

    pub slots_beside : IsRow shape row
        → BesideSlot (place_at shape row) (slot_image m row) (slot_image now row) slot
    slots_beside is other less apart = beside row other (is, less) (λ e same. apart same)

    pub rows_beside : (other : ℕ) → IsRow shape other → other ≢ row → RowSame shape m now other
    rows_beside other is apart u less = beside other u (is, less) (λ e same. apart e)

-- a step that changes one row at the most
module _ (shape : Shape) (m now : Field → ℕ) (nth : ℕ) (chains : ℕ → Chain) (rings : ℕ → Ring)
    (Flagged : ℕ → ℕ → Type 0) where
  abbrev Goes : (ℕ → Chain) → (ℕ → Ring) → ℕ → Type 0
  Goes later next row = RowGoes shape m now nth chains rings Flagged later next row

  pub none_changes : AllSame shape m now → RowsChange shape m now nth chains rings Flagged chains rings
  none_changes same row is = Stays (same row is)

  pub one_changes : (row : ℕ) (chain : Chain) (ring : Ring)
      → ((other : ℕ) → IsRow shape other → other ≢ row → RowSame shape m now other)
      → (IsRow shape row → RowChange (place_at shape row) (slot_image m row) (slot_image now row) nth (Flagged row)
      (chains row) (rings row) chain ring)
      → (later : ℕ → Chain) (next : ℕ → Ring) → later row ≡ chain → next row ≡ ring
      → ((other : ℕ) → other ≢ row → (later other ≡ chains other) × (next other ≡ rings other))
      → RowsChange shape m now nth chains rings Flagged later next
  one_changes row chain ring same here later next chain_is ring_is others other is =
      ⊎_elim
      (λ (e : other ≡ row). subst (λ r. IsRow shape r → Goes later next r) (sym e)
      (λ inside. subst (λ (c : Chain). Change row c (next row)) (sym chain_is)
      (subst (λ (x : Ring). Change row chain x) (sym ring_is) (here inside))) is)
      (λ (apart : other ≢ row). let e = others other apart in
      subst (λ (c : Chain). Change other c (next other)) (sym e.0)
      (subst (λ (x : Ring). Change other (chains other) x) (sym e.1) (Stays (same other is apart))))
      (cases_eq other row)
    where
      Change : ℕ → Chain → Ring → Type 0
      Change r c x =
          RowChange (place_at shape r) (slot_image m r) (slot_image now r) nth (Flagged r) (chains r) (rings r) c x

  -- only the chain does, or only the ring
  pub chain_changes : (row : ℕ) (chain : Chain) → AllSame shape m now
      → (IsRow shape row → RowChange (place_at shape row) (slot_image m row) (slot_image now row) nth (Flagged row)
      (chains row) (rings row) chain (rings row))
      → RowsChange shape m now nth chains rings Flagged (put chains row chain) rings
  chain_changes row chain same here =
      one_changes row chain (rings row) (λ other is apart. same other is) here (put chains row chain) rings
      (put_here chains row chain) refl (λ other apart. (put_beside chains row chain other apart, refl))

  pub ring_changes : (row : ℕ) (ring : Ring)
      → ((other : ℕ) → IsRow shape other → other ≢ row → RowSame shape m now other)
      → (IsRow shape row → RowChange (place_at shape row) (slot_image m row) (slot_image now row) nth (Flagged row)
      (chains row) (rings row) (chains row) ring)
      → RowsChange shape m now nth chains rings Flagged chains (put rings row ring)
  ring_changes row ring same here =
      one_changes row (chains row) ring same here chains (put rings row ring) refl (put_here rings row ring)
      (λ other apart. (refl, put_beside rings row ring other apart))
