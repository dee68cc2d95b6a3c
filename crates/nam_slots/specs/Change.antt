-- What one verb makes of a row's slots and of what is known of them, by the kind of word that it writes; and what that
-- leaves to each other client that holds the row.
use Rattle.std.specs.Prelude.{None, Some, false, true, ℕ, ◌+◌, ◌<◌, ◌≡◌, ◌≢◌, ◌⊎◌}
use Rattle.nam_catalog.specs.declared.shape.Shape.{Shape}
use Rattle.nam_ghost.specs.Copiers.{IsCopy}
use Rattle.nam_ghost.specs.Slots.{IsFreeSlot, Kept, KeptOk, Ring, copy_ended, copy_of, flagged, home, marked, moved_of}
use Rattle.nam_ghost.specs.Slots.{with_copy}
use Rattle.nam_ghost.specs.Versions.{Chain, SlotImage, current_number, slot_image, versions}
use Rattle.nam_header.specs.Stamp.{mark, with_moved}
use Rattle.nam_layout.specs.Address.{IsRow}
use Rattle.nam_layout.specs.Place.{place_at}
use Rattle.nam_layout.specs.declared.field.Field.{Field}
use Rattle.nam_layout.specs.declared.field.Place.{Place}
use Rattle.si_model.specs.declared.log.Stamp.{Stamp}

module _ (width : ℕ) (image later : SlotImage) where
  -- the words of a slot are what they were
  pub record SameSlot : Type 0 where
    pub header : later.header ≡ image.header
    pub ending : later.ending ≡ image.ending
    pub body : (nth : ℕ) → nth < width → later.body nth ≡ image.body nth

-- no other client than the nth holds the row
abbrev pub IsAlone : ℕ → Chain → Type 0
IsAlone nth chain = (other : ℕ) → chain.holder ≡ other + 1 → other ≡ nth

module _ (place : Place) (images now : ℕ → SlotImage) where
  -- so are those of each slot, or of each but one
  abbrev pub SameSlots : Type 0
  SameSlots = (slot : ℕ) → slot < place.ring → SameSlot place.width (images slot) (now slot)

  abbrev pub BesideSlot : ℕ → Type 0
  BesideSlot slot =
      (other : ℕ) → other < place.ring → other ≢ slot → SameSlot place.width (images other) (now other)

  -- A verb of the nth client, which leaves the row alone; or moves its lock, or writes a word of its current version;
  -- or marks a slot that it has found free; or writes a word behind the mark; or ends a whole copy of the current
  -- version by its header; or sets the moved flag; or installs the next version.
  pub data RowChange (nth : ℕ) (Flagged : ℕ → Type 0) : Chain → Ring → Chain → Ring → Type 0 where
    Stays : {chain : Chain} {ring : Ring} → (same : SameSlots) → RowChange nth Flagged chain ring chain ring
    Turns : {chain later : Chain} {ring : Ring} → (same : SameSlots) → (alone : IsAlone nth chain)
        → (old : later.old ≡ chain.old) → (now_is : later.now ≡ chain.now)
        → (dirty : later.dirty ≡ true → ring.copied ≡ true) → (free : later.holder ≡ 0 → ring.copied ≡ false)
        → (clean : later.dirty ≡ false → chain.dirty ≡ false) → RowChange nth Flagged chain ring later ring
    MarksSlot : {chain : Chain} {ring : Ring} → (slot : ℕ) → (short : slot < place.ring) → (beside : BesideSlot slot)
        → (alone : IsAlone nth chain) → (header : (now slot).header ≡ mark) → (free : IsFreeSlot (ring.kept slot))
        → (uncopied : ring.copied ≡ false) → RowChange nth Flagged chain ring chain (marked slot ring)
    FillsSlot : {chain : Chain} {ring : Ring} → (slot : ℕ) → (short : slot < place.ring) → (beside : BesideSlot slot)
        → (alone : IsAlone nth chain) → (header : (now slot).header ≡ (images slot).header)
        → (empty : ring.kept slot ≡ None) → RowChange nth Flagged chain ring chain ring
    CopiesNow : {chain : Chain} {ring : Ring} → (next : Stamp)
        → (beside : BesideSlot (home place (current_number chain))) → (alone : IsAlone nth chain)
        → (whole : let slot = home place (current_number chain) in
        KeptOk place slot (now slot) chain (copy_of chain next))
        → (empty : ring.kept (home place (current_number chain)) ≡ None) → (uncopied : ring.copied ≡ false)
        → (held : chain.holder ≢ 0)
        → RowChange nth Flagged chain ring chain (with_copy chain next (home place (current_number chain)) ring)
    FlagsSlot : {chain : Chain} {ring : Ring} → (slot : ℕ) → (short : slot < place.ring) → (beside : BesideSlot slot)
        → (header : (now slot).header ≡ with_moved place.form (images slot).header)
        → (ending : (now slot).ending ≡ (images slot).ending)
        → (body : (word : ℕ) → word < place.width → (now slot).body word ≡ (images slot).body word)
        → (elsewhere : (kept : Kept) → ring.kept slot ≡ Some kept → Flagged kept.number)
        → RowChange nth Flagged chain ring chain (flagged slot ring)
    Installs : {chain later : Chain} {ring : Ring} → (same : SameSlots) → (alone : IsAlone nth chain)
        → (old : later.old ≡ versions chain) → (clean : later.dirty ≡ false) → (copied : ring.copied ≡ true)
        → (copy : IsCopy (current_number chain) chain.now later.now.stamp
        (ring.kept (home place (current_number chain))))
        → RowChange nth Flagged chain ring later (copy_ended ring)

  -- the chain of a row that another client holds is what it was, no slot has changed but by the moved flag, and whether
  -- the current version is copied stands
  pub record RowSpared (chain : Chain) (ring : Ring) (later : Chain) (next : Ring) : Type 0 where
    pub chain_is : later ≡ chain
    pub copied : next.copied ≡ ring.copied
    pub kept : (slot : ℕ) → (next.kept slot ≡ ring.kept slot) ⊎ (next.kept slot ≡ moved_of (ring.kept slot))
    pub ending : (slot : ℕ) → slot < place.ring → (now slot).ending ≡ (images slot).ending
    pub body : (slot word : ℕ) → slot < place.ring → word < place.width
        → (now slot).body word ≡ (images slot).body word

-- 2. All rows, by their words before and after the verb of the nth client

module _ (shape : Shape) (m now : Field → ℕ) (nth : ℕ) (chains : ℕ → Chain) (rings : ℕ → Ring) where
  abbrev pub RowGoes : (ℕ → ℕ → Type 0) → (ℕ → Chain) → (ℕ → Ring) → ℕ → Type 0
  RowGoes Flagged later next row =
      RowChange (place_at shape row) (slot_image m row) (slot_image now row) nth (Flagged row) (chains row) (rings row)
      (later row) (next row)

  abbrev pub RowsChange : (ℕ → ℕ → Type 0) → (ℕ → Chain) → (ℕ → Ring) → Type 0
  RowsChange Flagged later next = (row : ℕ) → IsRow shape row → RowGoes Flagged later next row
