-- Slots of old versions: what each holds, and what one step may make of a position.
use Rattle.nam_calls.specs.Words.{wrapped}
use Rattle.nam_ghost.specs.Versions.{Chain, HasData, IsNth, SlotImage, Version, current_number, old_word, versions}
use Rattle.nam_header.specs.Header.{flag}
use Rattle.nam_header.specs.Stamp.{FitsStamp, mark, stamp_word}
use Rattle.nam_layout.specs.Place.{slot_of}
use Rattle.nam_layout.specs.declared.field.Place.{Place}
use Rattle.nam_store.specs.Everyone.{put}
use Rattle.si_model.specs.declared.log.Stamp.{Stamp}
use Rattle.std.specs.Prelude.{Bool, None, Option, Some, false, true, ℕ, ◌+◌, ◌<◌, ◌≡◌}

-- the version that a slot keeps: its number, the stamp of the next one, and whether it was moved
pub record Kept : Type 0 where
  pub number : ℕ
  pub version : Version
  pub next : Stamp
  pub moved : Bool

-- the ring of a position: what each slot keeps, none where it has the mark; and whether the lock's holder has copied
-- the current version, whole, into its slot
pub record Ring : Type 0 where
  pub kept : ℕ → Option Kept
  pub copied : Bool

-- the slot of the version with this number; a count is a word, so it is the number's remainder
abbrev pub home : Place → ℕ → ℕ
home place number = slot_of place (wrapped number)

-- how many versions of a position were copied: the old ones, and the current one once its holder has
abbrev pub copied_count : Chain → Ring → ℕ
copied_count chain ring = current_number chain + flag ring.copied

-- 1. Slots

-- A slot's words say the version that it keeps, whole: stamp, deleted flag and moved flag, the next version's stamp as
-- end, and its data. The slot is the number's own; and once the next version stands, its stamp is the end, since the
-- commit that copies a version is the one that installs the next.
pub record KeptOk (place : Place) (slot : ℕ) (image : SlotImage) (chain : Chain) (kept : Kept) : Type 0 where
  pub home_is : home place kept.number ≡ slot
  pub version_is : IsNth chain kept.number kept.version
  pub next_is : (next : Version) → IsNth chain (kept.number + 1) next → next.stamp ≡ kept.next
  pub fits : FitsStamp place.form kept.version.stamp
  pub next_fits : FitsStamp place.form kept.next
  pub header_is : image.header ≡ old_word place.form kept.moved kept.version
  pub ending_is : image.ending ≡ stamp_word place.form kept.next
  pub data_is : HasData place.width image.body kept.version.value

-- a slot has the mark, or keeps a version whole
abbrev pub SlotIs : Place → ℕ → SlotImage → Chain → Option Kept → Type 0
SlotIs place slot image chain None = image.header ≡ mark
SlotIs place slot image chain (Some kept) = KeptOk place slot image chain kept

-- the slot keeps the version with this number
abbrev pub Keeps : Option Kept → ℕ → Type 0
Keeps slot number = (kept : Kept) × (slot ≡ Some kept) × (kept.number ≡ number)

-- the mark, or a version that was moved: its header has the moved flag
abbrev pub IsFreeSlot : Option Kept → Type 0
IsFreeSlot None = Unit {0}
IsFreeSlot (Some kept) = kept.moved ≡ true

-- Each slot is so; none keeps a version that wasn't copied; a copy that is made is whole in its slot; it is made before
-- the first data word is written; and only under a lock.
pub record RingOk (place : Place) (images : ℕ → SlotImage) (chain : Chain) (ring : Ring) : Type 0 where
  pub slots : (slot : ℕ) → slot < place.ring → SlotIs place slot (images slot) chain (ring.kept slot)
  pub behind : (slot : ℕ) → slot < place.ring → (kept : Kept) → ring.kept slot ≡ Some kept
      → kept.number < copied_count chain ring
  pub whole : ring.copied ≡ true → Keeps (ring.kept (home place (current_number chain))) (current_number chain)
  pub dirty : chain.dirty ≡ true → ring.copied ≡ true
  pub free : chain.holder ≡ 0 → ring.copied ≡ false

-- 2. A slot, or a ring, after a write

abbrev pub marked : ℕ → Ring → Ring
marked slot ring = record ring { kept = put ring.kept slot None }

abbrev pub copy_of : Chain → Stamp → Kept
copy_of chain next = record { number = current_number chain; version = chain.now; next = next; moved = false }

abbrev pub with_copy : Chain → Stamp → ℕ → Ring → Ring
with_copy chain next slot ring = record { kept = put ring.kept slot (Some (copy_of chain next)); copied = true }

abbrev pub moved_of : Option Kept → Option Kept
moved_of None = None
moved_of (Some kept) = Some (record kept { moved = true })

abbrev pub flagged : ℕ → Ring → Ring
flagged slot ring = record ring { kept = put ring.kept slot (moved_of (ring.kept slot)) }

abbrev pub copy_ended : Ring → Ring
copy_ended ring = record ring { copied = false }

-- 3. What one step may make of a position

-- Nothing but the holder and how far it is; the mark in a free slot that keeps an old version; a whole copy of the
-- current version in its slot, which has the mark; the moved flag at a version that stands elsewhere by now; or a new
-- version, where the one before stands in its slot with the new one's stamp as end. All readers, movers and collectors
-- rely on this alone: versions stay with their numbers, so do the ends of copied ones, and a slot comes to keep a
-- version only from the mark.
pub data RowNext (place : Place) (Flagged : ℕ → Type 0) (New : Version → Type 0)
    : Chain → Ring → Chain → Ring → Type 0 where
  Idles : {chain later : Chain} {ring : Ring} → (old : later.old ≡ chain.old) → (now : later.now ≡ chain.now)
      → (clean : later.dirty ≡ false → chain.dirty ≡ false) → RowNext place Flagged New chain ring later ring
  Marks : {chain : Chain} {ring : Ring} → (slot : ℕ) → (free : IsFreeSlot (ring.kept slot))
      → (before : (kept : Kept) → ring.kept slot ≡ Some kept → kept.number < current_number chain)
      → RowNext place Flagged New chain ring chain (marked slot ring)
  Copies : {chain : Chain} {ring : Ring} → (next : Stamp)
      → (empty : ring.kept (home place (current_number chain)) ≡ None)
      → RowNext place Flagged New chain ring chain (with_copy chain next (home place (current_number chain)) ring)
  Flags : {chain : Chain} {ring : Ring} → (slot : ℕ)
      → (elsewhere : (kept : Kept) → ring.kept slot ≡ Some kept → Flagged kept.number)
      → RowNext place Flagged New chain ring chain (flagged slot ring)
  Renews : {chain later : Chain} {ring : Ring} → (old : later.old ≡ versions chain) → (new : New later.now)
      → (whole : Keeps (ring.kept (home place (current_number chain))) (current_number chain))
      → (ends : (kept : Kept) → ring.kept (home place (current_number chain)) ≡ Some kept
      → kept.next ≡ later.now.stamp)
      → RowNext place Flagged New chain ring later (copy_ended ring)

-- So a slot goes on in one step: it stays; it gets the mark, where its version was moved; from the mark it comes to
-- keep the version that is the next to be copied; or its version gets the moved flag.
pub data SlotNext (copied : ℕ) : Option Kept → Option Kept → Type 0 where
  KeepsOn : {slot : Option Kept} → SlotNext copied slot slot
  GetsMark : {kept : Kept} → (was_moved : kept.moved ≡ true) → SlotNext copied (Some kept) None
  GetsCopy : {kept : Kept} → (number_is : kept.number ≡ copied) → SlotNext copied None (Some kept)
  GetsFlag : {kept : Kept} → SlotNext copied (Some kept) (Some (record kept { moved = true }))
