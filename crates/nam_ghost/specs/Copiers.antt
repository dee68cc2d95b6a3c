-- A client as one that copies current versions into slots, before it writes new ones.
use Rattle.nam_calls.specs.Memory.{memory}
use Rattle.nam_calls.specs.declared.ring.CopyPoint.{CopyPoint}
use Rattle.nam_calls.specs.declared.ring.CopyPoint.TheVariants.{CopyEnding, CopyHead, CopyMark, CopyWord}
use Rattle.nam_catalog.specs.declared.shape.Shape.{Shape}
use Rattle.nam_ghost.specs.Holders.{Holder, Holds, holder_at, no_holder}
use Rattle.nam_ghost.specs.Slots.{IsFreeSlot, Kept, Ring, RingOk, home}
use Rattle.nam_ghost.specs.Versions.{Chain, HasData, HasGot, SlotImage, Version, current_number, slot_image}
use Rattle.nam_header.specs.Stamp.{stamp_word}
use Rattle.nam_layout.specs.Address.{IsRow}
use Rattle.nam_layout.specs.Place.{place_at}
use Rattle.nam_layout.specs.declared.field.Field.{Field}
use Rattle.nam_layout.specs.declared.field.Place.{Place}
use Rattle.nam_protocol.specs.Commit.{record_place}
use Rattle.nam_protocol.specs.declared.client.Answer.{Answer}
use Rattle.nam_protocol.specs.declared.client.CallPoint.{CallPoint}
use Rattle.nam_protocol.specs.declared.client.CallPoint.TheVariants.{InTxn}
use Rattle.nam_protocol.specs.declared.client.ClientState.{ClientState}
use Rattle.nam_protocol.specs.declared.client.Open.{Open}
use Rattle.nam_protocol.specs.declared.txn.CommitPoint.{CommitPoint}
use Rattle.nam_protocol.specs.declared.txn.CommitPoint.TheVariants.{Checking, Copying, Counting, Deciding, Installing}
use Rattle.nam_protocol.specs.declared.txn.CommitPoint.TheVariants.{Saving}
use Rattle.nam_protocol.specs.declared.txn.TxnAnswer.{TxnAnswer}
use Rattle.nam_protocol.specs.declared.txn.TxnPoint.{TxnPoint}
use Rattle.nam_protocol.specs.declared.txn.TxnPoint.TheVariants.{Committing}
use Rattle.nam_protocol.specs.declared.txn.TxnState.{TxnState}
use Rattle.nam_store.specs.Everyone.{Everyone}
use Rattle.nam_store.specs.Store.{Store}
use Rattle.nam_verbs.specs.declared.now.Now.{Now}
use Rattle.nam_verbs.specs.declared.now.Now.TheVariants.{At}
use Rattle.si_model.specs.declared.log.Stamp.{Stamp}
use Rattle.std.specs.Prelude.{Bool, List, None, Option, Some, false, length, slice_index, true, ℕ, ◌&&◌, ◌<◌, ◌==◌}
use Rattle.std.specs.Prelude.{◌≡◌, ◌≤◌}

-- how far a commit has copied the current version of the record that it works on
pub data CopyState : Type 0 where
  Aside : CopyState
  Saves : (got : List ℕ) → CopyState
  MarkNext : (old : List ℕ) → CopyState
  EndNext : (old : List ℕ) → CopyState
  Fills : (old : List ℕ) (words : ℕ) → CopyState
  Copied : CopyState

-- the holder; how many of its records' slots it has found free; how far the copy is
pub record Copier : Type 0 where
  pub holder : Holder
  pub checked : ℕ
  pub copying : CopyState

abbrev pub has_copied : CopyState → Bool
has_copied Copied = true
has_copied _ = false

-- the slot has no mark of this copy yet
abbrev pub is_before : CopyState → Bool
is_before Aside = true
is_before (Saves got) = true
is_before (MarkNext old) = true
is_before _ = false

-- 1. A commit at its point

abbrev pub copying_in : ℕ → List ℕ → CopyPoint → CopyState
copying_in width old CopyMark = MarkNext old
copying_in width old CopyEnding = EndNext old
copying_in width old (CopyWord nth) = Fills old nth
copying_in width old CopyHead = Fills old width

abbrev pub copying_at : TxnState → CommitPoint → CopyState
copying_at state (Saving nth got) = Saves got
copying_at state (Copying nth old at) = copying_in (record_place state nth).width old at
copying_at state (Installing nth at) = Copied
copying_at state _ = Aside

-- the numbers that it has found are those of the slots that it has found free
abbrev pub checked_at : TxnState → CommitPoint → ℕ
checked_at state (Checking at) = length state.counts
checked_at state (Counting nth) = length state.counts
checked_at state Deciding = length state.counts
checked_at state (Saving nth got) = length state.counts
checked_at state (Copying nth old at) = length state.counts
checked_at state (Installing nth at) = length state.counts
checked_at state _ = 0

abbrev pub copier_at : TxnState → CommitPoint → Copier
copier_at state at =
    record { holder = holder_at state at; checked = checked_at state at; copying = copying_at state at }

abbrev pub no_copier : ℕ → Copier
no_copier worker = record { holder = no_holder worker; checked = 0; copying = Aside }

abbrev pub copier_in : ℕ → Option (Now CallPoint Answer) → Option Open → Copier
copier_in worker (Some (At (InTxn (Committing at)))) (Some attempt) = copier_at attempt.state at
copier_in worker _ _ = no_copier worker

abbrev pub copier_of : ClientState → Copier
copier_of client = copier_in client.worker client.call client.txn

-- after a word of the commit
abbrev pub copier_now : ℕ → TxnState → Now TxnPoint TxnAnswer → Copier
copier_now worker state (At (Committing at)) = copier_at state at
copier_now worker state _ = no_copier worker

-- 2. What holds

-- The slot of the current version, as the copier knows it: the data words that it has got are the version's; from the
-- mark on the slot has the mark, and what was written behind it is the end and the version's first words; after the
-- header it keeps the version whole, with the copier's stamp as end (a mover may have flagged it by then).
pub record IsCopy (number : ℕ) (now : Version) (next : Stamp) (slot : Option Kept) : Type 0 where
  pub kept : Kept
  pub is : slot ≡ Some kept
  pub number_is : kept.number ≡ number
  pub version_is : kept.version ≡ now
  pub next_is : kept.next ≡ next

module _ (place : Place) (chain : Chain) (next : Stamp) (image : SlotImage) (slot : Option Kept) where
  abbrev pub CopyOk : CopyState → Type 0
  CopyOk Aside = Unit {0}
  CopyOk (Saves got) = HasGot got chain.now.value
  CopyOk (MarkNext old) = HasData place.width (slice_index old) chain.now.value
  CopyOk (EndNext old) = HasData place.width (slice_index old) chain.now.value × (slot ≡ None)
  CopyOk (Fills old words) =
      HasData place.width (slice_index old) chain.now.value × (slot ≡ None) × (words ≤ place.width)
      × (image.ending ≡ stamp_word place.form next)
      × ((nth : ℕ) → nth < words → image.body nth ≡ slice_index old nth)
  CopyOk Copied = IsCopy (current_number chain) chain.now next slot

module _ (shape : Shape) where
  abbrev pub RowRing : (Field → ℕ) → ℕ → Chain → Ring → Type 0
  RowRing m row chain ring = RingOk (place_at shape row) (slot_image m row) chain ring

  -- the slot of the row's current version
  abbrev pub current_slot : (ℕ → Chain) → ℕ → ℕ
  current_slot chains row = home (place_at shape row) (current_number (chains row))

  -- Of the records that it holds only the one that it works on is copied, if any. A slot that it has found free is so
  -- until it writes the mark: only a lock's holder fills or marks the slot, and a moved flag stays.
  pub record CopierOk (m : Field → ℕ) (chains : ℕ → Chain) (rings : ℕ → Ring) (copier : Copier) : Type 0 where
    pub flag_is : (p : ℕ) → Holds copier.holder p
        → (rings (copier.holder.row p)).copied ≡ (has_copied copier.copying && (p == copier.holder.from))
    pub free : (p : ℕ) → Holds copier.holder p → p < copier.checked
        → (p ≡ copier.holder.from → is_before copier.copying ≡ true)
        → let row = copier.holder.row p in IsFreeSlot ((rings row).kept (current_slot chains row))
    pub copies : Holds copier.holder copier.holder.from
        → let row = copier.holder.row copier.holder.from in
        let slot = current_slot chains row in
        CopyOk (place_at shape row) (chains row) copier.holder.stamp (slot_image m row slot) ((rings row).kept slot)
        copier.copying

  pub record SlotsOk (store : Store) (chains : ℕ → Chain) (rings : ℕ → Ring) : Type 0 where
    pub rows : (row : ℕ) → IsRow shape row → RowRing (memory shape store.words) row (chains row) (rings row)
    pub copiers :
        Everyone (λ nth client. CopierOk (memory shape store.words) chains rings (copier_of client)) store.clients
