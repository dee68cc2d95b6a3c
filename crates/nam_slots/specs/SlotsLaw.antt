-- What is claimed of slots holds at the opening, each step keeps it and makes of each row what all others rely on; and
-- what that comes to in words of slots alone.
use Rattle.std.specs.Prelude.{Bool, List, Some, map, true, ℕ, ◌+◌, ◌≡◌, ◌≢◌}
use Rattle.nam_calls.specs.Memory.{memory}
use Rattle.nam_calls.specs.declared.record.InstallPoint.{InstallPoint}
use Rattle.nam_catalog.specs.Fits.{FitsLimits}
use Rattle.nam_catalog.specs.declared.shape.Shape.{Shape}
use Rattle.nam_ghost.specs.Cells.{IsElsewhere}
use Rattle.nam_ghost.specs.Chains.{ChainNext, IsNew}
use Rattle.nam_ghost.specs.Copiers.{SlotsOk}
use Rattle.nam_ghost.specs.Ghost.{Ghost, ghost_step, opening_ghost}
use Rattle.nam_ghost.specs.Holders.{record_row}
use Rattle.nam_ghost.specs.Locks.{LocksOk}
use Rattle.nam_ghost.specs.Moments.{observer_of}
use Rattle.nam_ghost.specs.Slots.{RowNext, home}
use Rattle.nam_ghost.specs.Upkeep.{FlagsElsewhere}
use Rattle.nam_ghost.specs.Versions.{Chain, HasData, IsNth, Version, current_number, old_word}
use Rattle.nam_header.specs.Stamp.{is_moved, mark, stamp_word}
use Rattle.nam_layout.specs.Address.{IsRow, IsSlot}
use Rattle.nam_layout.specs.Place.{place_at}
use Rattle.nam_layout.specs.Rows.{width_at}
use Rattle.nam_layout.specs.declared.field.Field.{Field}
use Rattle.nam_layout.specs.declared.field.Field.TheVariants.{SlotEnd, SlotHeader, SlotWord}
use Rattle.nam_protocol.specs.Commit.{own_stamp}
use Rattle.nam_protocol.specs.declared.client.CallPoint.TheVariants.{InTxn}
use Rattle.nam_protocol.specs.declared.client.ClientState.{ClientState}
use Rattle.nam_protocol.specs.declared.client.Open.{Open}
use Rattle.nam_protocol.specs.declared.txn.CommitPoint.TheVariants.{Installing}
use Rattle.nam_protocol.specs.declared.txn.TxnPoint.TheVariants.{Committing}
use Rattle.nam_store.specs.Base.{BaseOk}
use Rattle.nam_store.specs.Opening.{AreLoaded, opening_store}
use Rattle.nam_store.specs.Store.{StepsTo, Store, client_at}
use Rattle.nam_verbs.specs.declared.now.Now.TheVariants.{At}
use Rattle.si_model.specs.declared.row.Row.{Row}

module _ (shape : Shape) where
  -- what a step takes of the store before it
  pub record RestsOn (before : Store) (ghost : Ghost) : Type 0 where
    pub base : BaseOk shape before
    pub locks : LocksOk shape before ghost.chains
    pub slots : SlotsOk shape before ghost.chains ghost.rings

  -- what is claimed of locks after the step
  abbrev pub LocksAfter : (before after : Store) → StepsTo shape before after → Ghost → Type 0
  LocksAfter before after goes ghost = LocksOk shape after (ghost_step shape before after goes ghost).chains

  -- And what it takes to be one that others rely on: that each chain goes on as it may, so that a new version is new;
  -- and that the moved flag is set only at a version that stands elsewhere.
  pub record GoesOn (before after : Store) (goes : StepsTo shape before after) (ghost : Ghost) : Type 0 where
    pub rests : RestsOn before ghost
    pub locks : LocksAfter before after goes ghost
    pub flags : FlagsElsewhere shape before ghost.chains ghost.rings ghost.cells
    pub grows : (row : ℕ) → IsRow shape row
        → ChainNext (width_at shape.tables row) (map observer_of before.clients) (ghost.chains row)
        ((ghost_step shape before after goes ghost).chains row)

-- 1. The group

abbrev pub OpensLaw : Type 0
OpensLaw = (shape : Shape) → FitsLimits shape → (rows : List Row) → AreLoaded shape rows
    → let ghost = opening_ghost shape rows in SlotsOk shape (opening_store shape rows) ghost.chains ghost.rings

abbrev pub KeepsLaw : Type 0
KeepsLaw = (shape : Shape) (before after : Store) (goes : StepsTo shape before after) (ghost : Ghost)
    → RestsOn shape before ghost → LocksAfter shape before after goes ghost
    → let later = ghost_step shape before after goes ghost in
    SlotsOk shape after later.chains later.rings

abbrev pub NextLaw : Type 0
NextLaw = (shape : Shape) (before after : Store) (goes : StepsTo shape before after) (ghost : Ghost)
    → GoesOn shape before after goes ghost → (row : ℕ) → IsRow shape row
    → let later = ghost_step shape before after goes ghost in
    RowNext (place_at shape row)
    (IsElsewhere shape ghost.chains ghost.rings (memory shape before.words) ghost.cells row)
    (IsNew (width_at shape.tables row) (map observer_of before.clients)) (ghost.chains row) (ghost.rings row)
    (later.chains row) (later.rings row)

-- 2. What that comes to

module _ (shape : Shape) (store : Store) (chains : ℕ → Chain) (row slot number : ℕ) (version : Version) where
  abbrev pub word_at : Field → ℕ
  word_at = memory shape store.words

  -- The slot has this version of the row whole: its stamp and deleted flag, with the moved flag or without; its data;
  -- and once the next version stands, that one's stamp as end. It is the number's own slot.
  pub record HoldsWhole : Type 0 where
    pub moved : Bool
    pub version_is : IsNth (chains row) number version
    pub home_is : home (place_at shape row) number ≡ slot
    pub header_is : word_at (SlotHeader row slot) ≡ old_word shape.form moved version
    pub data_is : HasData (width_at shape.tables row) (λ word. word_at (SlotWord row slot word)) version.value
    pub ending_is : (next : Version) → IsNth (chains row) (number + 1) next
        → word_at (SlotEnd row slot) ≡ stamp_word shape.form next.stamp

-- a slot whose header isn't the mark has one version of its row whole
abbrev pub WholeLaw : Type 0
WholeLaw = (shape : Shape) (store : Store) (ghost : Ghost) → SlotsOk shape store ghost.chains ghost.rings
    → (row slot : ℕ) → IsSlot shape row slot → memory shape store.words (SlotHeader row slot) ≢ mark
    → (number : ℕ) × (version : Version) × HoldsWhole shape store ghost.chains row slot number version

module _ (shape : Shape) (store : Store) (ghost : Ghost) (row : ℕ) where
  -- the row's current version is whole in its slot
  abbrev pub HoldsCurrent : Type 0
  HoldsCurrent = let chain = ghost.chains row in
      HoldsWhole shape store ghost.chains row (home (place_at shape row) (current_number chain)) (current_number chain)
      chain.now

-- Where a commit installs a record's version, from the point at which the first data word is still to be written, the
-- row's current version is whole in its slot, and the commit's stamp is its end.
abbrev pub CopiedLaw : Type 0
CopiedLaw = (shape : Shape) (store : Store) (ghost : Ghost) → RestsOn shape store ghost → (nth : ℕ)
    (client : ClientState) → client_at store nth ≡ Some client → (attempt : Open) → client.txn ≡ Some attempt
    → (p : ℕ) (at : InstallPoint) → client.call ≡ Some (At (InTxn (Committing (Installing p at))))
    → let row = record_row attempt.state p in
    let slot = home (place_at shape row) (current_number (ghost.chains row)) in
    HoldsCurrent shape store ghost row
    × (memory shape store.words (SlotEnd row slot) ≡ stamp_word shape.form (own_stamp attempt.state))

-- So it is wherever a data word of the next version was written, until that one is installed.
abbrev pub DirtyLaw : Type 0
DirtyLaw = (shape : Shape) (store : Store) (ghost : Ghost) → RestsOn shape store ghost → (row : ℕ) → IsRow shape row
    → (ghost.chains row).dirty ≡ true → HoldsCurrent shape store ghost row

-- a slot has the mark after a step only where its header had the moved flag before, as the mark has too
abbrev pub MarkedLaw : Type 0
MarkedLaw = (shape : Shape) (before after : Store) (goes : StepsTo shape before after) (ghost : Ghost)
    → RestsOn shape before ghost → LocksAfter shape before after goes ghost → (row slot : ℕ) → IsSlot shape row slot
    → memory shape after.words (SlotHeader row slot) ≡ mark
    → is_moved shape.form (memory shape before.words (SlotHeader row slot)) ≡ true
