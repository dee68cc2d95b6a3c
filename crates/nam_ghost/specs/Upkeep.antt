-- Movers and collectors: what a client knows that moves an old version into a cell, or collects a bucket.
use Rattle.std.specs.Prelude.{List, Option, Some, false, length, slice_index, true, ℕ, ◌+◌, ◌<◌, ◌≡◌, ◌≢◌, ◌≤◌, ◌⊎◌}
use Rattle.nam_calls.specs.Memory.{memory}
use Rattle.nam_calls.specs.declared.horizon.CollectPoint.{CollectPoint}
use Rattle.nam_calls.specs.declared.horizon.CollectPoint.TheVariants.{CollectEnding, CollectFree, CollectTag}
use Rattle.nam_calls.specs.declared.horizon.CollectPoint.TheVariants.{HorizonLook, HorizonRaise}
use Rattle.nam_calls.specs.declared.mover.MovePoint.{MovePoint}
use Rattle.nam_calls.specs.declared.mover.MovePoint.TheVariants.{MoveAgain, MoveBack, MoveClaim, MoveCount, MoveEnding}
use Rattle.nam_calls.specs.declared.mover.MovePoint.TheVariants.{MoveFill, MoveFlag, MoveFull, MoveHead, MoveWords}
use Rattle.nam_calls.specs.declared.overflow.ClaimPoint.{ClaimPoint}
use Rattle.nam_calls.specs.declared.overflow.ClaimPoint.TheVariants.{ClaimLook, ClaimTake}
use Rattle.nam_calls.specs.declared.overflow.FillPoint.{FillPoint}
use Rattle.nam_calls.specs.declared.overflow.FillPoint.TheVariants.{FillBegin, FillEnding, FillOwner, FillWord}
use Rattle.nam_catalog.specs.declared.bounds.TheConstants.{MOST_WIDTH}
use Rattle.nam_catalog.specs.declared.shape.Shape.{Shape}
use Rattle.nam_ghost.specs.Cells.{CellMap, CellsAre, ClaimedBy, IsElsewhere, IsEnded, IsHorizonBehind, IsOverflowed}
use Rattle.nam_ghost.specs.Cells.{IsWhole, OldOk, Stores, copied_at, end_at}
use Rattle.nam_ghost.specs.Slots.{Kept, Ring, home}
use Rattle.nam_ghost.specs.Versions.{Chain, HasGot, IsNth, Version, cell_image, old_word}
use Rattle.nam_header.specs.Stamp.{FitsStamp, is_within, stamp_word}
use Rattle.nam_header.specs.Tag.{has_next, state_of}
use Rattle.nam_layout.specs.Address.{IsCell, IsRow}
use Rattle.nam_layout.specs.Place.{bucket_of, place_at}
use Rattle.nam_layout.specs.Rows.{row_of}
use Rattle.nam_layout.specs.declared.field.Field.{Field}
use Rattle.nam_layout.specs.declared.field.Field.TheVariants.{Begin, CellWord, End, Entry, Horizon, Owner, SlotHeader}
use Rattle.nam_layout.specs.declared.field.Field.TheVariants.{Tag}
use Rattle.nam_protocol.specs.declared.client.Answer.{Answer}
use Rattle.nam_protocol.specs.declared.client.CallPoint.{CallPoint}
use Rattle.nam_protocol.specs.declared.client.CallPoint.TheVariants.{Collecting, Moving}
use Rattle.nam_protocol.specs.declared.client.ClientState.{ClientState}
use Rattle.nam_store.specs.Everyone.{Everyone}
use Rattle.nam_store.specs.Store.{Store, client_at}
use Rattle.nam_verbs.specs.declared.now.Now.{Now}
use Rattle.nam_verbs.specs.declared.now.Now.TheVariants.{At}
use Rattle.nam_calls.specs.declared.overflow.Version as filled

-- a client beside its transactions: a mover of the version in a row's slot, a collector of a bucket, or neither
pub data Upkeep : Type 0 where
  NoUpkeep : Upkeep
  Mover : (row : ℕ) (at : MovePoint) → Upkeep
  Collector : (bucket : ℕ) (seen : List ℕ) (at : CollectPoint) → Upkeep

abbrev pub upkeep_at : Shape → CallPoint → Upkeep
upkeep_at shape (Moving table key position at) = Mover (row_of shape.tables table position) at
upkeep_at shape (Collecting bucket prefix seen at) = Collector bucket seen at
upkeep_at shape _ = NoUpkeep

abbrev pub upkeep_in : Shape → Option (Now CallPoint Answer) → Upkeep
upkeep_in shape (Some (At place)) = upkeep_at shape place
upkeep_in shape _ = NoUpkeep

abbrev pub upkeep_of : Shape → ClientState → Upkeep
upkeep_of shape client = upkeep_in shape client.call

module _ (shape : Shape) (chains : ℕ → Chain) (rings : ℕ → Ring) where
  -- 1. A mover, in turn with what it has read

  -- the header that it read of the slot is a copied version's, unmoved
  pub record MoveBegun (row slot header number : ℕ) (version : Version) : Type 0 where
    pub version_is : IsNth (chains row) number version
    pub was_copied : number < copied_at shape chains rings row
    pub home_is : home (place_at shape row) number ≡ slot
    pub fits : FitsStamp shape.form version.stamp
    pub header_is : header ≡ old_word shape.form false version

  module _ (m : Field → ℕ) (cells : CellMap) (nth : ℕ) where
    -- While the slot keeps the version. A claim of this form stays: a version once gone from its slot never comes back.
    abbrev pub While : ℕ → ℕ → ℕ → Type 0 → Type 0
    While row slot number Claim =
        (kept : Kept) → (rings row).kept slot ≡ Some kept → kept.number ≡ number → Claim

    -- the cell is the nth client's: it bears the tag that this client wrote, and no other client writes there
    abbrev pub Owns : ℕ → ℕ → ℕ → Type 0
    Owns bucket cell tag = (m (Tag bucket cell) ≡ tag) × (cells bucket cell ≡ ClaimedBy (nth + 1))

    -- the words that it has written into the cell are those that it read
    abbrev pub HasWritten : ℕ → ℕ → ℕ → filled.Version → FillPoint → Type 0
    HasWritten bucket cell row version FillOwner = Unit {0}
    HasWritten bucket cell row version FillBegin = m (Owner bucket cell) ≡ row
    HasWritten bucket cell row version FillEnding =
        (m (Owner bucket cell) ≡ row) × (m (Begin bucket cell) ≡ version.begin)
    HasWritten bucket cell row version (FillWord word) =
        (m (Owner bucket cell) ≡ row) × (m (Begin bucket cell) ≡ version.begin)
        × (m (End bucket cell) ≡ version.«end»)
        × ((j : ℕ) → j < word → m (CellWord bucket cell j) ≡ slice_index version.value j)

    -- what it read of the version, while the slot keeps it
    abbrev pub EndWas : ℕ → ℕ → ℕ → ℕ → Type 0
    EndWas row slot number ending =
        While row slot number (ending ≡ stamp_word shape.form (end_at shape chains rings row number))

    abbrev pub WordsWere : ℕ → ℕ → ℕ → Version → List ℕ → Type 0
    WordsWere row slot number version got = While row slot number (HasGot got version.value)

    -- the tag that it will exchange is a free one
    abbrev pub ClaimAt : ClaimPoint → Type 0
    ClaimAt (ClaimLook cell) = Unit {0}
    ClaimAt (ClaimTake cell tag) = state_of tag ≡ 0

    -- A version that it copies is in its slot as it reads; once it has found the header there again, after all words,
    -- the cell has the version whole; and once the tag says so, it stands elsewhere, whether or not the flag is set.
    abbrev pub MoverAt : ℕ → ℕ → Version → MovePoint → Type 0
    MoverAt row number version MoveCount = Unit {0}
    MoverAt row number version (MoveHead slot) = Unit {0}
    MoverAt row number version (MoveEnding slot header) = MoveBegun row slot header number version
    MoverAt row number version (MoveClaim slot header ending at) =
        MoveBegun row slot header number version × EndWas row slot number ending × ClaimAt at
    MoverAt row number version (MoveWords slot header ending cell tag got) =
        MoveBegun row slot header number version × EndWas row slot number ending
        × WordsWere row slot number version got × Owns (bucket_of shape row) cell tag
    MoverAt row number version (MoveFill slot header cell tag copy at) =
        MoveBegun row slot header number version × EndWas row slot number copy.«end»
        × WordsWere row slot number version copy.value × Owns (bucket_of shape row) cell tag
        × (copy.begin ≡ header) × HasWritten (bucket_of shape row) cell row copy at
    MoverAt row number version (MoveAgain slot header cell tag) =
        MoveBegun row slot header number version
        × While row slot number (IsWhole shape chains rings row number (cell_image m (bucket_of shape row) cell))
        × Owns (bucket_of shape row) cell tag
    MoverAt row number version (MoveFull slot header cell tag) =
        MoveBegun row slot header number version
        × IsWhole shape chains rings row number (cell_image m (bucket_of shape row) cell)
        × Owns (bucket_of shape row) cell tag
    MoverAt row number version (MoveFlag slot header) =
        MoveBegun row slot header number version × IsOverflowed shape chains rings m cells 0 row number
    MoverAt row number version (MoveBack header cell tag) = Owns (bucket_of shape row) cell tag

    -- 2. A collector

    -- what it knows of the horizon: entries at most the horizon's, whether its exchange was won or lost
    abbrev pub Knows : List ℕ → Type 0
    Knows known = (a : ℕ) → a < length known → slice_index known a ≤ m (Horizon (a + 1))

    -- the snapshot that it collects by is at most the vector
    abbrev pub IsPublished : List ℕ → Type 0
    IsPublished seen = (a : ℕ) → a < shape.workers → slice_index seen a ≤ m (Entry (a + 1))

    -- as long as the cell bears the tag that it found there; tags never fall, so the claim stays
    abbrev pub WhileTagged : ℕ → ℕ → ℕ → Type 0 → Type 0
    WhileTagged bucket cell tag Claim = (tag ≤ m (Tag bucket cell)) × (m (Tag bucket cell) ≡ tag → Claim)

    -- The exchange of a tag frees a cell only of a version whose end is within what the collector knows, so within the
    -- horizon.
    abbrev pub CollectorAt : ℕ → List ℕ → CollectPoint → Type 0
    CollectorAt bucket seen (HorizonLook known) = IsPublished seen × Knows known
    CollectorAt bucket seen (HorizonRaise known found) =
        IsPublished seen × Knows known × (found < slice_index seen (length known))
    CollectorAt bucket seen (CollectTag known cell) = IsPublished seen × Knows known
    CollectorAt bucket seen (CollectEnding known cell tag) =
        IsPublished seen × Knows known
        × WhileTagged bucket cell tag ((row : ℕ) × (number : ℕ) × (cells bucket cell ≡ Stores row number))
    CollectorAt bucket seen (CollectFree known cell tag) =
        IsPublished seen × Knows known × (has_next tag ≡ true)
        × WhileTagged bucket cell tag ((row : ℕ) × (number : ℕ) × (cells bucket cell ≡ Stores row number)
        × (is_within (end_at shape chains rings row number) known ≡ true))

    abbrev pub UpkeepOk : Upkeep → Type 0
    UpkeepOk NoUpkeep = Unit {0}
    UpkeepOk (Mover row at) =
        IsRow shape row × ((number : ℕ) × (version : Version) × MoverAt row number version at)
    UpkeepOk (Collector bucket seen at) = CollectorAt bucket seen at

-- 3. Of a store

module _ (shape : Shape) where
  -- each cell is as it is said; where old versions stand; the horizon is behind the vector; movers and collectors
  pub record CellsOk (store : Store) (chains : ℕ → Chain) (rings : ℕ → Ring) (cells : CellMap) : Type 0 where
    pub are : CellsAre shape chains rings (memory shape store.words) cells
    pub old : (row : ℕ) → IsRow shape row
        → OldOk (place_at shape row) (IsElsewhere shape chains rings (memory shape store.words) cells row)
        (chains row) (rings row)
    pub behind : IsHorizonBehind shape (memory shape store.words)
    pub upkeep : Everyone (λ nth client. UpkeepOk shape chains rings (memory shape store.words) cells nth
        (upkeep_of shape client)) store.clients

  -- the words of a cell but its tag are what they were
  pub record SameCell (m now : Field → ℕ) (bucket cell : ℕ) : Type 0 where
    pub owner : now (Owner bucket cell) ≡ m (Owner bucket cell)
    pub begin : now (Begin bucket cell) ≡ m (Begin bucket cell)
    pub ending : now (End bucket cell) ≡ m (End bucket cell)
    pub body : (word : ℕ) → word < MOST_WIDTH → now (CellWord bucket cell word) ≡ m (CellWord bucket cell word)

  -- What a step of the nth client owes all others, who rely on this alone. Tags never fall; a cell whose tag stays is
  -- what it was; only the client that claimed a cell writes its words; a stored version stays under its tag, or its end
  -- is within the horizon; a cell that another client has claimed stays its own; and no horizon entry falls.
  pub record CellsNext (m now : Field → ℕ) (chains : ℕ → Chain) (rings : ℕ → Ring) (cells later : CellMap)
      (nth : ℕ) : Type 0 where
    pub rises : (bucket cell : ℕ) → IsCell shape bucket cell → m (Tag bucket cell) ≤ now (Tag bucket cell)
    pub same : (bucket cell : ℕ) → IsCell shape bucket cell → now (Tag bucket cell) ≡ m (Tag bucket cell)
        → later bucket cell ≡ cells bucket cell
    pub words : (bucket cell : ℕ) → IsCell shape bucket cell → cells bucket cell ≢ ClaimedBy (nth + 1)
        → SameCell m now bucket cell
    pub stored : (bucket cell row number : ℕ) → IsCell shape bucket cell → cells bucket cell ≡ Stores row number
        → ((later bucket cell ≡ Stores row number) × (now (Tag bucket cell) ≡ m (Tag bucket cell)))
        ⊎ IsEnded shape chains rings now later row number
    pub claimed : (bucket cell other : ℕ) → IsCell shape bucket cell → other ≢ nth
        → cells bucket cell ≡ ClaimedBy (other + 1)
        → (later bucket cell ≡ ClaimedBy (other + 1)) × (now (Tag bucket cell) ≡ m (Tag bucket cell))
    pub horizon : (a : ℕ) → a < shape.workers → m (Horizon (a + 1)) ≤ now (Horizon (a + 1))

-- where a mover's next verb sets the moved flag of a slot, the version there stands elsewhere
abbrev pub FlagsElsewhere : Shape → Store → (ℕ → Chain) → (ℕ → Ring) → CellMap → Type 0
FlagsElsewhere shape store chains rings cells =
    (nth : ℕ) (client : ClientState) → client_at store nth ≡ Some client → (table key position slot header : ℕ)
    → client.call ≡ Some (At (Moving table key position (MoveFlag slot header)))
    → let row = row_of shape.tables table position in memory shape store.words (SlotHeader row slot) ≡ header
    → (kept : Kept) → (rings row).kept slot ≡ Some kept
    → IsElsewhere shape chains rings (memory shape store.words) cells row kept.number
