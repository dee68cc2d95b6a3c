-- Who fills the cells: each cell that isn't free is held by the move that claimed it last, until a collection could
-- free it, or its tags are used up.
use Rattle.nam_calls.specs.Fits.{IsTableOf}
use Rattle.nam_calls.specs.Memory.{memory}
use Rattle.nam_calls.specs.Words.{capacity_of}
use Rattle.nam_calls.specs.declared.horizon.CollectPoint.TheVariants.{CollectEnding, CollectFree, CollectTag}
use Rattle.nam_calls.specs.declared.horizon.CollectPoint.TheVariants.{HorizonLook, HorizonRaise}
use Rattle.nam_calls.specs.declared.horizon.CollectPoint.{CollectPoint}
use Rattle.nam_calls.specs.declared.mover.MovePoint.TheVariants.{MoveClaim}
use Rattle.nam_calls.specs.declared.mover.MovePoint.{MovePoint}
use Rattle.nam_calls.specs.declared.overflow.ClaimPoint.TheVariants.{ClaimLook, ClaimTake}
use Rattle.nam_calls.specs.declared.overflow.ClaimPoint.{ClaimPoint}
use Rattle.nam_catalog.specs.declared.shape.Shape.{Shape}
use Rattle.nam_filled.specs.Holders.{Holders, Mover}
use Rattle.nam_filled.specs.Moves.{FillsIn, HasCollected, Move, MovesAt}
use Rattle.nam_ghost.specs.Cells.{Cell, CellMap, ClaimedBy, FreeCell, Stores, end_at}
use Rattle.nam_ghost.specs.Ghost.{Ghost}
use Rattle.nam_ghost.specs.Keys.{Bears}
use Rattle.nam_ghost.specs.Slots.{Ring}
use Rattle.nam_ghost.specs.Versions.{Chain, IsNth, Version}
use Rattle.nam_header.specs.Stamp.{is_within}
use Rattle.nam_header.specs.Tag.{state_of}
use Rattle.nam_layout.specs.Address.{IsCell, IsRow}
use Rattle.nam_layout.specs.Place.{bucket_of}
use Rattle.nam_layout.specs.Rows.{row_of}
use Rattle.nam_layout.specs.declared.field.Field.{Field}
use Rattle.nam_layout.specs.declared.field.Field.TheVariants.{Horizon, Tag}
use Rattle.nam_protocol.specs.declared.client.Answer.{Answer}
use Rattle.nam_protocol.specs.declared.client.CallPoint.TheVariants.{Collecting, Moving}
use Rattle.nam_protocol.specs.declared.client.CallPoint.{CallPoint}
use Rattle.nam_protocol.specs.declared.client.ClientState.{ClientState}
use Rattle.nam_store.specs.Everyone.{Everyone, Someone}
use Rattle.nam_store.specs.Store.{Store}
use Rattle.nam_verbs.specs.declared.now.Now.TheVariants.{At}
use Rattle.nam_verbs.specs.declared.now.Now.{Now}
use Rattle.si_model.specs.Lists.{Listed, last_of}
use Rattle.si_model.specs.declared.log.Event.TheVariants.{Collected}
use Rattle.si_model.specs.declared.log.Stamp.{Stamp}
use Rattle.std.specs.Prelude.{List, Option, Some, false, length, slice_get, slice_index, ℕ, ◌+◌, ◌-◌, ◌/◌, ◌<◌, ◌^◌}
use Rattle.std.specs.Prelude.{◌≡◌, ◌≢◌, ◌≤◌, ◌⊎◌}

-- how many claims a tag counts: its generation, and one more from the claim in this generation on
abbrev pub claims_of : ℕ → ℕ
claims_of tag = (tag + 3) / 4

-- a store with what is known of it beside words and clients, as this group sees it
pub record Scene : Type 0 where
  pub m : Field → ℕ
  pub chains : ℕ → Chain
  pub rings : ℕ → Ring
  pub cells : CellMap
  pub holders : Holders
  pub clients : List ClientState

abbrev pub scene_of : Shape → Store → Ghost → Holders → Scene
scene_of shape store ghost holders = record {
  m = memory shape store.words;
  chains = ghost.chains;
  rings = ghost.rings;
  cells = ghost.cells;
  holders = holders;
  clients = store.clients;
}

module _ (shape : Shape) (scene : Scene) where
  -- 1. A holder's move

  -- The mover's event is a move into the bucket, of the version of this number of the row, at which its key stands. It
  -- stays, since events, versions and key words do.
  pub record HeldOf (bucket : ℕ) (mover : Mover) (row number : ℕ) : Type 0 where
    pub nth : ℕ
    pub worker_is : mover.worker ≡ nth + 1
    pub client : ClientState
    pub here : slice_get scene.clients nth ≡ Some client
    pub move : Move
    pub moves : MovesAt shape client mover.place move
    pub bucket_is : move.bucket ≡ bucket
    pub of_table : IsTableOf shape move.table
    pub position : ℕ
    pub short : position < capacity_of shape move.table
    pub row_is : row_of shape.tables move.table position ≡ row
    pub inside : IsRow shape row
    pub within : bucket_of shape row ≡ bucket
    pub bears : Bears shape scene.m move.table move.key position
    pub version : Version
    pub version_is : IsNth (scene.chains row) number version
    pub stamp_is : version.stamp ≡ move.stamp

  abbrev pub IsHeld : ℕ → Mover → Type 0
  IsHeld bucket mover = (row : ℕ) × (number : ℕ) × HeldOf bucket mover row number

  -- 2. A cell

  -- the move that has claimed the cell last
  abbrev pub IsLast : ℕ → ℕ → Mover → Type 0
  IsLast bucket cell mover = last_of (scene.holders bucket cell) ≡ Some mover

  -- as many moves have claimed the cell as a tag can count
  abbrev pub IsUsedUp : ℕ → ℕ → Type 0
  IsUsedUp bucket cell = 2 ^ 62 - 1 ≤ length (scene.holders bucket cell)

  -- a client other than the nth has collected
  abbrev pub OthersCollected : ℕ → Type 0
  OthersCollected nth = Someone (λ other client. (other ≢ nth) × HasCollected client) scene.clients

  -- the end of a row's version
  abbrev pub end_of_version : ℕ → ℕ → Stamp
  end_of_version row number = end_at shape scene.chains scene.rings row number

  -- No collection of the bucket that the client has done after this place sees the end of the version; where others
  -- have collected too, nothing is said. Why: the horizon is what the client's own collections have made of it, so each
  -- frees all that its snapshot sees the end of.
  abbrev pub Unfreed : ℕ → ClientState → ℕ → ℕ → ℕ → ℕ → Type 0
  Unfreed nth client bucket place row number =
      OthersCollected nth
      ⊎ ((later prefix : ℕ) (entries : List ℕ) → place < later
      → slice_get client.log.events later ≡ Some (Collected bucket prefix entries false)
      → is_within (end_of_version row number) entries ≡ false)

  -- a cell that is written: by the move that has claimed it last, which runs
  pub record FilledBy (bucket cell worker : ℕ) : Type 0 where
    pub mover : Mover
    pub last : IsLast bucket cell mover
    pub worker_is : mover.worker ≡ worker
    pub nth : ℕ
    pub owner : worker ≡ nth + 1
    pub client : ClientState
    pub here : slice_get scene.clients nth ≡ Some client
    pub place_is : mover.place ≡ length client.log.events
    pub fills : FillsIn shape client.call bucket cell

  -- a full cell: its version is that of the move that has claimed it last, and no collection of that client could free
  -- it since
  pub record StoredBy (bucket cell row number : ℕ) : Type 0 where
    pub mover : Mover
    pub last : IsLast bucket cell mover
    pub held : HeldOf bucket mover row number
    pub unfreed : Unfreed held.nth held.client bucket mover.place row number

  abbrev pub CellHeld : ℕ → ℕ → Cell → Type 0
  CellHeld bucket cell FreeCell = Unit {0}
  CellHeld bucket cell (ClaimedBy worker) = FilledBy bucket cell worker
  CellHeld bucket cell (Stores row number) = StoredBy bucket cell row number

  abbrev pub CellOk : ℕ → ℕ → Type 0
  CellOk bucket cell = IsUsedUp bucket cell ⊎ CellHeld bucket cell (scene.cells bucket cell)

  -- 3. A collector, as long as no other client has collected

  -- it knows of the horizon at least its own snapshot's entries
  abbrev pub AreKnown : List ℕ → List ℕ → Type 0
  AreKnown seen known = (a : ℕ) → a < length known → slice_index seen a ≤ slice_index known a

  -- the cell holds no version of the client's own that the snapshot sees the end of
  abbrev pub IsPassed : ℕ → ℕ → List ℕ → ℕ → Cell → Type 0
  IsPassed nth bucket seen cell (Stores row number) =
      (mover : Mover) → IsLast bucket cell mover → mover.worker ≡ nth + 1
      → IsUsedUp bucket cell ⊎ (is_within (end_of_version row number) seen ≡ false)
  IsPassed nth bucket seen cell _ = Unit {0}

  abbrev pub ArePassed : ℕ → ℕ → List ℕ → ℕ → Type 0
  ArePassed nth bucket seen count =
      (cell : ℕ) → cell < count → IsPassed nth bucket seen cell (scene.cells bucket cell)

  -- the cell bears the tag that it found there, a full one
  abbrev pub IsFullAt : ℕ → ℕ → ℕ → Type 0
  IsFullAt bucket cell tag = (scene.m (Tag bucket cell) ≡ tag) × (state_of tag ≡ 2)

  abbrev pub CollectorAt : ℕ → ℕ → List ℕ → CollectPoint → Type 0
  CollectorAt nth bucket seen (HorizonLook known) = AreKnown seen known
  CollectorAt nth bucket seen (HorizonRaise known found) =
      AreKnown seen known × (scene.m (Horizon (length known + 1)) ≡ found)
  CollectorAt nth bucket seen (CollectTag known cell) = AreKnown seen known × ArePassed nth bucket seen cell
  CollectorAt nth bucket seen (CollectEnding known cell tag) =
      AreKnown seen known × ArePassed nth bucket seen cell × IsFullAt bucket cell tag
  CollectorAt nth bucket seen (CollectFree known cell tag) =
      AreKnown seen known × ArePassed nth bucket seen cell × IsFullAt bucket cell tag

  -- 4. A mover that looks for a free cell

  -- another client's move has claimed the cell last
  abbrev pub IsTaken : ℕ → ℕ → ℕ → Type 0
  IsTaken nth bucket cell = (mover : Mover) × IsLast bucket cell mover × (mover.worker ≢ nth + 1)

  -- the cell bears the free tag that it found there, or was claimed by another since
  abbrev pub ClaimerAt : ℕ → ℕ → ClaimPoint → Type 0
  ClaimerAt nth bucket (ClaimLook cell) = Unit {0}
  ClaimerAt nth bucket (ClaimTake cell tag) =
      ((scene.m (Tag bucket cell) ≡ tag) × (state_of tag ≡ 0)) ⊎ IsTaken nth bucket cell

  abbrev pub MoverAt : ℕ → ℕ → MovePoint → Type 0
  MoverAt nth bucket (MoveClaim slot header ending at) = ClaimerAt nth bucket at
  MoverAt nth bucket _ = Unit {0}

  abbrev pub CallOk : ℕ → CallPoint → Type 0
  CallOk nth (Moving table key position at) = MoverAt nth (bucket_of shape (row_of shape.tables table position)) at
  CallOk nth (Collecting bucket prefix seen at) = OthersCollected nth ⊎ CollectorAt nth bucket seen at
  CallOk nth _ = Unit {0}

  abbrev pub NowOk : ℕ → Option (Now CallPoint Answer) → Type 0
  NowOk nth (Some (At place)) = CallOk nth place
  NowOk nth _ = Unit {0}

  -- 5. All of it

  -- Each mover is a move in the logs; it has claimed one cell, once; a tag counts the claims of its cell; each cell is
  -- so; and each client that runs a move or a collection.
  pub record IsFilled : Type 0 where
    pub movers : (bucket cell : ℕ) (mover : Mover) → Listed mover (scene.holders bucket cell) → IsHeld bucket mover
    pub once : (b c i d e j : ℕ) (mover : Mover) → slice_get (scene.holders b c) i ≡ Some mover
        → slice_get (scene.holders d e) j ≡ Some mover → (b ≡ d) × (c ≡ e) × (i ≡ j)
    pub tags : (bucket cell : ℕ) → IsCell shape bucket cell
        → length (scene.holders bucket cell) ≡ claims_of (scene.m (Tag bucket cell))
    pub cells : (bucket cell : ℕ) → IsCell shape bucket cell → CellOk bucket cell
    pub calls : Everyone (λ nth client. NowOk nth client.call) scene.clients

abbrev pub FilledOk : Shape → Store → Ghost → Holders → Type 0
FilledOk shape store ghost holders = IsFilled shape (scene_of shape store ghost holders)
