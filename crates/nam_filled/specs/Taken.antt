-- What it comes to where a mover finds a cell taken, in words of what clients would tell, were they cut now.
use Rattle.nam_calls.specs.Fits.{IsTableOf}
use Rattle.nam_calls.specs.Memory.{memory}
use Rattle.nam_calls.specs.Words.{capacity_of}
use Rattle.nam_calls.specs.declared.mover.MovePoint.TheVariants.{MoveClaim}
use Rattle.nam_calls.specs.declared.overflow.ClaimPoint.TheVariants.{ClaimLook, ClaimTake}
use Rattle.nam_calls.specs.declared.overflow.ClaimPoint.{ClaimPoint}
use Rattle.nam_catalog.specs.declared.shape.Shape.{Shape}
use Rattle.nam_filled.specs.Holders.{Holders, Mover}
use Rattle.nam_ghost.specs.Ghost.{Ghost}
use Rattle.nam_ghost.specs.Keys.{Bears}
use Rattle.nam_ghost.specs.Versions.{IsNth, Version}
use Rattle.nam_header.specs.Tag.{is_free}
use Rattle.nam_header.specs.Visible.{is_visible}
use Rattle.nam_layout.specs.Address.{IsRow}
use Rattle.nam_layout.specs.Place.{bucket_of}
use Rattle.nam_layout.specs.Rows.{row_of}
use Rattle.nam_protocol.specs.CutClient.{client_cut}
use Rattle.nam_protocol.specs.declared.client.CallPoint.TheVariants.{Moving}
use Rattle.nam_protocol.specs.declared.client.ClientState.{ClientState}
use Rattle.nam_store.specs.Everyone.{Someone}
use Rattle.nam_store.specs.Store.{Store, client_at, found_word}
use Rattle.nam_tells.specs.Teller.{Teller}
use Rattle.nam_tells.specs.TellsLaw.{tells_now}
use Rattle.nam_verbs.specs.declared.now.Now.TheVariants.{At}
use Rattle.si_model.specs.Causes.{has_collected}
use Rattle.si_model.specs.Lists.{Listed, StandsAt}
use Rattle.si_model.specs.Tells.{Tell}
use Rattle.si_model.specs.declared.log.Event.TheVariants.{Collected, Moved}
use Rattle.si_model.specs.declared.log.MoveEnd.{MoveEnd}
use Rattle.si_model.specs.declared.log.Stamp.{Stamp}
use Rattle.std.specs.List.{list_any}
use Rattle.std.specs.Prelude.{List, Some, drop, false, length, true, ℕ, ◌+◌, ◌-◌, ◌<◌, ◌^◌, ◌∷◌, ◌≡◌, ◌≢◌, ◌≤◌, ◌⊎◌}

-- 1. A mover's search finds the cell taken: it isn't free as it looks, or is another one as it is exchanged

abbrev pub cell_of : ClaimPoint → ℕ
cell_of (ClaimLook cell) = cell
cell_of (ClaimTake cell tag) = cell

abbrev pub IsMissed : ClaimPoint → ℕ → Type 0
IsMissed (ClaimLook cell) found = is_free found ≡ false
IsMissed (ClaimTake cell tag) found = found ≢ tag

-- by the word that the client's move takes next
pub record Misses (shape : Shape) (store : Store) (nth : ℕ) (client : ClientState) (table key position : ℕ)
    (at : ClaimPoint) : Type 0 where
  pub here : client_at store nth ≡ Some client
  pub slot : ℕ
  pub header : ℕ
  pub ending : ℕ
  pub runs : client.call ≡ Some (At (Moving table key position (MoveClaim slot header ending at)))
  pub missed : IsMissed at (found_word shape store client)

-- 2. What is told

module _ (shape : Shape) (store : Store) (ghost : Ghost) (holders : Holders) (tellers : ℕ → Teller) where
  -- all that the nth client's log would tell, were it cut now
  abbrev pub told_by : ℕ → ClientState → List Tell
  told_by nth client = tells_now shape (tellers nth) (client_cut client)

  -- the mover's event is told at its place: a move into the bucket, of the version of this number of the row at which
  -- its key stands
  pub record IsToldMove (bucket : ℕ) (mover : Mover) (row number : ℕ) : Type 0 where
    pub nth : ℕ
    pub worker_is : mover.worker ≡ nth + 1
    pub client : ClientState
    pub here : client_at store nth ≡ Some client
    pub tell : Tell
    pub stands : StandsAt mover.place tell (told_by nth client)
    pub table : ℕ
    pub key : ℕ
    pub stamp : Stamp
    pub how : MoveEnd
    pub event_is : tell.event ≡ Moved bucket table key stamp how
    pub of_table : IsTableOf shape table
    pub position : ℕ
    pub short : position < capacity_of shape table
    pub row_is : row_of shape.tables table position ≡ row
    pub inside : IsRow shape row
    pub within : bucket_of shape row ≡ bucket
    pub bears : Bears shape (memory shape store.words) table key position
    pub version : Version
    pub version_is : IsNth (ghost.chains row) number version
    pub stamp_is : version.stamp ≡ stamp

  -- a client other than the nth tells a collection that has a snapshot
  abbrev pub OthersCollect : ℕ → Type 0
  OthersCollect nth =
      Someone (λ other client. (other ≢ nth) × (list_any (λ t. has_collected t.event) (told_by other client) ≡ true))
      store.clients

  -- the version behind this one isn't in the snapshot, if there is one
  abbrev pub IsNextHidden : ℕ → ℕ → List ℕ → Type 0
  IsNextHidden row number entries = (next : Version) → IsNth (ghost.chains row) (number + 1) next
      → is_visible next.stamp entries ≡ false

  -- The cell has been claimed last by another worker's move; or by the client's own, which it has told, and where no
  -- other collects, none of its own collections of the bucket since could free the cell; or its tags are used up.
  pub data IsCellTaken (nth bucket cell : ℕ) : Type 0 where
    ByOther : (mover : Mover) (row number : ℕ) → (held : Listed mover (holders bucket cell))
        → (other : mover.worker ≢ nth + 1) → (told : IsToldMove bucket mover row number)
        → IsCellTaken nth bucket cell
    ByOwn : (mover : Mover) (row number : ℕ) → (held : Listed mover (holders bucket cell))
        → (own : mover.worker ≡ nth + 1) → (told : IsToldMove bucket mover row number) → (rest : List Tell)
        → (ended : drop mover.place (tellers nth).front ≡ told.tell ∷ rest)
        → (unfreed : OthersCollect nth
        ⊎ ((t : Tell) (prefix : ℕ) (entries : List ℕ) → Listed t rest
        → t.event ≡ Collected bucket prefix entries false → IsNextHidden row number entries))
        → IsCellTaken nth bucket cell
    UsedUp : (used : 2 ^ 62 - 1 ≤ length (holders bucket cell)) → IsCellTaken nth bucket cell
