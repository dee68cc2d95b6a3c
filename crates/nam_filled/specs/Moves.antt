-- Moves and collections in a client's log, were the log taken now.
use Rattle.nam_calls.specs.Mover.{move_claimed}
use Rattle.nam_calls.specs.declared.mover.MovePoint.TheVariants.{MoveAgain, MoveBack, MoveFill, MoveFull, MoveWords}
use Rattle.nam_calls.specs.declared.mover.MovePoint.{MovePoint}
use Rattle.nam_catalog.specs.declared.shape.Shape.{Shape}
use Rattle.nam_layout.specs.Place.{bucket_of, place_of}
use Rattle.nam_layout.specs.Rows.{row_of}
use Rattle.nam_protocol.specs.declared.client.Answer.{Answer}
use Rattle.nam_protocol.specs.declared.client.CallPoint.TheVariants.{Collecting, Moving}
use Rattle.nam_protocol.specs.declared.client.CallPoint.{CallPoint}
use Rattle.nam_protocol.specs.declared.client.ClientState.{ClientState}
use Rattle.nam_verbs.specs.declared.now.Now.TheVariants.{At}
use Rattle.nam_verbs.specs.declared.now.Now.{Now}
use Rattle.si_model.specs.Causes.{has_collected}
use Rattle.si_model.specs.Lists.{Listed}
use Rattle.si_model.specs.declared.log.Event.TheVariants.{Moved}
use Rattle.si_model.specs.declared.log.Event.{Event}
use Rattle.si_model.specs.declared.log.MoveEnd.TheVariants.{Cut}
use Rattle.si_model.specs.declared.log.Stamp.{Stamp}
use Rattle.std.specs.Prelude.{List, None, Option, Some, [], false, slice_get, true, ℕ, ◌++◌, ◌∷◌, ◌≡◌, ◌⊎◌}

-- what an event tells of a move, however it ends
pub record Move : Type 0 where
  pub bucket : ℕ
  pub table : ℕ
  pub key : ℕ
  pub stamp : Stamp

abbrev pub move_in : Event → Option Move
move_in (Moved bucket table key stamp how) =
    Some record { bucket = bucket; table = table; key = key; stamp = stamp }
move_in event = None

-- a move is one from the claim of its cell on
abbrev pub cut_move : ℕ → ℕ → ℕ → Option Stamp → List Event
cut_move bucket table key None = []
cut_move bucket table key (Some stamp) = Moved bucket table key stamp Cut ∷ []

-- the cell that it has claimed, until its tag is written
abbrev pub claimed_cell : MovePoint → Option ℕ
claimed_cell (MoveWords slot header ending cell tag got) = Some cell
claimed_cell (MoveFill slot header cell tag version at) = Some cell
claimed_cell (MoveAgain slot header cell tag) = Some cell
claimed_cell (MoveFull slot header cell tag) = Some cell
claimed_cell (MoveBack header cell tag) = Some cell
claimed_cell at = None

module _ (shape : Shape) where
  -- the move that runs, as it is told where it is cut
  abbrev pub running_move : Option (Now CallPoint Answer) → List Event
  running_move (Some (At (Moving table key position at))) =
      let place = place_of shape table position in
      cut_move (bucket_of shape place.row) table key (move_claimed place at)
  running_move _ = []

  abbrev pub events_now : ClientState → List Event
  events_now client = client.log.events ++ running_move client.call

  -- the event at this place is this move
  abbrev pub MovesAt : ClientState → ℕ → Move → Type 0
  MovesAt client place move =
      (event : Event) × (slice_get (events_now client) place ≡ Some event) × (move_in event ≡ Some move)

  -- a move runs that has claimed the cell
  abbrev pub FillsIn : Option (Now CallPoint Answer) → ℕ → ℕ → Type 0
  FillsIn (Some (At (Moving table key position at))) bucket cell =
      (bucket ≡ bucket_of shape (row_of shape.tables table position)) × (claimed_cell at ≡ Some cell)
  FillsIn _ bucket cell = ⊥

abbrev pub IsCollecting : Option (Now CallPoint Answer) → Type 0
IsCollecting (Some (At (Collecting bucket prefix seen at))) = Unit {0}
IsCollecting _ = ⊥

-- a collection that has a snapshot was listed, or runs
abbrev pub HasCollected : ClientState → Type 0
HasCollected client =
    ((event : Event) × Listed event client.log.events × (has_collected event ≡ true)) ⊎ IsCollecting client.call

-- the log lists nothing more, or one event that is no collection
pub data Lists (before after : List Event) : Type 0 where
  NoEvent : (same : after ≡ before) → Lists before after
  OneEvent : (event : Event) → (plain : has_collected event ≡ false) → (listed : after ≡ before ++ event ∷ [])
      → Lists before after
