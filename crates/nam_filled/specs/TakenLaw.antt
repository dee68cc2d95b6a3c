-- Who has claimed a cell that a mover finds taken, and how the moves that have claimed a cell are told and counted.
use Rattle.nam_calls.specs.declared.overflow.ClaimPoint.{ClaimPoint}
use Rattle.nam_catalog.specs.declared.shape.Shape.{Shape}
use Rattle.nam_filled.specs.Filled.{FilledOk}
use Rattle.nam_filled.specs.Holders.{Holders, Mover, holders_next}
use Rattle.nam_filled.specs.Taken.{IsCellTaken, IsToldMove, Misses, cell_of}
use Rattle.nam_ghost.specs.Chains.{ChainsOk}
use Rattle.nam_ghost.specs.Ghost.{Ghost}
use Rattle.nam_ghost.specs.Upkeep.{CellsOk}
use Rattle.nam_layout.specs.Place.{bucket_of}
use Rattle.nam_layout.specs.Rows.{row_of}
use Rattle.nam_protocol.specs.declared.client.ClientState.{ClientState}
use Rattle.nam_tells.specs.Logs.{logs_cut}
use Rattle.nam_store.specs.Base.{BaseOk}
use Rattle.nam_store.specs.Everyone.{Everyone}
use Rattle.nam_store.specs.Store.{StepsTo, Store}
use Rattle.nam_tells.specs.Teller.{IsTold, Teller}
use Rattle.si_model.specs.Causes.{move_count}
use Rattle.si_model.specs.Lists.{Listed, concat_of}
use Rattle.std.specs.Prelude.{length, ℕ, ◌≡◌, ◌≤◌}

-- what this group claims of a store, and that the tellers are its clients'
pub record Tells (shape : Shape) (store : Store) (ghost : Ghost) (holders : Holders) (tellers : ℕ → Teller)
    : Type 0 where
  pub filled : FilledOk shape store ghost holders
  pub told : Everyone (λ nth client. IsTold client (tellers nth)) store.clients

abbrev pub TakenLaw : Type 0
TakenLaw = (shape : Shape) (store : Store) (ghost : Ghost) (holders : Holders) (tellers : ℕ → Teller)
    → BaseOk shape store → ChainsOk shape store ghost.chains
    → CellsOk shape store ghost.chains ghost.rings ghost.cells → Tells shape store ghost holders tellers
    → (nth : ℕ) (client : ClientState) (table key position : ℕ) (at : ClaimPoint)
    → Misses shape store nth client table key position at
    → IsCellTaken shape store ghost holders tellers nth (bucket_of shape (row_of shape.tables table position))
    (cell_of at)

-- each move that has claimed a cell is told
abbrev pub MoversLaw : Type 0
MoversLaw = (shape : Shape) (store : Store) (ghost : Ghost) (holders : Holders) (tellers : ℕ → Teller)
    → Tells shape store ghost holders tellers → (bucket cell : ℕ) (mover : Mover)
    → Listed mover (holders bucket cell)
    → (row : ℕ) × (number : ℕ) × IsToldMove shape store ghost holders tellers bucket mover row number

-- one move has claimed one cell
abbrev pub AloneLaw : Type 0
AloneLaw = (shape : Shape) (store : Store) (ghost : Ghost) (holders : Holders) → FilledOk shape store ghost holders
    → (b c d e : ℕ) (mover : Mover) → Listed mover (holders b c) → Listed mover (holders d e) → (b ≡ d) × (c ≡ e)

-- what has claimed a cell has claimed it for good
abbrev pub StaysLaw : Type 0
StaysLaw = (shape : Shape) (before after : Store) (goes : StepsTo shape before after) (holders : Holders)
    (bucket cell : ℕ) (mover : Mover) → Listed mover (holders bucket cell)
    → Listed mover (holders_next shape before after goes holders bucket cell)

-- as many moves into the bucket are told as have claimed one of its cells
abbrev pub CountLaw : Type 0
CountLaw = (shape : Shape) (store : Store) (ghost : Ghost) (holders : Holders) (tellers : ℕ → Teller)
    → Tells shape store ghost holders tellers → (bucket cell : ℕ)
    → length (holders bucket cell) ≤ move_count bucket (concat_of (logs_cut shape tellers store))
