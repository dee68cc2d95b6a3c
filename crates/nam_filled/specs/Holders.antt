-- Which moves have ever claimed a cell: a ghost that goes along with a store, as a function of its steps alone.
use Rattle.nam_calls.specs.declared.mover.MovePoint.TheVariants.{MoveClaim}
use Rattle.nam_calls.specs.declared.mover.MovePoint.{MovePoint}
use Rattle.nam_calls.specs.declared.overflow.ClaimPoint.TheVariants.{ClaimTake}
use Rattle.nam_catalog.specs.declared.shape.Shape.{Shape}
use Rattle.nam_layout.specs.Place.{bucket_of}
use Rattle.nam_layout.specs.Rows.{row_of}
use Rattle.nam_protocol.specs.declared.client.CallPoint.TheVariants.{Moving}
use Rattle.nam_protocol.specs.declared.client.CallPoint.{CallPoint}
use Rattle.nam_protocol.specs.declared.client.ClientState.{ClientState}
use Rattle.nam_store.specs.Reached.{GhostStep}
use Rattle.nam_store.specs.Store.{Takes, found_word}
use Rattle.std.specs.Prelude.{List, [], if◌then◌else◌, length, ℕ, ◌&&◌, ◌+◌, ◌++◌, ◌==◌, ◌∷◌}

-- A move in the logs: whose it is, and at which place its event stands in that worker's log, since so many events were
-- listed before it.
pub record Mover : Type 0 where
  pub worker : ℕ
  pub place : ℕ

-- by bucket and cell the moves that have claimed it, oldest first
abbrev pub Holders : Type 0
Holders = ℕ → ℕ → List Mover

abbrev pub no_holders : Holders
no_holders bucket cell = []

abbrev pub add_holder : Holders → ℕ → ℕ → Mover → Holders
add_holder holders bucket cell mover b c =
    if (b == bucket) && (c == cell) then holders b c ++ mover ∷ [] else holders b c

-- the move that the nth client lists next
abbrev pub mover_of : ℕ → ClientState → Mover
mover_of nth client = record { worker = nth + 1; place = length client.log.events }

-- the exchange that claims a cell, where it succeeds
abbrev pub move_holders : Shape → Mover → ℕ → MovePoint → ℕ → Holders → Holders
move_holders shape mover row (MoveClaim slot header ending (ClaimTake cell tag)) found holders =
    if found == tag then add_holder holders (bucket_of shape row) cell mover else holders
move_holders shape mover row _ found holders = holders

abbrev pub call_holders : Shape → Mover → CallPoint → ℕ → Holders → Holders
call_holders shape mover (Moving table key position at) found holders =
    move_holders shape mover (row_of shape.tables table position) at found holders
call_holders shape mover _ found holders = holders

abbrev pub holders_next : (shape : Shape) → GhostStep shape Holders
holders_next shape before _ (Takes nth client place here runs at) holders =
    call_holders shape (mover_of nth client) place (found_word shape before client) holders
holders_next shape before _ _ holders = holders
