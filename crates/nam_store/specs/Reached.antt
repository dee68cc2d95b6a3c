-- The stores that come about from an opening, whatever their clients do one after another, and ghosts that go along.
use Rattle.std.specs.Prelude.{ℕ, List, [], ◌∷◌, ◌++◌}
use Rattle.si_model.specs.declared.row.Row.{Row}
use Rattle.nam_catalog.specs.declared.shape.Shape.{Shape}
use Rattle.nam_protocol.specs.declared.client.Call.{Call}
use Rattle.nam_store.specs.Everyone.{put}
use Rattle.nam_store.specs.Opening.{opening_store}
use Rattle.nam_store.specs.Store.{Store, StepsTo, Asks}

-- what a step does to a ghost: to values that no client knows of, and that depend on the steps alone
abbrev pub GhostStep : Shape → Type 0 → Type 0
GhostStep shape G = (before after : Store) → StepsTo shape before after → G → G

module _ {G : Type 0} (shape : Shape) (rows : List Row) (first : G) (next : GhostStep shape G) where
  -- a store, and the ghost there
  pub data Reached : Store → G → Type 0 where
    Opened : Reached (opening_store shape rows) first
    Stepped : (before after : Store) (ghost : G) (was : Reached before ghost) (goes : StepsTo shape before after)
        → Reached after (next before after goes ghost)

abbrev pub no_ghost : {shape : Shape} → GhostStep shape (Unit {0})
no_ghost before after goes ghost = tt

-- a store, without a ghost
abbrev pub IsReached : Shape → List Row → Store → Type 0
IsReached shape rows store = Reached {G = Unit {0}} shape rows (tt {0}) no_ghost store (tt {0})

-- the calls that each client was asked, oldest first
abbrev pub calls_after : (shape : Shape) → GhostStep shape (ℕ → List Call)
calls_after shape before _ (Asks nth client asked here may words) calls = put calls nth (calls nth ++ asked ∷ [])
calls_after shape before _ _ calls = calls
