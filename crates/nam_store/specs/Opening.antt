-- The store at its opening: new clients, and the words with the loaded rows.
use Rattle.std.specs.Prelude.{◌≡◌, ℕ, zero, suc, ◌+◌, ◌≤◌, ◌==◌, false, List, [], ◌∷◌, length, filter}
use Rattle.std.specs.List.{AllByRecursion}
use Rattle.si_model.specs.declared.row.Row.{Row}
use Rattle.si_model.specs.Lists.{Pairwise}
use Rattle.si_model.specs.Rows.{row_key, same_key}
use Rattle.nam_catalog.specs.declared.shape.Shape.{Shape}
use Rattle.nam_calls.specs.Fits.{IsTableOf}
use Rattle.nam_calls.specs.Words.{capacity_of}
use Rattle.nam_protocol.specs.declared.client.ClientState.{ClientState}
use Rattle.nam_protocol.specs.HoldsWords.{RowHolds}
use Rattle.nam_protocol.specs.Opening.{opening_words}
use Rattle.nam_protocol.specs.OpeningLaw.{IsOfTable}
use Rattle.nam_protocol.specs.Telling.{new_client}
use Rattle.nam_store.specs.Store.{Store}

-- Rows that may be loaded: each is of a table and of its width, its words are below 2^64, no two have one key, and no
-- table has more of them than positions.
pub record AreLoaded (shape : Shape) (rows : List Row) : Type 0 where
  pub of_tables : AllByRecursion (IsOfTable shape) rows
  pub words : AllByRecursion RowHolds rows
  pub apart : Pairwise (λ (a b : Row). same_key (row_key a) (row_key b) ≡ false) rows
  pub room : (table : ℕ) → IsTableOf shape table
      → length (filter (λ (row : Row). row.table == table) rows) ≤ capacity_of shape table

-- so many new clients, the first of which is this worker's
abbrev pub new_clients : ℕ → ℕ → ℕ → List ClientState
new_clients start worker zero = []
new_clients start worker (suc n) = new_client worker start ∷ new_clients start (worker + 1) n

abbrev pub opening_store : Shape → List Row → Store
opening_store shape rows =
    record { words = opening_words shape rows; clients = new_clients shape.start 1 shape.workers }
