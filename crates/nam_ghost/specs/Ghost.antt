-- All that is known of a store beside its words and clients, as a function of its steps alone.
use Rattle.nam_calls.specs.Memory.{memory}
use Rattle.nam_catalog.specs.declared.shape.Shape.{Shape}
use Rattle.nam_ghost.specs.Cells.{CellMap, FreeCell}
use Rattle.nam_ghost.specs.Publications.{Publication}
use Rattle.nam_ghost.specs.Slots.{Ring}
use Rattle.nam_ghost.specs.Steps.{cells_after, chains_after, order_after, published_after, rings_after}
use Rattle.nam_ghost.specs.Versions.{Chain, Version}
use Rattle.nam_header.specs.Stamp.{is_deleted}
use Rattle.nam_layout.specs.Place.{place_at}
use Rattle.nam_layout.specs.declared.field.Field.{Field}
use Rattle.nam_layout.specs.declared.field.Field.TheVariants.{Header, Word}
use Rattle.nam_layout.specs.declared.field.Place.{Place}
use Rattle.nam_protocol.specs.Opening.{opening_words}
use Rattle.nam_protocol.specs.Schedule.{numbers_from}
use Rattle.nam_protocol.specs.declared.client.CallPoint.{CallPoint}
use Rattle.nam_protocol.specs.declared.client.ClientState.{ClientState}
use Rattle.nam_store.specs.Reached.{GhostStep, Reached}
use Rattle.nam_store.specs.Store.{Store, Takes, found_word}
use Rattle.si_model.specs.declared.log.Stamp.{Stamp}
use Rattle.si_model.specs.declared.row.Row.{Row}
use Rattle.std.specs.Prelude.{List, None, Some, [], false, if◌then◌else◌, map, ℕ}

-- By row the version chain and the ring, by bucket and cell what the cell holds, by client what it has published,
-- oldest first; and the stamps of all that was published, in the order of time.
pub record Ghost : Type 0 where
  pub chains : ℕ → Chain
  pub rings : ℕ → Ring
  pub cells : CellMap
  pub published : ℕ → List Publication
  pub order : List Stamp

-- 1. A step

-- after the nth client's verb at a point
abbrev pub ghost_after : Shape → ℕ → ClientState → CallPoint → ℕ → Ghost → Ghost
ghost_after shape nth client place found ghost = record {
  chains = chains_after client.txn place found ghost.chains;
  rings = rings_after shape client.txn place found ghost.chains ghost.rings;
  cells = cells_after shape client.worker place found ghost.chains ghost.cells;
  published = published_after nth client.txn place ghost.published;
  order = order_after client.txn place ghost.order;
}

-- a call that is asked, a transaction that is given up and a client that is stopped change nothing
abbrev pub ghost_step : (shape : Shape) → GhostStep shape Ghost
ghost_step shape before _ (Takes nth client place here runs at) ghost =
    ghost_after shape nth client place (found_word shape before client) ghost
ghost_step shape before _ _ ghost = ghost

-- 2. The opening

-- The loader's version of a row, as the words say it: none where the header has the deleted flag.
abbrev pub loaded_version : Place → (Field → ℕ) → Version
loaded_version place m = record {
  stamp = record { thread = 0; number = 0 };
  value =
      if is_deleted place.form (m (Header place.row)) then None
      else Some (map (λ nth. m (Word place.row nth)) (numbers_from 0 place.width));
  seen = [];
}

abbrev pub loaded_chain : Place → (Field → ℕ) → Chain
loaded_chain place m =
    record { old = []; now = loaded_version place m; holder = 0; dirty = false; counted = false }

-- each row has its loaded version alone; no slot keeps a version, no cell is in use, nothing is published
abbrev pub opening_ghost : Shape → List Row → Ghost
opening_ghost shape rows = record {
  chains = λ row. loaded_chain (place_at shape row) (memory shape (opening_words shape rows));
  rings = λ row. record { kept = λ slot. None; copied = false };
  cells = λ bucket cell. FreeCell;
  published = λ nth. [];
  order = [];
}

-- a store that comes about from an opening, with what is known of it
abbrev pub IsReachedWith : Shape → List Row → Store → Ghost → Type 0
IsReachedWith shape rows store ghost = Reached shape rows (opening_ghost shape rows) (ghost_step shape) store ghost
