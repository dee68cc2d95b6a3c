-- Stores with what is known of them, brought about by their clients in any order: what the examples compute.
use Rattle.nam_calls.specs.Memory.{memory}
use Rattle.nam_catalog.specs.declared.shape.Shape.{Shape}
use Rattle.nam_ghost.specs.Cells.{Cell}
use Rattle.nam_ghost.specs.Ghost.{Ghost, ghost_after, opening_ghost}
use Rattle.nam_ghost.specs.Slots.{Kept}
use Rattle.nam_ghost.specs.Versions.{Chain, Version}
use Rattle.nam_layout.specs.Rows.{width_at}
use Rattle.nam_layout.specs.declared.field.Field.TheVariants.{Begin, CellWord, Count, End, Entry, Header, Horizon}
use Rattle.nam_layout.specs.declared.field.Field.TheVariants.{Owner, SlotEnd, SlotHeader, SlotWord, Tag, Word}
use Rattle.nam_protocol.specs.Schedule.{numbers_from}
use Rattle.nam_protocol.specs.Telling.{new_client}
use Rattle.nam_protocol.specs.declared.client.Answer.{Answer}
use Rattle.nam_protocol.specs.declared.client.Call.{Call}
use Rattle.nam_protocol.specs.declared.client.CallPoint.{CallPoint}
use Rattle.nam_protocol.specs.declared.client.ClientState.{ClientState}
use Rattle.nam_store.specs.Opening.{opening_store}
use Rattle.nam_store.specs.Store.{Store, ask, client_at, cut, found_word, step}
use Rattle.nam_verbs.specs.declared.now.Now.{Now}
use Rattle.nam_verbs.specs.declared.now.Now.TheVariants.{At}
use Rattle.si_model.specs.declared.log.Stamp.{Stamp}
use Rattle.si_model.specs.declared.row.Row.{Row}
use Rattle.std.proofs.Common.{Bool, List, None, Option, Some, [], false, map, slice_index_or, suc, zero, ℕ, ◌+◌, ◌∷◌}

pub record Seen : Type 0 where
  pub store : Store
  pub ghost : Ghost

-- what the nth of so many clients does, one thing after another
pub data Deed : Type 0 where
  Turns : (nth verbs : ℕ) → Deed
  Calls : (nth : ℕ) (asked : Call) → Deed
  Stops : (nth : ℕ) → Deed

module _ (shape : Shape) where
  abbrev pub opened : List Row → Seen
  opened rows = record { store = opening_store shape rows; ghost = opening_ghost shape rows }

  abbrev pub word_taken : Seen → ℕ → ClientState → CallPoint → Seen
  word_taken seen nth client place = record {
    store = step shape seen.store nth client;
    ghost = ghost_after shape nth client place (found_word shape seen.store client) seen.ghost;
  }

  abbrev pub turn_at : Seen → ℕ → ClientState → Bool → Option (Now CallPoint Answer) → Seen
  turn_at seen nth client false (Some (At place)) = word_taken seen nth client place
  turn_at seen nth client cut now = seen

  abbrev pub turn_of : Seen → ℕ → Option ClientState → Seen
  turn_of seen nth None = seen
  turn_of seen nth (Some client) = turn_at seen nth client client.cut client.call

  -- its verb is done, if it has one
  abbrev pub turn : Seen → ℕ → Seen
  turn seen nth = turn_of seen nth (client_at seen.store nth)

  unfoldable pub turns : ℕ → ℕ → Seen → Seen
  turns nth zero seen = seen
  turns nth (suc verbs) seen = turns nth verbs (turn seen nth)

  abbrev pub asked_of : Seen → ℕ → Call → Option ClientState → Seen
  asked_of seen nth call None = seen
  asked_of seen nth call (Some client) = record seen { store = ask shape seen.store nth client call }

  abbrev pub stopped_of : Seen → ℕ → Option ClientState → Seen
  stopped_of seen nth None = seen
  stopped_of seen nth (Some client) = record seen { store = cut seen.store nth client }

  abbrev pub done_by : Seen → Deed → Seen
  done_by seen (Turns nth verbs) = turns nth verbs seen
  done_by seen (Calls nth call) = asked_of seen nth call (client_at seen.store nth)
  done_by seen (Stops nth) = stopped_of seen nth (client_at seen.store nth)

  abbrev pub after_deeds : Seen → List Deed → Seen
  after_deeds seen [] = seen
  after_deeds seen (deed ∷ deeds) = after_deeds (done_by seen deed) deeds

-- What is shown of a row: its chain, its first slots, and whether the current version is copied
pub record RowShown : Type 0 where
  pub chain : Chain
  pub slots : List (Option Kept)
  pub copied : Bool

abbrev pub row_shown : Seen → ℕ → ℕ → RowShown
row_shown seen row slots = record {
  chain = seen.ghost.chains row;
  slots = map (seen.ghost.rings row).kept (numbers_from 0 slots);
  copied = (seen.ghost.rings row).copied;
}

-- a bucket's first cells
abbrev pub cells_shown : Seen → ℕ → ℕ → List Cell
cells_shown seen bucket cells = map (seen.ghost.cells bucket) (numbers_from 0 cells)

-- the words that stand there: header, count and data; header, end and data of a slot; tag, owner, begin, end and data
-- of a cell
abbrev pub record_words : Shape → Seen → ℕ → List ℕ
record_words shape seen row =
    let m = memory shape seen.store.words in
    m (Header row) ∷ m (Count row) ∷ map (λ nth. m (Word row nth)) (numbers_from 0 (width_at shape.tables row))

abbrev pub slot_words : Shape → Seen → ℕ → ℕ → List ℕ
slot_words shape seen row slot =
    let m = memory shape seen.store.words in
    m (SlotHeader row slot) ∷ m (SlotEnd row slot) ∷
    map (λ nth. m (SlotWord row slot nth)) (numbers_from 0 (width_at shape.tables row))

abbrev pub cell_words : Shape → Seen → ℕ → ℕ → ℕ → List ℕ
cell_words shape seen bucket cell width =
    let m = memory shape seen.store.words in
    m (Tag bucket cell) ∷ m (Owner bucket cell) ∷ m (Begin bucket cell) ∷ m (End bucket cell) ∷
    map (λ nth. m (CellWord bucket cell nth)) (numbers_from 0 width)

-- the horizon, and the vector
abbrev pub horizon_words : Shape → Seen → List ℕ
horizon_words shape seen = map (λ a. memory shape seen.store.words (Horizon (a + 1))) (numbers_from 0 shape.workers)

abbrev pub vector_words : Shape → Seen → List ℕ
vector_words shape seen = map (λ a. memory shape seen.store.words (Entry (a + 1))) (numbers_from 0 shape.workers)

-- the nth client, and a new one where there is none
abbrev pub client_of : Seen → ℕ → ClientState
client_of seen nth = slice_index_or seen.store.clients nth (new_client 0 0)

-- short words
abbrev pub stamp : ℕ → ℕ → Stamp
stamp thread number = record { thread = thread; number = number }

abbrev pub version : ℕ → ℕ → Option (List ℕ) → List ℕ → Version
version thread number value seen = record { stamp = stamp thread number; value = value; seen = seen }

abbrev pub chain : List Version → Version → ℕ → Bool → Bool → Chain
chain old now holder dirty counted =
    record { old = old; now = now; holder = holder; dirty = dirty; counted = counted }

abbrev pub row_is : Chain → List (Option Kept) → Bool → RowShown
row_is chain slots copied = record { chain = chain; slots = slots; copied = copied }

abbrev pub kept : ℕ → Version → Stamp → Bool → Option Kept
kept number version next moved =
    Some (record { number = number; version = version; next = next; moved = moved })
