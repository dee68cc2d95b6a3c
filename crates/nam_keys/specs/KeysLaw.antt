-- What is claimed of keys holds of each store that comes about, and what it comes to.
use Rattle.std.specs.Prelude.{List, Some, ℕ, ◌<◌, ◌≡◌, ◌≢◌}
use Rattle.nam_calls.specs.Fits.{IsTableOf}
use Rattle.nam_calls.specs.Index.{claim_key_after, find_after}
use Rattle.nam_calls.specs.Memory.{memory}
use Rattle.nam_calls.specs.Words.{capacity_of, key_word, path_of}
use Rattle.nam_calls.specs.declared.index.ClaimKeyPoint.{ClaimKeyPoint}
use Rattle.nam_catalog.specs.Fits.{FitsLimits}
use Rattle.nam_catalog.specs.declared.shape.Shape.{Shape}
use Rattle.nam_ghost.specs.Ghost.{Ghost, IsReachedWith, ghost_step, opening_ghost}
use Rattle.nam_ghost.specs.Keys.{HasFound, IsPast, KeysNext, KeysOk, LooksFor, key_view}
use Rattle.nam_layout.specs.Address.{IsRow}
use Rattle.nam_layout.specs.Rows.{row_of}
use Rattle.nam_layout.specs.declared.field.Field.TheVariants.{Key}
use Rattle.nam_protocol.specs.Operations.{op_path}
use Rattle.nam_protocol.specs.declared.client.CallPoint.TheVariants.{InTxn, Scanning}
use Rattle.nam_protocol.specs.declared.client.ClientState.{ClientState}
use Rattle.nam_protocol.specs.declared.client.Open.{Open}
use Rattle.nam_protocol.specs.declared.client.Scanned.{Scanned}
use Rattle.nam_protocol.specs.declared.scan.ScanPoint.{ScanPoint}
use Rattle.nam_protocol.specs.declared.txn.Record.{Record}
use Rattle.nam_protocol.specs.declared.txn.TxnPoint.TheVariants.{Claiming}
use Rattle.nam_store.specs.Base.{BaseOk}
use Rattle.nam_store.specs.Opening.{AreLoaded, opening_store}
use Rattle.nam_store.specs.Reached.{IsReached}
use Rattle.nam_store.specs.Store.{StepsTo, Store, client_at, found_word}
use Rattle.nam_store.specs.Turns.{StepsOn}
use Rattle.nam_verbs.specs.declared.now.Now.TheVariants.{At, Over}
use Rattle.si_model.specs.Evaluation.{op_key}
use Rattle.si_model.specs.Lists.{Listed}
use Rattle.si_model.specs.declared.op.Op.{Op}
use Rattle.si_model.specs.declared.row.Row.{Row}
use Rattle.nam_calls.specs.declared.index.ClaimKeyEnd.TheVariants as claimed_key
use Rattle.nam_calls.specs.declared.index.FindEnd.TheVariants as found_key

-- 1. The claims

abbrev pub OpensLaw : Type 0
OpensLaw = (shape : Shape) → FitsLimits shape → (rows : List Row) → AreLoaded shape rows
    → KeysOk shape (opening_store shape rows) (opening_ghost shape rows).chains

abbrev pub KeepsLaw : Type 0
KeepsLaw = (shape : Shape) (before after : Store) (goes : StepsTo shape before after) (ghost : Ghost)
    → BaseOk shape before → KeysOk shape before ghost.chains
    → KeysOk shape after (ghost_step shape before after goes ghost).chains

-- no step changes a key word that stands, whatever else the words say
abbrev pub NextLaw : Type 0
NextLaw = (shape : Shape) (before after : Store) → StepsTo shape before after → BaseOk shape before
    → KeysNext shape (memory shape before.words) (memory shape after.words)

abbrev pub ReachedLaw : Type 0
ReachedLaw = (shape : Shape) → FitsLimits shape → (rows : List Row) → AreLoaded shape rows → (store : Store)
    → (ghost : Ghost) → IsReachedWith shape rows store ghost → KeysOk shape store ghost.chains

-- 2. In words of key words and clients alone

-- the key word of a row, and of a table's position
abbrev pub key_of_row : Shape → Store → ℕ → ℕ
key_of_row shape store row = memory shape store.words (Key row)

abbrev pub key_of : Shape → Store → ℕ → ℕ → ℕ
key_of shape store table position = key_of_row shape store (row_of shape.tables table position)

-- a key has at most one position
abbrev pub OnceLaw : Type 0
OnceLaw = (shape : Shape) → FitsLimits shape → (rows : List Row) → AreLoaded shape rows → (store : Store)
    → IsReached shape rows store → (table key one other : ℕ) → IsTableOf shape table
    → one < capacity_of shape table → other < capacity_of shape table
    → key_of shape store table one ≡ key_word key → key_of shape store table other ≡ key_word key → one ≡ other

-- the client has found this row for the key
pub data HasRow (shape : Shape) (client : ClientState) (key row : ℕ) : Type 0 where
  -- its operation or its scan reads there, or its move is of that row
  InCall : (table position : ℕ) → key_view client.call ≡ HasFound table key position
      → row_of shape.tables table position ≡ row → HasRow shape client key row
  -- its open transaction has claimed it
  InClaims : (attempt : Open) (claim : Record) → client.txn ≡ Some attempt → Listed claim attempt.state.claims
      → claim.key.key ≡ key → claim.place.row ≡ row → HasRow shape client key row
  -- its scan has found it on its way
  InScan : (table low high : ℕ) (at : ScanPoint) (found : Scanned)
      → client.call ≡ Some (At (Scanning table low high at)) → Listed found client.scanned → found.key ≡ key
      → row_of shape.tables table found.position ≡ row → HasRow shape client key row

-- then the row bears that key for good
abbrev pub FoundLaw : Type 0
FoundLaw = (shape : Shape) → FitsLimits shape → (rows : List Row) → AreLoaded shape rows → (store : Store)
    → IsReached shape rows store → (nth : ℕ) (client : ClientState) → client_at store nth ≡ Some client
    → (key row : ℕ) → HasRow shape client key row
    → IsRow shape row × ((after : Store) → StepsOn shape store after → key_of_row shape after row ≡ key_word key)

-- what a search has passed bears other keys for good
abbrev pub PassedLaw : Type 0
PassedLaw = (shape : Shape) → FitsLimits shape → (rows : List Row) → AreLoaded shape rows → (store : Store)
    → IsReached shape rows store → (nth : ℕ) (client : ClientState) → client_at store nth ≡ Some client
    → (table key passed : ℕ) → key_view client.call ≡ LooksFor table key passed → (after : Store)
    → StepsOn shape store after → IsPast shape (memory shape after.words) table key passed

-- where the word that a search is to find ends it without a position, none bears the key
abbrev pub AbsentLaw : Type 0
AbsentLaw = (shape : Shape) → FitsLimits shape → (rows : List Row) → AreLoaded shape rows → (store : Store)
    → IsReached shape rows store → (nth : ℕ) (client : ClientState) → client_at store nth ≡ Some client
    → (table key passed : ℕ) → key_view client.call ≡ LooksFor table key passed
    → find_after (path_of shape table key) passed (found_word shape store client) ≡ Over found_key.Absent
    → (position : ℕ) → position < capacity_of shape table → key_of shape store table position ≢ key_word key

-- where the word that a claim is to find ends it for want of space, each position bears another key for good
abbrev pub FullLaw : Type 0
FullLaw = (shape : Shape) → FitsLimits shape → (rows : List Row) → AreLoaded shape rows → (store : Store)
    → IsReached shape rows store → (nth : ℕ) (client : ClientState) → client_at store nth ≡ Some client
    → (op : Op) (at : ClaimKeyPoint) → client.call ≡ Some (At (InTxn (Claiming op at)))
    → claim_key_after (op_path shape op) at (found_word shape store client) ≡ Over claimed_key.NoSpace
    → (after : Store) → StepsOn shape store after → (position : ℕ)
    → position < capacity_of shape (op_key op).table → let word = key_of shape after (op_key op).table position in
    (word ≢ 0) × (word ≢ key_word (op_key op).key)
