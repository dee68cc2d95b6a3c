-- What a search tells of its key where it ends, at the word that it takes last; and what a scan is told by a key word.
use Rattle.std.specs.List.{AllByRecursion}
use Rattle.std.specs.Prelude.{IsTrue, List, None, Some, length, slice_index, ℕ, ◌≡◌, ◌≢◌, ◌≤◌, ◌<◌}
use Rattle.si_model.specs.Evaluation.{op_key}
use Rattle.si_model.specs.Lists.{Listed, Pairwise}
use Rattle.si_model.specs.Rows.{key_at}
use Rattle.si_model.specs.Setting.{Asked, Setting, claimed_keys, is_crowded}
use Rattle.si_model.specs.declared.op.Op.{Op}
use Rattle.si_model.specs.declared.row.Key.{Key}
use Rattle.si_model.specs.declared.row.Row.{Row}
use Rattle.nam_verbs.specs.declared.now.Now.TheVariants.{At, Over}
use Rattle.nam_catalog.specs.Tables.{capacities_of}
use Rattle.nam_catalog.specs.declared.shape.Shape.{Shape}
use Rattle.nam_layout.specs.declared.field.Field.{Field}
use Rattle.nam_calls.specs.Index.{claim_key_after, find_after}
use Rattle.nam_calls.specs.Memory.{memory}
use Rattle.nam_calls.specs.Words.{key_word, path_of}
use Rattle.nam_calls.specs.declared.index.ClaimKeyPoint.{ClaimKeyPoint}
use Rattle.nam_protocol.specs.Client.{client_after}
use Rattle.nam_protocol.specs.Operations.{op_path}
use Rattle.nam_protocol.specs.declared.client.Call.{Call}
use Rattle.nam_protocol.specs.declared.client.CallPoint.TheVariants.{InTxn, Scanning}
use Rattle.nam_protocol.specs.declared.client.ClientState.{ClientState}
use Rattle.nam_protocol.specs.declared.scan.ScanPoint.TheVariants.{ScanKey}
use Rattle.nam_protocol.specs.declared.txn.TxnPoint.TheVariants.{Claiming}
use Rattle.nam_store.specs.Base.{BaseOk}
use Rattle.nam_store.specs.LoadedLaw.{KeysStand}
use Rattle.nam_store.specs.Store.{Store, client_at, found_word, step}
use Rattle.nam_ghost.specs.Keys.{KeysNext, KeysOk, LooksFor, key_view}
use Rattle.nam_ghost.specs.Versions.{Chain}
use Rattle.nam_claimed.specs.Claimed.{ClaimedOk, ops_asked}
use Rattle.nam_claimed.specs.Home.{home_of}
use Rattle.nam_calls.specs.declared.index.ClaimKeyEnd.TheVariants as claimed_key
use Rattle.nam_calls.specs.declared.index.FindEnd.TheVariants as found_key
use Rattle.nam_protocol.specs.declared.client.Answer.TheVariants as client_answer
use Rattle.nam_protocol.specs.declared.txn.TxnAnswer.TheVariants as txn_answer

-- 1. A claim that finds no space

-- the setting is of the loaded rows and of the tables, and all operations are listed that the clients were asked so far
pub record ListsAsked (shape : Shape) (rows : List Row) (calls : ℕ → List Call) (s : Setting) (asked : Asked)
    : Type 0 where
  pub loaded : s.rows ≡ rows
  pub capacities : s.capacities ≡ capacities_of shape.tables
  pub ops : (nth : ℕ) → nth < shape.workers → (op : Op) → Listed op (ops_asked (calls nth)) → Listed op asked.ops

-- the key has no home, and other keys of its table, as many as it has positions, are loaded or asked for
pub record LacksSpace (shape : Shape) (m : Field → ℕ) (s : Setting) (asked : Asked) (key : Key) : Type 0 where
  pub unplaced : home_of shape m key ≡ None
  pub keys : List Key
  pub apart : Pairwise (λ a b. a ≢ b) keys
  pub many : slice_index s.capacities key.table ≤ length keys
  pub others : AllByRecursion (λ k. (k.table ≡ key.table) × (k ≢ key) × Listed k (claimed_keys s asked)) keys

-- the word that the client's claim takes next ends it for want of space
pub record EndsFull (shape : Shape) (store : Store) (nth : ℕ) (client : ClientState) (op : Op) (table : ℕ)
    : Type 0 where
  pub here : client_at store nth ≡ Some client
  pub at : ClaimKeyPoint
  pub runs : client.call ≡ Some (At (InTxn (Claiming op at)))
  pub answers : (client_after shape client (found_word shape store client)).call
      ≡ Some (Over (client_answer.Txn (txn_answer.NoSpace table)))

-- it is so of the key at that moment, and in each store that comes after
abbrev pub NoSpaceLaw : Type 0
NoSpaceLaw = (shape : Shape) (rows : List Row) (store : Store) (chains : ℕ → Chain) (calls : ℕ → List Call)
    → BaseOk shape store → KeysOk shape store chains → ClaimedOk shape rows store calls
    → (nth : ℕ) (client : ClientState) (op : Op) (table : ℕ) → EndsFull shape store nth client op table
    → (s : Setting) (asked : Asked) → ListsAsked shape rows calls s asked
    → (table ≡ (op_key op).table) × ((later : Store)
    → KeysNext shape (memory shape store.words) (memory shape later.words)
    → LacksSpace shape (memory shape later.words) s asked (op_key op))

-- so the model says that the table is crowded for the key
abbrev pub CrowdedLaw : Type 0
CrowdedLaw = (shape : Shape) (m : Field → ℕ) (s : Setting) (asked : Asked) (key : Key)
    → LacksSpace shape m s asked key → IsTrue (is_crowded s asked key)

-- 2. Other ends of a search

-- where the word that a search is to find ends it without a position, its key has no home at that moment
abbrev pub AbsentLaw : Type 0
AbsentLaw = (shape : Shape) (store : Store) (chains : ℕ → Chain) → BaseOk shape store → KeysOk shape store chains
    → (nth : ℕ) (client : ClientState) → client_at store nth ≡ Some client
    → (table key passed : ℕ) → key_view client.call ≡ LooksFor table key passed
    → find_after (path_of shape table key) passed (found_word shape store client) ≡ Over found_key.Absent
    → home_of shape (memory shape store.words) (key_at table key) ≡ None

-- where a claim ends with a position, that is its key's home after the word
abbrev pub PlacedLaw : Type 0
PlacedLaw = (shape : Shape) (store : Store) → BaseOk shape store
    → (nth : ℕ) (client : ClientState) → client_at store nth ≡ Some client
    → let after = step shape store nth client in
    KeysNext shape (memory shape store.words) (memory shape after.words) → KeysStand shape after.words
    → (op : Op) (at : ClaimKeyPoint) → client.call ≡ Some (At (InTxn (Claiming op at))) → (position : ℕ)
    → claim_key_after (op_path shape op) at (found_word shape store client) ≡ Over (claimed_key.At position)
    → home_of shape (memory shape after.words) (op_key op) ≡ Some position

-- 3. The key word that a scan is to find at its position

-- 0 says that no key has its home there, and a key's word that this key has
pub record TellsHome (shape : Shape) (m : Field → ℕ) (table position word : ℕ) : Type 0 where
  pub free : word ≡ 0 → (key : ℕ) → home_of shape m (key_at table key) ≢ Some position
  pub taken : (key : ℕ) → word ≡ key_word key → home_of shape m (key_at table key) ≡ Some position

abbrev pub ScanLaw : Type 0
ScanLaw = (shape : Shape) (store : Store) (chains : ℕ → Chain) → BaseOk shape store → KeysOk shape store chains
    → (nth : ℕ) (client : ClientState) → client_at store nth ≡ Some client
    → (table low high position : ℕ) → client.call ≡ Some (At (Scanning table low high (ScanKey position)))
    → TellsHome shape (memory shape store.words) table position (found_word shape store client)
