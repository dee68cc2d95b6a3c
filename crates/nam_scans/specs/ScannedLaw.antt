-- What a scan lists in the end: each row of its range that its transaction finds, and nothing else.
use Rattle.std.specs.Prelude.{List, None, Option, Some, length, ℕ, ◌<◌, ◌≡◌, ◌⊎◌}
use Rattle.nam_calls.specs.Fits.{IsTableOf}
use Rattle.nam_calls.specs.Memory.{memory}
use Rattle.nam_calls.specs.Words.{capacity_of}
use Rattle.nam_catalog.specs.declared.shape.Shape.{Shape}
use Rattle.nam_ghost.specs.Chains.{ChainsOk}
use Rattle.nam_ghost.specs.Ghost.{Ghost, ghost_step}
use Rattle.nam_ghost.specs.Keys.{Bears, KeysOk}
use Rattle.nam_ghost.specs.Versions.{Chain}
use Rattle.nam_layout.specs.Rows.{row_of}
use Rattle.nam_protocol.specs.Carries.{IsBetween}
use Rattle.nam_protocol.specs.Client.{client_after}
use Rattle.nam_protocol.specs.Log.{with_reads}
use Rattle.nam_protocol.specs.declared.client.CallPoint.TheVariants.{Scanning}
use Rattle.nam_protocol.specs.declared.client.ClientState.{ClientState}
use Rattle.nam_protocol.specs.declared.client.Open.{Open}
use Rattle.nam_protocol.specs.declared.scan.ScanPoint.{ScanPoint}
use Rattle.nam_protocol.specs.declared.txn.TxnState.{TxnState}
use Rattle.nam_scans.specs.Gathered.{Finds, ScansOk}
use Rattle.nam_scans.specs.ScansLaw.{RestsOn, Stands}
use Rattle.nam_store.specs.Store.{StepsTo, Store, client_at, found_word}
use Rattle.nam_verbs.specs.declared.now.Now.TheVariants.{At, Over}
use Rattle.si_model.specs.Lists.{Listed, Pairwise}
use Rattle.si_model.specs.Rows.{Rows, item_at, items_between, key_at}
use Rattle.si_model.specs.declared.row.Item.{Item}
use Rattle.nam_protocol.specs.declared.client.Answer.TheVariants as client_answer

-- 1. What a transaction finds at the keys of a table

module _ (shape : Shape) (store : Store) (chains : ℕ → Chain) (state : TxnState) (table : ℕ) where
  -- this value at the key's position
  pub record FindsAt (key : ℕ) (value : Option (List ℕ)) : Type 0 where
    pub position : ℕ
    pub within : position < capacity_of shape table
    pub bears : Bears shape (memory shape store.words) table key position
    pub finds : Finds state (chains (row_of shape.tables table position)) (key_at table key) value

  -- no position bears the key
  abbrev pub IsNowhere : ℕ → Type 0
  IsNowhere key = (position : ℕ) → position < capacity_of shape table
      → Bears shape (memory shape store.words) table key position → ⊥

  -- and so there is nothing
  abbrev pub FindsKey : ℕ → Option (List ℕ) → Type 0
  FindsKey key value = FindsAt key value ⊎ (IsNowhere key × (value ≡ None))

  -- the keys of the range at which it finds a value, all of them and no others, each once, with that value, by rising
  -- keys
  pub record ListsRange (low high : ℕ) (items : List Item) : Type 0 where
    pub only : (item : Item) → Listed item items → (value : List ℕ)
        × (item ≡ item_at (key_at table item.key) (Some value)) × IsBetween low high item.key
        × FindsAt item.key (Some value)
    pub each : (key : ℕ) (value : List ℕ) → IsBetween low high key → FindsAt key (Some value)
        → Listed (item_at (key_at table key) (Some value)) items
    pub order : Pairwise (λ (a b : Item). a.key < b.key) items

-- at each key of a table it finds one value, and one alone
abbrev pub FindsLaw : Type 0
FindsLaw = (shape : Shape) (store : Store) (chains : ℕ → Chain) → KeysOk shape store chains
    → ChainsOk shape store chains → (state : TxnState) (table : ℕ) → IsTableOf shape table → (key : ℕ)
    → (value : Option (List ℕ)) × FindsKey shape store chains state table key value
    × ((other : Option (List ℕ)) → FindsKey shape store chains state table key other → other ≡ value)

-- While the transaction is open no step changes what it finds at a key: its reads are repeatable, and no key comes or
-- goes.
abbrev pub StaysLaw : Type 0
StaysLaw = (shape : Shape) (before after : Store) (goes : StepsTo shape before after) (ghost : Ghost)
    → RestsOn shape before after goes ghost → ChainsOk shape before ghost.chains → (nth : ℕ) (client : ClientState)
    → client_at before nth ≡ Some client → (attempt : Open) → client.txn ≡ Some attempt → (table key : ℕ)
    → IsTableOf shape table → (value : Option (List ℕ))
    → FindsKey shape before ghost.chains attempt.state table key value
    → FindsKey shape after (ghost_step shape before after goes ghost).chains attempt.state table key value

-- 2. The end of a scan

-- the client after its next word
abbrev pub client_then : Shape → Store → ClientState → ClientState
client_then shape store client = client_after shape client (found_word shape store client)

-- the client scans in this attempt, and the word that it is to find ends its scan, with so many rows listed
pub record EndsScan (shape : Shape) (store : Store) (client : ClientState) (attempt : Open) (table low high count : ℕ)
    : Type 0 where
  pub at : ScanPoint
  pub runs : client.call ≡ Some (At (Scanning table low high at))
  pub opened : client.txn ≡ Some attempt
  pub answers : (client_then shape store client).call ≡ Some (Over (client_answer.Scanned count))

-- then it lists as read exactly the rows of the range that its transaction finds; so no key is passed at which its
-- snapshot sees a value
abbrev pub CompleteLaw : Type 0
CompleteLaw = (shape : Shape) (store : Store) (ghost : Ghost) → Stands shape store ghost
    → ScansOk shape store ghost.chains → (nth : ℕ) (client : ClientState) → client_at store nth ≡ Some client
    → (attempt : Open) (table low high count : ℕ) → EndsScan shape store client attempt table low high count
    → (items : List Item) × ((client_then shape store client).log ≡ with_reads client.log items)
    × (length items ≡ count) × ListsRange shape store ghost.chains attempt.state table low high items

-- those are the range's items of any rows that have at each key of the range what the transaction finds there
abbrev pub ItemsLaw : Type 0
ItemsLaw = (shape : Shape) (store : Store) (ghost : Ghost) → Stands shape store ghost
    → ScansOk shape store ghost.chains → (nth : ℕ) (client : ClientState) → client_at store nth ≡ Some client
    → (attempt : Open) (table low high count : ℕ) → EndsScan shape store client attempt table low high count
    → (rows : Rows) → ((key : ℕ) → IsBetween low high key
    → FindsKey shape store ghost.chains attempt.state table key (rows (key_at table key)))
    → (client_then shape store client).log ≡ with_reads client.log (items_between rows table low high)
