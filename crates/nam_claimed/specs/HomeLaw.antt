-- What holds of the positions of keys: each key has its home where it stands, and keeps it.
use Rattle.std.specs.Prelude.{IsTrue, List, None, Some, ℕ, ◌<◌, ◌≡◌, ◌≢◌, ◌↔◌, ◌⊎◌}
use Rattle.si_model.specs.Evaluation.{op_key}
use Rattle.si_model.specs.Lists.{Listed}
use Rattle.si_model.specs.Rows.{key_at}
use Rattle.si_model.specs.declared.op.Op.{Op}
use Rattle.si_model.specs.declared.row.Key.{Key}
use Rattle.nam_verbs.specs.declared.now.Now.TheVariants.{At}
use Rattle.nam_catalog.specs.declared.shape.Shape.{Shape}
use Rattle.nam_layout.specs.Place.{place_of}
use Rattle.nam_layout.specs.Rows.{row_of}
use Rattle.nam_layout.specs.declared.field.Field.{Field}
use Rattle.nam_calls.specs.Memory.{memory}
use Rattle.nam_calls.specs.Words.{capacity_of}
use Rattle.nam_calls.specs.declared.index.ClaimKeyPoint.TheVariants.{KeyTake}
use Rattle.nam_protocol.specs.TxnFits.{is_claimed}
use Rattle.nam_protocol.specs.declared.client.CallPoint.TheVariants.{InTxn, Scanning}
use Rattle.nam_protocol.specs.declared.client.ClientState.{ClientState}
use Rattle.nam_protocol.specs.declared.client.Open.{Open}
use Rattle.nam_protocol.specs.declared.client.Scanned.{Scanned}
use Rattle.nam_protocol.specs.declared.scan.ScanPoint.{ScanPoint}
use Rattle.nam_protocol.specs.declared.txn.Record.{Record}
use Rattle.nam_protocol.specs.declared.txn.TxnPoint.TheVariants.{Claiming}
use Rattle.nam_store.specs.Base.{BaseOk}
use Rattle.nam_store.specs.LoadedLaw.{KeysStand}
use Rattle.nam_store.specs.Store.{StepsTo, Store, Takes, client_at}
use Rattle.nam_ghost.specs.Keys.{Bears, HasFound, KeysNext, KeysOk, key_view}
use Rattle.nam_ghost.specs.Versions.{Chain, IsNth, Version}
use Rattle.nam_claimed.specs.Home.{home_of, word_at}

-- 1. Of key words alone

-- a key's home is the one position that bears it
abbrev pub StandsLaw : Type 0
StandsLaw = (shape : Shape) (words : List ℕ) → KeysStand shape words → (key : Key) (position : ℕ)
    → let m = memory shape words in
    (home_of shape m key ≡ Some position)
    ↔ ((position < capacity_of shape key.table) × Bears shape m key.table key.key position)

-- and of no other key of the table
abbrev pub ApartLaw : Type 0
ApartLaw = (shape : Shape) (m : Field → ℕ) (a b : Key) (position : ℕ) → a.table ≡ b.table
    → home_of shape m a ≡ Some position → home_of shape m b ≡ Some position → a ≡ b

-- where key words that stand stay: a key keeps its home, and one that gets a home stood nowhere, nor did another there
pub record HomesGo (shape : Shape) (m now : Field → ℕ) : Type 0 where
  pub stays : (key : Key) (position : ℕ) → home_of shape m key ≡ Some position
      → home_of shape now key ≡ Some position
  pub new : (key : Key) (position : ℕ) → home_of shape m key ≡ None → home_of shape now key ≡ Some position
      → word_at shape m key.table position ≡ 0

abbrev pub GoesLaw : Type 0
GoesLaw = (shape : Shape) (before after : List ℕ) → KeysStand shape before → KeysStand shape after
    → KeysNext shape (memory shape before) (memory shape after)
    → HomesGo shape (memory shape before) (memory shape after)

-- 2. A step gives a home to no key but that of the operation whose claim takes one

abbrev pub TakesFor : (shape : Shape) (before after : Store) → StepsTo shape before after → Key → Type 0
TakesFor shape before _ (Takes nth client place here runs at) key = (op : Op) × (passed : ℕ)
    × (place ≡ InTxn (Claiming op (KeyTake passed))) × (op_key op ≡ key)
TakesFor shape before _ _ key = ⊥

abbrev pub TakenLaw : Type 0
TakenLaw = (shape : Shape) (before after : Store) (goes : StepsTo shape before after) → BaseOk shape before
    → KeysStand shape before.words → (key : Key) (position : ℕ)
    → home_of shape (memory shape before.words) key ≡ None
    → home_of shape (memory shape after.words) key ≡ Some position → TakesFor shape before after goes key

-- 3. Versions: a position whose row has any but the loader's absent version is a key's home

abbrev pub UsedLaw : Type 0
UsedLaw = (shape : Shape) (store : Store) (chains : ℕ → Chain) → KeysOk shape store chains → (table position : ℕ)
    → position < capacity_of shape table → (number : ℕ) (version : Version)
    → IsNth (chains (row_of shape.tables table position)) number version → (number ≢ 0) ⊎ (version.value ≢ None)
    → (key : ℕ) × (home_of shape (memory shape store.words) (key_at table key) ≡ Some position)

-- 4. Clients: what they have found, claimed and scanned

module _ (shape : Shape) (m : Field → ℕ) (client : ClientState) where
  -- the operation, the scan or the move that runs is at the home of its key
  abbrev pub FoundHome : Type 0
  FoundHome = (table key position : ℕ) → key_view client.call ≡ HasFound table key position
      → home_of shape m (key_at table key) ≡ Some position

  -- each key that the open attempt has claimed has a home, and its record is there
  abbrev pub ClaimsHome : Type 0
  ClaimsHome = (attempt : Open) → client.txn ≡ Some attempt → (claim : Record) → Listed claim attempt.state.claims
      → (position : ℕ) × (home_of shape m claim.key ≡ Some position)
      × (claim.place ≡ place_of shape claim.key.table position)

  -- so it has where it is said to be claimed
  abbrev pub KeysHome : Type 0
  KeysHome = (attempt : Open) → client.txn ≡ Some attempt → (key : Key) → IsTrue (is_claimed attempt.state.claims key)
      → home_of shape m key ≢ None

  -- each row that a running scan has gathered is at its key's home
  abbrev pub ScannedHome : Type 0
  ScannedHome = (table low high : ℕ) (at : ScanPoint) → client.call ≡ Some (At (Scanning table low high at))
      → (row : Scanned) → Listed row client.scanned → home_of shape m (key_at table row.key) ≡ Some row.position

  pub record HasHomes : Type 0 where
    pub found : FoundHome
    pub claims : ClaimsHome
    pub keys : KeysHome
    pub scanned : ScannedHome

abbrev pub ClientsLaw : Type 0
ClientsLaw = (shape : Shape) (store : Store) (chains : ℕ → Chain) → BaseOk shape store → KeysOk shape store chains
    → (nth : ℕ) (client : ClientState) → client_at store nth ≡ Some client
    → HasHomes shape (memory shape store.words) client
