-- The index: a key has at most one position, and what was passed on its path stays passed.
use Rattle.std.specs.Prelude.{List, None, Option, Some, [], ℕ, ◌<◌, ◌≡◌, ◌≢◌}
use Rattle.nam_calls.specs.Fits.{IsTableOf}
use Rattle.nam_calls.specs.Index.{nth_key}
use Rattle.nam_calls.specs.Memory.{memory}
use Rattle.nam_calls.specs.Words.{capacity_of, key_word, path_of}
use Rattle.nam_calls.specs.declared.index.ClaimKeyPoint.{ClaimKeyPoint}
use Rattle.nam_calls.specs.declared.index.ClaimKeyPoint.TheVariants.{KeyLook, KeyTake}
use Rattle.nam_catalog.specs.declared.shape.Shape.{Shape}
use Rattle.nam_ghost.specs.Versions.{Chain}
use Rattle.nam_layout.specs.Address.{IsRow}
use Rattle.nam_layout.specs.Rows.{row_of}
use Rattle.nam_layout.specs.declared.field.Field.{Field}
use Rattle.nam_protocol.specs.Scan.{position_of}
use Rattle.nam_protocol.specs.declared.client.Answer.{Answer}
use Rattle.nam_protocol.specs.declared.client.CallPoint.{CallPoint}
use Rattle.nam_protocol.specs.declared.client.CallPoint.TheVariants.{InTxn, Moving, Scanning, Seeking}
use Rattle.nam_protocol.specs.declared.client.ClientState.{ClientState}
use Rattle.nam_protocol.specs.declared.client.Open.{Open}
use Rattle.nam_protocol.specs.declared.client.Scanned.{Scanned}
use Rattle.nam_protocol.specs.declared.scan.ScanPoint.{ScanPoint}
use Rattle.nam_protocol.specs.declared.scan.ScanPoint.TheVariants.{ScanKey, ScanRead}
use Rattle.nam_protocol.specs.declared.txn.Record.{Record}
use Rattle.nam_protocol.specs.declared.txn.TxnPoint.{TxnPoint}
use Rattle.nam_protocol.specs.declared.txn.TxnPoint.TheVariants.{Claiming, Committing, Finding, Reading}
use Rattle.nam_store.specs.Everyone.{Everyone}
use Rattle.nam_store.specs.LoadedLaw.{KeysStand}
use Rattle.nam_store.specs.Store.{Store}
use Rattle.nam_verbs.specs.declared.now.Now.{Now}
use Rattle.nam_verbs.specs.declared.now.Now.TheVariants.{At}
use Rattle.si_model.specs.Evaluation.{op_key}
use Rattle.si_model.specs.Lists.{Listed}
use Rattle.si_model.specs.declared.row.Key.{Key}
use Rattle.nam_layout.specs.declared.field.Field.TheVariants as field

-- What a client knows of keys at its point: it looks for a key, having passed so many positions of its path; or it has
-- found the key's position.
pub data KeyView : Type 0 where
  NoKey : KeyView
  LooksFor : (table key passed : ℕ) → KeyView
  HasFound : (table key position : ℕ) → KeyView

abbrev pub claim_view : Key → ClaimKeyPoint → KeyView
claim_view key (KeyLook passed) = LooksFor key.table key.key passed
claim_view key (KeyTake passed) = LooksFor key.table key.key passed

abbrev pub txn_view : TxnPoint → KeyView
txn_view (Finding op passed) = LooksFor (op_key op).table (op_key op).key passed
txn_view (Reading op position at) = HasFound (op_key op).table (op_key op).key position
txn_view (Claiming op at) = claim_view (op_key op) at
txn_view (Committing at) = NoKey

-- a scan looks at each position of its table, and reads where it found a key
abbrev pub scan_view : ℕ → ScanPoint → KeyView
scan_view table (ScanKey position) = NoKey
scan_view table (ScanRead position key at) = HasFound table key position

abbrev pub call_view : CallPoint → KeyView
call_view (InTxn at) = txn_view at
call_view (Scanning table low high at) = scan_view table at
call_view (Seeking table key passed) = LooksFor table key passed
call_view (Moving table key position at) = HasFound table key position
call_view _ = NoKey

abbrev pub key_view : Option (Now CallPoint Answer) → KeyView
key_view (Some (At place)) = call_view place
key_view _ = NoKey

-- the position is one of a table
abbrev pub ViewFits : Shape → KeyView → Type 0
ViewFits shape NoKey = Unit {0}
ViewFits shape (LooksFor table key passed) = IsTableOf shape table × (passed < capacity_of shape table)
ViewFits shape (HasFound table key position) = IsTableOf shape table × (position < capacity_of shape table)

-- a position without a key has had no version but the loader's absent one, and nobody has locked it
pub record IsUnused (chain : Chain) : Type 0 where
  pub old : chain.old ≡ []
  pub absent : chain.now.value ≡ None
  pub free : chain.holder ≡ 0

module _ (shape : Shape) (m : Field → ℕ) where
  -- the positions that were passed on the key's path bear other keys; for good, since a key word never changes
  abbrev pub IsPast : ℕ → ℕ → ℕ → Type 0
  IsPast table key passed = (q : ℕ) → q < passed → let word = m (nth_key (path_of shape table key) q) in
      (word ≢ 0) × (word ≢ key_word key)

  abbrev pub Bears : ℕ → ℕ → ℕ → Type 0
  Bears table key position = m (field.Key (row_of shape.tables table position)) ≡ key_word key

  abbrev pub ViewOk : KeyView → Type 0
  ViewOk NoKey = Unit {0}
  ViewOk (LooksFor table key passed) = IsPast table key passed
  ViewOk (HasFound table key position) = Bears table key position

  abbrev pub IsAtKey : Record → Type 0
  IsAtKey claim = m (field.Key claim.place.row) ≡ key_word claim.key.key

  abbrev pub AreAtKeys : List Record → Type 0
  AreAtKeys claims = (claim : Record) → Listed claim claims → IsAtKey claim

  -- the keys that a transaction has claimed stand at their positions
  abbrev pub ClaimsOk : Option Open → Type 0
  ClaimsOk None = Unit {0}
  ClaimsOk (Some attempt) = AreAtKeys attempt.state.claims

  -- and so do those that a running scan has found on its way, before the position that it is at
  abbrev pub ScannedOk : Option (Now CallPoint Answer) → List Scanned → Type 0
  ScannedOk (Some (At (Scanning table low high at))) scanned =
      (row : Scanned) → Listed row scanned → (row.position < position_of at) × Bears table row.key row.position
  ScannedOk _ scanned = Unit {0}

  pub record KeyClientOk (client : ClientState) : Type 0 where
    pub at : ViewOk (key_view client.call)
    pub claims : ClaimsOk client.txn
    pub scanned : ScannedOk client.call client.scanned

  -- a key is claimed before its record is locked
  abbrev pub AreUnused : (ℕ → Chain) → Type 0
  AreUnused chains = (row : ℕ) → IsRow shape row → m (field.Key row) ≡ 0 → IsUnused (chains row)

-- a key word that stands is never changed: a position is claimed by an exchange for 0. All clients rely on this alone.
abbrev pub KeysNext : Shape → (Field → ℕ) → (Field → ℕ) → Type 0
KeysNext shape m now = (row : ℕ) → IsRow shape row → m (field.Key row) ≢ 0 → now (field.Key row) ≡ m (field.Key row)

-- A position bears a key only where all positions before it on the key's path bear other keys (`KeysStand`), so a key
-- has at most one position; positions without a key; and what the clients know.
pub record KeysOk (shape : Shape) (store : Store) (chains : ℕ → Chain) : Type 0 where
  pub paths : KeysStand shape store.words
  pub unused : AreUnused shape (memory shape store.words) chains
  pub clients : Everyone (λ nth client. KeyClientOk shape (memory shape store.words) client) store.clients
