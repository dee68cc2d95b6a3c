-- What a running scan has gathered: exactly the rows of its range before the position that it is at.
use Rattle.std.specs.Prelude.{Bool, List, Option, Some, false, true, ℕ, ◌<◌, ◌≡◌}
use Rattle.nam_calls.specs.Memory.{memory}
use Rattle.nam_catalog.specs.declared.shape.Shape.{Shape}
use Rattle.nam_ghost.specs.Keys.{Bears}
use Rattle.nam_ghost.specs.Versions.{Chain}
use Rattle.nam_ghost.specs.Wanted.{IsNewest}
use Rattle.nam_layout.specs.Rows.{row_of}
use Rattle.nam_layout.specs.declared.field.Field.{Field}
use Rattle.nam_protocol.specs.Carries.{IsBetween, KeyBetween}
use Rattle.nam_protocol.specs.Operations.{own_value}
use Rattle.nam_protocol.specs.Scan.{position_of}
use Rattle.nam_protocol.specs.declared.client.Answer.{Answer}
use Rattle.nam_protocol.specs.declared.client.CallPoint.{CallPoint}
use Rattle.nam_protocol.specs.declared.client.CallPoint.TheVariants.{Scanning}
use Rattle.nam_protocol.specs.declared.client.Open.{Open}
use Rattle.nam_protocol.specs.declared.client.Scanned.{Scanned}
use Rattle.nam_protocol.specs.declared.scan.ScanPoint.{ScanPoint}
use Rattle.nam_protocol.specs.declared.scan.ScanPoint.TheVariants.{ScanKey, ScanRead}
use Rattle.nam_protocol.specs.declared.txn.TxnState.{TxnState}
use Rattle.nam_store.specs.Everyone.{Everyone}
use Rattle.nam_store.specs.Store.{Store}
use Rattle.nam_verbs.specs.declared.now.Now.{Now}
use Rattle.nam_verbs.specs.declared.now.Now.TheVariants.{At}
use Rattle.si_model.specs.Lists.{Listed, Pairwise}
use Rattle.si_model.specs.Rows.{key_at, writes_key}
use Rattle.si_model.specs.declared.row.Key.{Key}

-- What a transaction finds at a key whose row has this chain: the value of its own write, where it writes the key; and
-- else that of the newest version that its snapshot sees.
abbrev pub FindsBy : Bool → TxnState → Chain → Key → Option (List ℕ) → Type 0
FindsBy true state chain key value = value ≡ own_value state.writes key
FindsBy false state chain key value = IsNewest state.seen chain value

abbrev pub Finds : TxnState → Chain → Key → Option (List ℕ) → Type 0
Finds state chain key value = FindsBy (writes_key state.writes key) state chain key value

module _ (shape : Shape) (m : Field → ℕ) (chains : ℕ → Chain) where
  module _ (state : TxnState) (table low high : ℕ) where
    -- the row's position bears its key, which is in the range, and the transaction finds its value there
    pub record IsOfRange (row : Scanned) : Type 0 where
      pub bears : Bears shape m table row.key row.position
      pub between : IsBetween low high row.key
      pub finds : Finds state (chains (row_of shape.tables table row.position)) (key_at table row.key) (Some row.value)

    -- The rows of the range before a position, all of them and no others, by rising positions. It stays: a key word
    -- that stands does, and what is installed later the snapshot doesn't see. Where a position is claimed after it was
    -- passed, the snapshot sees no version there but the loader's absent one; and it isn't claimed for a key that the
    -- transaction writes, since that one was claimed before.
    pub record HasGathered (position : ℕ) (rows : List Scanned) : Type 0 where
      pub only : (row : Scanned) → Listed row rows → (row.position < position) × IsOfRange row
      pub each : (row : Scanned) → row.position < position → IsOfRange row → Listed row rows
      pub order : Pairwise (λ (a b : Scanned). a.position < b.position) rows

    -- a key that is read is no own write
    abbrev pub ReadsOthers : ScanPoint → Type 0
    ReadsOthers (ScanKey position) = Unit {0}
    ReadsOthers (ScanRead position key at) = writes_key state.writes (key_at table key) ≡ false

    pub record ScanOk (at : ScanPoint) (rows : List Scanned) : Type 0 where
      pub gathered : HasGathered (position_of at) rows
      pub key : KeyBetween low high at
      pub others : ReadsOthers at

  abbrev pub ScanClientOk : Option (Now CallPoint Answer) → Option Open → List Scanned → Type 0
  ScanClientOk (Some (At (Scanning table low high at))) (Some attempt) rows =
      ScanOk attempt.state table low high at rows
  ScanClientOk _ _ rows = Unit {0}

abbrev pub ScansOk : Shape → Store → (ℕ → Chain) → Type 0
ScansOk shape store chains =
    Everyone (λ nth client. ScanClientOk shape (memory shape store.words) chains client.call client.txn client.scanned)
    store.clients
