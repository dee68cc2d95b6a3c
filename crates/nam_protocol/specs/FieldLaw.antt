-- Each verb is at a field of the shape, by what its place and the state of its call are alone.
use Rattle.std.specs.Prelude.{◌≡◌, ℕ, ◌<◌, length, Some}
use Rattle.nam_verbs.specs.declared.now.Now.TheVariants.{At}
use Rattle.nam_verbs.specs.Verb.{address_of}
use Rattle.nam_verbs.specs.VerbAt.{VerbAt, target}
use Rattle.nam_catalog.specs.declared.shape.Shape.{Shape}
use Rattle.nam_catalog.specs.Fits.{FitsLimits}
use Rattle.nam_catalog.specs.Words.{words_of}
use Rattle.nam_layout.specs.declared.field.Field.{Field}
use Rattle.nam_layout.specs.declared.field.Place.{Place}
use Rattle.nam_layout.specs.Address.{IsRow, IsField}
use Rattle.nam_layout.specs.FieldAt.{field_at}
use Rattle.nam_layout.specs.Place.{place_at}
use Rattle.nam_calls.specs.declared.index.ClaimKeyPoint.{ClaimKeyPoint}
use Rattle.nam_calls.specs.declared.reading.ReadPoint.{ReadPoint}
use Rattle.nam_calls.specs.Memory.{verb_there}
use Rattle.nam_calls.specs.Words.{capacity_of, path_of}
use Rattle.nam_calls.specs.Index.{find_verb, claim_key_verb}
use Rattle.nam_calls.specs.Reading.{sight_of, read_verb}
use Rattle.nam_calls.specs.Fits.{FindFits, ClaimKeyFits, ReadFits, IsTableOf}
use Rattle.nam_protocol.specs.declared.scan.ScanPoint.{ScanPoint}
use Rattle.nam_protocol.specs.declared.txn.TxnState.{TxnState}
use Rattle.nam_protocol.specs.declared.txn.TxnPoint.{TxnPoint}
use Rattle.nam_protocol.specs.declared.txn.CommitPoint.{CommitPoint}
use Rattle.nam_protocol.specs.declared.client.CallPoint.{CallPoint}
use Rattle.nam_protocol.specs.declared.client.ClientState.{ClientState}
use Rattle.nam_protocol.specs.Commit.{record_place, commit_verb}
use Rattle.nam_protocol.specs.TxnCalls.{txn_verb}
use Rattle.nam_protocol.specs.Scan.{scan_verb}
use Rattle.nam_protocol.specs.Client.{call_verb, client_verb}
use Rattle.nam_protocol.specs.TxnFits.{StateFits, CommitFits, TxnPointFits, ScanFits}
use Rattle.nam_protocol.specs.ClientFits.{ClientFits}

-- the verb is at a field of the shape
abbrev pub IsAtField : Shape → VerbAt Field → Type 0
IsAtField shape verb = IsField shape (target verb)

-- 1. At a table's positions

pub record TableAtFields (shape : Shape) (table : ℕ) : Type 0 where
  pub find : (key passed : ℕ) → FindFits (capacity_of shape table) passed
      → IsAtField shape (find_verb (path_of shape table key) passed)
  pub claim_key : (key : ℕ) (at : ClaimKeyPoint) → ClaimKeyFits (capacity_of shape table) at
      → IsAtField shape (claim_key_verb (path_of shape table key) at)
  pub read : (position : ℕ) (at : ReadPoint) → position < capacity_of shape table
      → ReadFits (sight_of shape table position) at
      → IsAtField shape (read_verb (sight_of shape table position) at)
  pub scan : (at : ScanPoint) → ScanFits shape table at → IsAtField shape (scan_verb shape table at)

abbrev pub TableFieldsLaw : Type 0
TableFieldsLaw = (shape : Shape) → FitsLimits shape → (table : ℕ) → IsTableOf shape table → TableAtFields shape table

-- 2. Of a commit, whose records' places are those of rows; of a transaction

-- the place of a row of the shape
pub record IsRowPlace (shape : Shape) (place : Place) : Type 0 where
  pub row_is : IsRow shape place.row
  pub place_is : place ≡ place_at shape place.row

pub record CommitAtFields (shape : Shape) (state : TxnState) (at : CommitPoint) : Type 0 where
  pub places : (nth : ℕ) → nth < length state.records → IsRowPlace shape (record_place state nth)
  pub verb : IsAtField shape (commit_verb state at)

abbrev pub CommitFieldsLaw : Type 0
CommitFieldsLaw =
    (shape : Shape) → FitsLimits shape → (state : TxnState) (at : CommitPoint) → StateFits shape state
    → CommitFits shape state at → CommitAtFields shape state at

abbrev pub TxnFieldsLaw : Type 0
TxnFieldsLaw =
    (shape : Shape) → FitsLimits shape → (state : TxnState) (place : TxnPoint) → StateFits shape state
    → TxnPointFits shape state place → IsAtField shape (txn_verb shape state place)

-- 3. Of a client

abbrev pub CallFieldsLaw : Type 0
CallFieldsLaw =
    (shape : Shape) → FitsLimits shape → (client : ClientState) (place : CallPoint) → ClientFits shape client
    → client.call ≡ Some (At place) → IsAtField shape (call_verb shape client place)

abbrev pub ClientFieldsLaw : Type 0
ClientFieldsLaw =
    (shape : Shape) → FitsLimits shape → (client : ClientState) (verb : VerbAt Field) → ClientFits shape client
    → client_verb shape client ≡ Some verb → IsAtField shape verb

-- 4. The address of a verb at a field is that of a word of the shape, where that field stands

abbrev pub WithinLaw : Type 0
WithinLaw =
    (shape : Shape) (verb : VerbAt Field) → IsAtField shape verb
    → let at = address_of (verb_there shape verb) in (at < words_of shape) × (field_at shape at ≡ target verb)
