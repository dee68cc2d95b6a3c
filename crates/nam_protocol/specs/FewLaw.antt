-- What fits takes no more places than there are: at most 16 keys, records, headers and counts; and a commit's number is
-- one of its form.
use Rattle.std.specs.Prelude.{◌≡◌, ◌+◌, ◌≤◌, List, length}
use Rattle.si_model.specs.declared.op.Op.{Op}
use Rattle.si_model.specs.Evaluation.{unwritten, op_key, written_keys}
use Rattle.nam_catalog.specs.declared.bounds.TheConstants.{MOST_KEYS}
use Rattle.nam_catalog.specs.declared.shape.Shape.{Shape}
use Rattle.nam_catalog.specs.Greatest.{greatest_number}
use Rattle.nam_calls.specs.Holds.{IsWord}
use Rattle.nam_calls.specs.Words.{key_word}
use Rattle.nam_protocol.specs.declared.txn.CommitPoint.{CommitPoint}
use Rattle.nam_protocol.specs.declared.txn.Record.{Record}
use Rattle.nam_protocol.specs.declared.txn.TxnState.{TxnState}
use Rattle.nam_protocol.specs.Commit.{records_of}
use Rattle.nam_protocol.specs.TxnFits.{StateFits, CommitFits, OpStands}
use Rattle.nam_protocol.specs.SessionFits.{OpsFit}

-- the claimed keys are those that are written and those that are guarded only, at most 16 in all
pub record FewKeys (state : TxnState) : Type 0 where
  pub claims : length state.claims ≤ MOST_KEYS
  pub exact : length state.claims ≡ length state.writes + length (unwritten state.writes state.guards)
  pub writes : length state.writes ≤ MOST_KEYS
  pub guards : length state.guards ≤ MOST_KEYS
  pub records : length (records_of state) ≤ MOST_KEYS

abbrev pub FewKeysLaw : Type 0
FewKeysLaw = (shape : Shape) (state : TxnState) → StateFits shape state → FewKeys state

-- at each point of a commit
pub record FewPlaces (shape : Shape) (state : TxnState) : Type 0 where
  pub records : length state.records ≤ MOST_KEYS
  pub held : length state.held ≤ MOST_KEYS
  pub counts : length state.counts ≤ MOST_KEYS
  pub number : state.last + 1 ≤ greatest_number shape.form

abbrev pub FewPlacesLaw : Type 0
FewPlacesLaw = (shape : Shape) (state : TxnState) (at : CommitPoint) → StateFits shape state
    → CommitFits shape state at → FewPlaces shape state

-- the keys that a job's operations write, which are tidied after its commit
abbrev pub FewTidiesLaw : Type 0
FewTidiesLaw = (shape : Shape) (ops : List Op) → OpsFit shape ops → length (written_keys ops) ≤ MOST_KEYS

-- the word that a position bears for an operation's key
abbrev pub KeyWordLaw : Type 0
KeyWordLaw = (shape : Shape) (claims : List Record) (op : Op) → OpStands shape claims op
    → IsWord (key_word (op_key op).key)
