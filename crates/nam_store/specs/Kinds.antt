-- Which fields the verb of a client's point may change at all, by the kind of its call.
use Rattle.std.specs.Prelude.{◌≡◌, ℕ, Option, Some}
use Rattle.nam_verbs.specs.declared.now.Now.{Now}
use Rattle.nam_verbs.specs.declared.now.Now.TheVariants.{At}
use Rattle.nam_layout.specs.declared.field.Field.{Field}
use Rattle.nam_layout.specs.declared.field.Field.TheVariants.{Entry, Horizon, Key, Header, Count, Word, SlotHeader}
use Rattle.nam_layout.specs.declared.field.Field.TheVariants.{SlotEnd, SlotWord, Tag, Owner, Begin, End, CellWord}
use Rattle.nam_layout.specs.declared.field.Field.TheVariants.{Intent}
use Rattle.nam_protocol.specs.declared.client.Answer.{Answer}
use Rattle.nam_protocol.specs.declared.client.CallPoint.{CallPoint}
use Rattle.nam_protocol.specs.declared.client.CallPoint.TheVariants.{Collecting, InTxn, Moving}
use Rattle.nam_protocol.specs.declared.client.ClientState.{ClientState}
use Rattle.nam_protocol.specs.declared.txn.TxnPoint.TheVariants.{Claiming, Committing}

-- an operation claims a key
abbrev pub IsKeyField : Field → Type 0
IsKeyField (Key row) = Unit {0}
IsKeyField _ = ⊥

-- a worker's commit writes records, their slots, and its own intent and entry
abbrev pub IsCommitField : ℕ → Field → Type 0
IsCommitField worker (Entry own) = own ≡ worker
IsCommitField worker (Header row) = Unit {0}
IsCommitField worker (Count row) = Unit {0}
IsCommitField worker (Word row nth) = Unit {0}
IsCommitField worker (SlotHeader row slot) = Unit {0}
IsCommitField worker (SlotEnd row slot) = Unit {0}
IsCommitField worker (SlotWord row slot nth) = Unit {0}
IsCommitField worker (Intent own nth) = own ≡ worker
IsCommitField worker _ = ⊥

-- a move writes cells, and the flag of a slot
abbrev pub IsMoveField : Field → Type 0
IsMoveField (SlotHeader row slot) = Unit {0}
IsMoveField (Tag bucket cell) = Unit {0}
IsMoveField (Owner bucket cell) = Unit {0}
IsMoveField (Begin bucket cell) = Unit {0}
IsMoveField (End bucket cell) = Unit {0}
IsMoveField (CellWord bucket cell nth) = Unit {0}
IsMoveField _ = ⊥

-- a collection raises the horizon, and frees cells
abbrev pub IsCollectField : Field → Type 0
IsCollectField (Horizon worker) = Unit {0}
IsCollectField (Tag bucket cell) = Unit {0}
IsCollectField _ = ⊥

-- all others only read
abbrev pub MayWrite : ℕ → CallPoint → Field → Type 0
MayWrite worker (InTxn (Claiming op at)) field = IsKeyField field
MayWrite worker (InTxn (Committing at)) field = IsCommitField worker field
MayWrite worker (Moving table key position at) field = IsMoveField field
MayWrite worker (Collecting bucket prefix seen at) field = IsCollectField field
MayWrite worker _ field = ⊥

-- nor is anything written where no call runs
abbrev pub MayWriteAt : ℕ → Option (Now CallPoint Answer) → Field → Type 0
MayWriteAt worker (Some (At place)) field = MayWrite worker place field
MayWriteAt worker _ field = ⊥

-- the next verb of this worker's client may change the field
abbrev pub Writes : ℕ → ClientState → Field → Type 0
Writes worker client field = MayWriteAt worker client.call field
