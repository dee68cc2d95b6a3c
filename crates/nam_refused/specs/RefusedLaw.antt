-- What a refused commit tells is true: what is claimed of it holds at the opening, each step keeps it, and what its
-- answers come to.
use Rattle.std.specs.Prelude.{List, Some, length, map, true, ℕ, ◌+◌, ◌≡◌, ◌≢◌}
use Rattle.nam_calls.specs.Memory.{memory}
use Rattle.nam_calls.specs.declared.lock.LockPoint.{LockPoint}
use Rattle.nam_calls.specs.declared.lock.LockPoint.TheVariants.{GiveBack, Peek, Seize}
use Rattle.nam_catalog.specs.Fits.{FitsLimits}
use Rattle.nam_catalog.specs.declared.shape.Shape.{Shape}
use Rattle.nam_ghost.specs.Cells.{IsElsewhere}
use Rattle.nam_ghost.specs.Chains.{IsNew}
use Rattle.nam_ghost.specs.Ghost.{Ghost, ghost_step, opening_ghost}
use Rattle.nam_ghost.specs.Holders.{record_row}
use Rattle.nam_ghost.specs.Keys.{KeysOk}
use Rattle.nam_ghost.specs.Locks.{Lists, LocksOk}
use Rattle.nam_ghost.specs.Moments.{observer_of}
use Rattle.nam_ghost.specs.Slots.{RowNext}
use Rattle.nam_ghost.specs.Versions.{Chain}
use Rattle.nam_header.specs.Flag.{holder_named}
use Rattle.nam_header.specs.Header.{header_of}
use Rattle.nam_header.specs.Stamp.{is_locked}
use Rattle.nam_layout.specs.Address.{IsRow}
use Rattle.nam_layout.specs.Place.{place_at}
use Rattle.nam_layout.specs.Rows.{width_at}
use Rattle.nam_protocol.specs.Client.{client_after}
use Rattle.nam_protocol.specs.declared.client.CallPoint.TheVariants.{InTxn}
use Rattle.nam_protocol.specs.declared.client.ClientState.{ClientState}
use Rattle.nam_protocol.specs.declared.client.Open.{Open}
use Rattle.nam_protocol.specs.declared.txn.CommitPoint.{CommitPoint}
use Rattle.nam_protocol.specs.declared.txn.CommitPoint.TheVariants.{Locking}
use Rattle.nam_protocol.specs.declared.txn.TxnAnswer.{TxnAnswer}
use Rattle.nam_protocol.specs.declared.txn.TxnPoint.TheVariants.{Committing}
use Rattle.nam_refused.specs.Refused.{IsFound, IsNewer, RefusedOk}
use Rattle.nam_store.specs.Base.{BaseOk}
use Rattle.nam_store.specs.Everyone.{Someone}
use Rattle.nam_store.specs.Opening.{AreLoaded, opening_store}
use Rattle.nam_store.specs.Store.{StepsTo, Store, client_at, found_word}
use Rattle.nam_verbs.specs.declared.now.Now.TheVariants.{At, Over}
use Rattle.si_model.specs.declared.log.Lock.{Lock}
use Rattle.si_model.specs.declared.row.Row.{Row}
use Rattle.nam_protocol.specs.declared.client.Answer.TheVariants as client_answer
use Rattle.nam_protocol.specs.declared.txn.TxnAnswer.TheVariants as txn_answer

-- 1. The claims

-- What the law of words says before a step, and of the step: each row goes on as it may, and a version that is
-- installed is in no snapshot that was taken.
pub record RestsOn (shape : Shape) (before after : Store) (goes : StepsTo shape before after) (ghost : Ghost)
    : Type 0 where
  pub base : BaseOk shape before
  pub locks : LocksOk shape before ghost.chains
  pub rows : (row : ℕ) → IsRow shape row → let later = ghost_step shape before after goes ghost in
      RowNext (place_at shape row)
      (IsElsewhere shape ghost.chains ghost.rings (memory shape before.words) ghost.cells row)
      (IsNew (width_at shape.tables row) (map observer_of before.clients))
      (ghost.chains row) (ghost.rings row) (later.chains row) (later.rings row)

abbrev pub OpensLaw : Type 0
OpensLaw = (shape : Shape) → FitsLimits shape → (rows : List Row) → AreLoaded shape rows
    → RefusedOk shape (opening_store shape rows) (opening_ghost shape rows).chains

abbrev pub KeepsLaw : Type 0
KeepsLaw = (shape : Shape) (before after : Store) (goes : StepsTo shape before after) (ghost : Ghost)
    → RestsOn shape before after goes ghost → RefusedOk shape before ghost.chains
    → RefusedOk shape after (ghost_step shape before after goes ghost).chains

-- 2. Answers, at the word that ends the commit

-- the word that the client's commit takes next ends it with this answer
pub record EndsWith (shape : Shape) (store : Store) (nth : ℕ) (client : ClientState) (attempt : Open)
    (answer : TxnAnswer) : Type 0 where
  pub here : client_at store nth ≡ Some client
  pub at : CommitPoint
  pub runs : client.call ≡ Some (At (InTxn (Committing at)))
  pub opened : client.txn ≡ Some attempt
  pub answers : (client_after shape client (found_word shape store client)).call
      ≡ Some (Over (client_answer.Txn answer))

-- the record's row has a version that the commit's snapshot doesn't see
abbrev pub NewerLaw : Type 0
NewerLaw = (shape : Shape) (store : Store) (chains : ℕ → Chain) → BaseOk shape store → LocksOk shape store chains
    → RefusedOk shape store chains → (nth : ℕ) (client : ClientState) (attempt : Open) (lock : Lock)
    → EndsWith shape store nth client attempt (txn_answer.Newer lock) → IsNewer shape chains attempt.state lock

-- the record's row has the version whose stamp the answer says
abbrev pub FoundLaw : Type 0
FoundLaw = (shape : Shape) (store : Store) (chains : ℕ → Chain) → BaseOk shape store → LocksOk shape store chains
    → RefusedOk shape store chains → (nth : ℕ) (client : ClientState) (attempt : Open) (lock : Lock)
    → EndsWith shape store nth client attempt (txn_answer.Locked lock) → IsFound shape chains attempt.state lock

-- 3. Whose lock it is, at the word that finds it

-- where the commit looks at the header of the next record to be locked
abbrev pub LooksAt : LockPoint → Type 0
LooksAt Peek = Unit {0}
LooksAt (Seize header) = Unit {0}
LooksAt (GiveBack given found) = ⊥

pub record MeetsLock (shape : Shape) (store : Store) (nth : ℕ) (client : ClientState) (attempt : Open)
    : Type 0 where
  pub here : client_at store nth ≡ Some client
  pub at : LockPoint
  pub looks : LooksAt at
  pub runs : client.call ≡ Some (At (InTxn (Committing (Locking at))))
  pub opened : client.txn ≡ Some attempt
  pub locked : is_locked shape.form (found_word shape store client) ≡ true

-- Another client lists the lock, and the header names that client's worker in form Held: the commit itself has locked
-- other records alone, since each key has its own row.
abbrev pub LockedLaw : Type 0
LockedLaw = (shape : Shape) (store : Store) (chains : ℕ → Chain) → BaseOk shape store → LocksOk shape store chains
    → KeysOk shape store chains → (nth : ℕ) (client : ClientState) (attempt : Open)
    → MeetsLock shape store nth client attempt
    → let row = record_row attempt.state (length attempt.state.held) in
    ((chains row).holder ≢ nth + 1)
    × Someone (λ other one. (other ≢ nth) × Lists row one
    × ((header_of shape.form (found_word shape store client)).holder ≡ holder_named shape.form (other + 1)))
    store.clients
