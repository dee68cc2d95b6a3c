-- What the ends of scans and of refused commits tell.
use Rattle.std.specs.Prelude.{List, Some, length, ℕ, ◌+◌, ◌≡◌, ◌≢◌}
use Rattle.nam_catalog.specs.declared.shape.Shape.{Shape}
use Rattle.nam_ghost.specs.Ghost.{Ghost}
use Rattle.nam_ghost.specs.Holders.{record_row}
use Rattle.nam_ghost.specs.Locks.{Lists}
use Rattle.nam_header.specs.Flag.{holder_named}
use Rattle.nam_header.specs.Header.{header_of}
use Rattle.nam_law.specs.WordsLaw.{LawOk}
use Rattle.nam_protocol.specs.Log.{with_reads}
use Rattle.nam_protocol.specs.declared.client.ClientState.{ClientState}
use Rattle.nam_protocol.specs.declared.client.Open.{Open}
use Rattle.nam_refused.specs.Refused.{IsNewer}
use Rattle.nam_refused.specs.RefusedLaw.{EndsWith, MeetsLock}
use Rattle.nam_scans.specs.ScannedLaw.{EndsScan, ListsRange, client_then}
use Rattle.nam_store.specs.Everyone.{Someone}
use Rattle.nam_store.specs.Store.{Store, client_at, found_word}
use Rattle.si_model.specs.declared.log.Lock.{Lock}
use Rattle.si_model.specs.declared.row.Item.{Item}
use Rattle.nam_protocol.specs.declared.txn.TxnAnswer.TheVariants as txn_answer

-- A scan lists each key of its range at which its transaction finds a value, once, with that value, and nothing else:
-- it passes no key that its snapshot sees.
abbrev pub ScanLaw : Type 0
ScanLaw = (shape : Shape) (store : Store) (ghost : Ghost) → LawOk shape store ghost → (nth : ℕ) (client : ClientState)
    → client_at store nth ≡ Some client → (attempt : Open) (table low high count : ℕ)
    → EndsScan shape store client attempt table low high count
    → (items : List Item) × ((client_then shape store client).log ≡ with_reads client.log items)
    × (length items ≡ count) × ListsRange shape store ghost.chains attempt.state table low high items

-- at the answer Newer a record of the commit has a version that the commit's snapshot doesn't see
abbrev pub NewerLaw : Type 0
NewerLaw = (shape : Shape) (store : Store) (ghost : Ghost) → LawOk shape store ghost → (nth : ℕ) (client : ClientState)
    (attempt : Open) (lock : Lock) → EndsWith shape store nth client attempt (txn_answer.Newer lock)
    → IsNewer shape ghost.chains attempt.state lock

-- a lock that stands in a commit's way is another client's, which lists it, and which the header names in form Held
abbrev pub LockedLaw : Type 0
LockedLaw = (shape : Shape) (store : Store) (ghost : Ghost) → LawOk shape store ghost → (nth : ℕ) (client : ClientState)
    (attempt : Open) → MeetsLock shape store nth client attempt
    → let row = record_row attempt.state (length attempt.state.held) in
    ((ghost.chains row).holder ≢ nth + 1)
    × Someone (λ other one. (other ≢ nth) × Lists row one
    × ((header_of shape.form (found_word shape store client)).holder ≡ holder_named shape.form (other + 1)))
    store.clients
