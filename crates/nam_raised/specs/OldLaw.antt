-- Why an attempt is too old: at that answer another client has collected by the entry of the horizon that was found, or
-- does so now.
use Rattle.nam_calls.specs.Memory.{memory}
use Rattle.nam_catalog.specs.declared.shape.Shape.{Shape}
use Rattle.nam_ghost.specs.Cells.{IsHorizonBehind}
use Rattle.nam_protocol.specs.Client.{client_after}
use Rattle.nam_protocol.specs.CutClient.{client_cut}
use Rattle.nam_protocol.specs.declared.client.CallPoint.{CallPoint}
use Rattle.nam_protocol.specs.declared.client.ClientState.{ClientState}
use Rattle.nam_protocol.specs.declared.client.Open.{Open}
use Rattle.nam_raised.specs.Raised.{RaisedOk, tells_entry}
use Rattle.nam_raised.specs.RaisedLaw.{RestsOn}
use Rattle.nam_store.specs.Everyone.{Everyone, Someone}
use Rattle.nam_store.specs.Store.{Store, client_at, found_word}
use Rattle.nam_tells.specs.Teller.{Teller}
use Rattle.nam_tells.specs.TellsLaw.{tells_now}
use Rattle.nam_verbs.specs.declared.now.Now.TheVariants.{At, Over}
use Rattle.si_model.specs.Causes.{OldCause}
use Rattle.si_model.specs.Setting.{Setting}
use Rattle.si_model.specs.Tells.{Tell}
use Rattle.si_model.specs.View.{View}
use Rattle.std.specs.Prelude.{IsTrue, List, Some, slice_get, slice_index, ℕ, ◌+◌, ◌-◌, ◌<◌, ◌≡◌, ◌≢◌, ◌≤◌}
use Rattle.nam_protocol.specs.declared.client.Answer.TheVariants as client_answer
use Rattle.nam_protocol.specs.declared.txn.TxnAnswer.TheVariants as txn_answer

-- the word that the client takes next ends its open attempt with the answer TooOld, in an operation or in a scan
pub record EndsTooOld (shape : Shape) (store : Store) (nth : ℕ) (client : ClientState) (attempt : Open)
    (worker entry horizon : ℕ) : Type 0 where
  pub here : client_at store nth ≡ Some client
  pub opened : client.txn ≡ Some attempt
  pub at : CallPoint
  pub runs : client.call ≡ Some (At at)
  pub answers : (client_after shape client (found_word shape store client)).call
      ≡ Some (Over (client_answer.Txn (txn_answer.TooOld worker entry horizon)))

-- The answer names another worker, the snapshot's entry for it, and an entry of the horizon above that; and another
-- client than the nth tells a collection by just that entry, were its log taken now.
pub record IsOldBy (shape : Shape) (store : Store) (tellers : ℕ → Teller) (nth : ℕ) (seen : List ℕ)
    (worker entry horizon : ℕ) : Type 0 where
  pub least : 1 ≤ worker
  pub most : worker ≤ shape.workers
  pub other : worker ≢ nth + 1
  pub entry_is : slice_index seen (worker - 1) ≡ entry
  pub above : entry < horizon
  pub collected : Someone (λ k client. (k ≢ nth)
      × IsTrue (tells_entry worker horizon (tells_now shape (tellers k) client))) store.clients

-- the horizon is behind the vector, as is claimed of cells
abbrev pub OldLaw : Type 0
OldLaw = (shape : Shape) (store : Store) (tellers : ℕ → Teller) → RestsOn shape store tellers
    → IsHorizonBehind shape (memory shape store.words) → RaisedOk shape store tellers → (nth : ℕ)
    (client : ClientState) (attempt : Open) (worker entry horizon : ℕ)
    → EndsTooOld shape store nth client attempt worker entry horizon
    → IsOldBy shape store tellers nth attempt.state.seen worker entry horizon

-- So it has its cause, in the model's words: over the logs that the clients would give, were each of them stopped now,
-- in any view that shows the attempt's snapshot of its event.
abbrev pub CauseLaw : Type 0
CauseLaw = (shape : Shape) (store : Store) (tellers : ℕ → Teller) (nth : ℕ) (seen : List ℕ)
    (worker entry horizon : ℕ) → IsOldBy shape store tellers nth seen worker entry horizon
    → (tss : List (List Tell))
    → Everyone (λ k client. slice_get tss k ≡ Some (tells_now shape (tellers k) (client_cut client))) store.clients
    → (s : Setting) (v : View) (done : List Tell) (t : Tell) → v.entries t ≡ seen
    → OldCause s v tss (nth + 1) done t worker entry horizon
