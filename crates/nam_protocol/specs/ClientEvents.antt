-- What a client lists: each call at most one event, with its answer, and a client that is closed at most two.
use Rattle.std.specs.Prelude.{◌≡◌, ℕ, ◌+◌, ◌≤◌, Bool, true, if◌then◌else◌, List, length, Option, Some, None, is_some}
use Rattle.std.specs.Prelude.{IsSome}
use Rattle.si_model.specs.declared.log.Event.{Event}
use Rattle.si_model.specs.declared.log.Finish.{Finish}
use Rattle.nam_verbs.specs.declared.now.Now.{Now}
use Rattle.nam_verbs.specs.declared.now.Now.TheVariants.{At, Over}
use Rattle.nam_catalog.specs.declared.shape.Shape.{Shape}
use Rattle.nam_protocol.specs.declared.client.Call.{Call}
use Rattle.nam_protocol.specs.declared.client.Call.TheVariants.{Txn, Scan}
use Rattle.nam_protocol.specs.declared.client.Answer.{Answer}
use Rattle.nam_protocol.specs.declared.client.CallPoint.{CallPoint}
use Rattle.nam_protocol.specs.declared.client.CallPoint.TheVariants.{InTxn}
use Rattle.nam_protocol.specs.declared.client.Open.{Open}
use Rattle.nam_protocol.specs.declared.client.ClientState.{ClientState}
use Rattle.nam_protocol.specs.Client.{client_ask, client_after}
use Rattle.nam_protocol.specs.CutClient.{finish_of, into_log}
use Rattle.nam_protocol.specs.AttemptLaw.{has_passed}
use Rattle.nam_protocol.specs.ClientFits.{CallPointFits}
use Rattle.nam_protocol.specs.declared.client.Answer.TheVariants as answer

-- 1. What an answer lists

-- an attempt is listed when it ends, and a tidying or a collection with its answer
abbrev pub listed : Answer → ℕ
listed (answer.Begun prefix) = 0
listed (answer.Txn end) = if has_passed end then 0 else 1
listed (answer.Scanned items) = 0
listed _ = 1

-- is a transaction open after the answer, where one was before or not
abbrev pub is_open_after : Bool → Answer → Bool
is_open_after was (answer.Begun prefix) = true
is_open_after was (answer.Txn end) = has_passed end
is_open_after was (answer.Scanned items) = true
is_open_after was _ = was

-- a call runs or was answered: of so many events the client has listed no more but with the answer
abbrev pub NowLists : ℕ → Bool → List Event → Option Open → Option (Now CallPoint Answer) → Type 0
NowLists n was events txn None = ⊥
NowLists n was events txn (Some (At at)) = (length events ≤ n) × (is_some txn ≡ was)
NowLists n was events txn (Some (Over end)) =
    (length events ≤ n + listed end) × (is_some txn ≡ is_open_after was end)

abbrev pub ClientLists : ℕ → Bool → ClientState → Type 0
ClientLists n was client = NowLists n was client.log.events client.txn client.call

-- a call of a transaction, or a scan, is asked only where one is open
abbrev pub NeedsOpen : ClientState → Call → Type 0
NeedsOpen client (Txn call) = IsSome client.txn
NeedsOpen client (Scan table low high) = IsSome client.txn
NeedsOpen client call = Unit {0}

-- 2. A client is closed

abbrev pub event_if : Bool → ℕ
event_if b = if b then 1 else 0

-- a call that was cut in its middle lists an event, and one that has published one more; so does an open transaction.
-- How the medic has finished the client is an event too, and a tail that was finished is none
abbrev pub closing : Option Finish → Option Open → Option (Now CallPoint Answer) → ℕ
closing finish txn (Some (At (InTxn at))) = 2
closing finish txn (Some (At place)) = 1 + event_if (is_some finish)
closing finish txn _ = event_if (is_some txn) + event_if (is_some finish)

-- 3. By a word that is taken, by a call that is asked, and by closing the client

pub record ClientEvents (shape : Shape) : Type 0 where
  pub word : (client : ClientState) (place : CallPoint) (found : ℕ) → client.call ≡ Some (At place)
      → CallPointFits shape client.txn place
      → ClientLists (length client.log.events) (is_some client.txn) (client_after shape client found)
  pub asked : (client : ClientState) (call : Call) → NeedsOpen client call
      → ClientLists (length client.log.events) (is_some client.txn) (client_ask shape client call)
  pub closed : (client : ClientState)
      → length (into_log shape client).events ≤ length client.log.events
      + closing (finish_of client.medic) client.txn client.call

abbrev pub ClientEventsLaw : Type 0
ClientEventsLaw = (shape : Shape) → ClientEvents shape
