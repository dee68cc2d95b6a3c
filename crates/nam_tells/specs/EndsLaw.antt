-- What a step tells of the attempt that is open: it stays open, or is told, exactly once. Each step tells at most one
-- event.
use Rattle.std.specs.Prelude.{List, None, Option, Some, [], length, ℕ, ◌≤◌, ◌++◌, ◌∷◌, ◌≡◌, ◌⊎◌}
use Rattle.si_model.specs.Tells.{Tell}
use Rattle.si_model.specs.declared.log.Attempt.{Attempt}
use Rattle.si_model.specs.declared.log.Event.TheVariants.{Tried}
use Rattle.si_model.specs.declared.log.Lock.{Lock}
use Rattle.si_model.specs.declared.log.Outcome.TheVariants as outcome
use Rattle.si_model.specs.declared.row.Item.{Item}
use Rattle.nam_verbs.specs.declared.now.Now.{Now}
use Rattle.nam_catalog.specs.declared.shape.Shape.{Shape}
use Rattle.nam_protocol.specs.Client.{client_after, client_ask}
use Rattle.nam_protocol.specs.Own.{MayAsk, Rests}
use Rattle.nam_protocol.specs.declared.client.Answer.{Answer}
use Rattle.nam_protocol.specs.declared.client.Call.{Call}
use Rattle.nam_protocol.specs.declared.client.CallPoint.{CallPoint}
use Rattle.nam_protocol.specs.declared.client.ClientState.{ClientState}
use Rattle.nam_protocol.specs.declared.client.Open.{Open}
use Rattle.nam_store.specs.Everyone.{Everyone}
use Rattle.nam_store.specs.Store.{StepsTo, Store}
use Rattle.nam_tells.specs.Steps.{asking, call_ops, ended, told_abandoned, told_after, told_asked}
use Rattle.nam_tells.specs.Steps.{tells_next}
use Rattle.nam_tells.specs.Teller.{IsBlank, IsTold, Teller, attempt_tell, end_of}

-- 1. The attempt, before the step and after it

module _ (before now : Teller) (attempt : Open) where
  -- it is open still, on its snapshot; it may have read rows, and taken locks
  pub record StaysOpen (later : Open) : Type 0 where
    pub front : now.front ≡ before.front
    pub ops : now.ops ≡ before.ops
    pub txn : later.txn ≡ attempt.txn
    pub nth : later.nth ≡ attempt.nth
    pub prefix : later.prefix ≡ attempt.prefix
    pub seen : later.state.seen ≡ attempt.state.seen
    pub items : List Item
    pub reads : now.reads ≡ before.reads ++ items
    pub taken : List Lock
    pub locks : now.locks ≡ before.locks ++ taken

  -- it has ended, with an answer: one more event is told, this attempt with all that was told of it; nothing is left
  pub record HasEnded (call : Option (Now CallPoint Answer)) : Type 0 where
    pub answered : Rests call
    pub tell : Tell
    pub front : now.front ≡ before.front ++ tell ∷ []
    pub left : IsBlank now
    pub how : Attempt
    pub event : tell.event ≡ Tried how
    pub txn : how.txn ≡ attempt.txn
    pub nth : how.nth ≡ attempt.nth
    pub prefix : how.prefix ≡ Some attempt.prefix
    pub ops : tell.ops ≡ before.ops
    pub snap : tell.snap ≡ attempt.state.seen
    pub items : List Item
    pub reads : tell.reads ≡ before.reads ++ items
    pub taken : List Lock
    pub locks : tell.locks ≡ before.locks ++ taken

  -- by the transaction and the call after the step
  abbrev pub AttemptGoes : Option Open → Option (Now CallPoint Answer) → Type 0
  AttemptGoes None call = HasEnded call
  AttemptGoes (Some later) call = StaysOpen later

-- one more event is told, which owns nothing but, where it has one, a snapshot
pub record TellsOne (before now : Teller) : Type 0 where
  pub tell : Tell
  pub front : now.front ≡ before.front ++ tell ∷ []
  pub left : IsBlank now
  pub ops : tell.ops ≡ []
  pub reads : tell.reads ≡ []
  pub locks : tell.locks ≡ []
  pub writes : tell.writes ≡ []

-- 2. The laws

-- a word is taken while an attempt is open
abbrev pub WordLaw : Type 0
WordLaw = (shape : Shape) (client : ClientState) (teller : Teller) (attempt : Open) (found : ℕ) → IsTold client teller
    → client.txn ≡ Some attempt
    → let after = client_after shape client found in
    AttemptGoes teller (told_after shape client found teller) attempt after.txn after.call

-- a call is asked while one is open: its operation is among those of the attempt, and some calls end it at once
abbrev pub AskLaw : Type 0
AskLaw = (shape : Shape) (client : ClientState) (teller : Teller) (attempt : Open) (asked : Call)
    → MayAsk shape client asked → client.txn ≡ Some attempt
    → let after = client_ask shape client asked in
    AttemptGoes (asking teller (call_ops asked)) (told_asked shape client asked teller) attempt after.txn after.call

-- it is given up: it is told as left
abbrev pub LeaveLaw : Type 0
LeaveLaw = (client : ClientState) (teller : Teller) (attempt : Open) → client.txn ≡ Some attempt
    → told_abandoned client teller ≡ ended teller (attempt_tell teller attempt outcome.Left [])

-- none is open: a word tells nothing, or one event; a call that is asked tells nothing
abbrev pub IdleLaw : Type 0
IdleLaw = (shape : Shape) (client : ClientState) (teller : Teller) → IsTold client teller → client.txn ≡ None
    → ((found : ℕ) → let now = told_after shape client found teller in (now ≡ teller) ⊎ TellsOne teller now)
    × ((asked : Call) → MayAsk shape client asked → told_asked shape client asked teller ≡ teller)

-- none is open, no call runs, and no medic has finished the client: nothing is still to be told
abbrev pub RestLaw : Type 0
RestLaw = (shape : Shape) (client : ClientState) (teller : Teller) → client.txn ≡ None → Rests client.call
    → client.medic ≡ None → end_of shape teller client ≡ []

-- 3. A store

-- what was told stays, and at most one event is told beside
pub record Grows (before now : Teller) : Type 0 where
  pub more : List Tell
  pub few : length more ≤ 1
  pub front : now.front ≡ before.front ++ more

-- so it is of each client, whatever the step is
abbrev pub GrowsLaw : Type 0
GrowsLaw = (shape : Shape) (before after : Store) (goes : StepsTo shape before after) (tellers : ℕ → Teller)
    → Everyone (λ nth client. IsTold client (tellers nth)) before.clients
    → (nth : ℕ) → Grows (tellers nth) (tells_next shape before after goes tellers nth)
