-- What a client's log tells were it taken now, and that each step makes so much of that.
use Rattle.std.specs.List.{flat_map}
use Rattle.std.specs.Prelude.{List, Some, [], ℕ, ◌++◌, ◌≡◌}
use Rattle.si_model.specs.Tells.{ListsTells, Tell, own_ops, tells_with}
use Rattle.si_model.specs.declared.log.Finish.{Finish}
use Rattle.si_model.specs.declared.row.Row.{Row}
use Rattle.nam_verbs.specs.declared.now.Now.{Now}
use Rattle.nam_catalog.specs.declared.shape.Shape.{Shape}
use Rattle.nam_calls.specs.declared.medic.MedicPoint.{MedicPoint}
use Rattle.nam_protocol.specs.Carries.{Carries}
use Rattle.nam_protocol.specs.Client.{client_abandon, client_after, client_ask}
use Rattle.nam_protocol.specs.CutClient.{client_cut, client_treated, into_log}
use Rattle.nam_protocol.specs.Own.{MayAsk, Rests}
use Rattle.nam_protocol.specs.Telling.{locks_from, new_client}
use Rattle.nam_protocol.specs.declared.client.Call.{Call}
use Rattle.nam_protocol.specs.declared.client.ClientState.{ClientState}
use Rattle.nam_protocol.specs.declared.client.Open.{Open}
use Rattle.nam_store.specs.Everyone.{Everyone}
use Rattle.nam_store.specs.Reached.{Reached}
use Rattle.nam_store.specs.Store.{Store}
use Rattle.nam_tells.specs.Steps.{no_tells, tells_next, told_abandoned, told_after, told_asked}
use Rattle.nam_tells.specs.Teller.{IsTold, Teller, end_of, new_teller}

-- 1. The log, were it taken now

-- all that would be told
abbrev pub tells_now : Shape → Teller → ClientState → List Tell
tells_now shape teller client = teller.front ++ end_of shape teller client

-- the log lists just that: whether a call runs or not, and whether the client is cut and treated or not
abbrev pub ListsLaw : Type 0
ListsLaw = (shape : Shape) (client : ClientState) (teller : Teller) → IsTold client teller
    → ListsTells (into_log shape client) (tells_now shape teller client) [] [] [] []

-- so it tells that, over the operations of its attempts, were the client cut now
abbrev pub TellsLaw : Type 0
TellsLaw = (shape : Shape) (client : ClientState) (teller : Teller) → IsTold client teller
    → let ts = tells_now shape teller (client_cut client) in
    tells_with (flat_map own_ops ts) (into_log shape (client_cut client)) ≡ ts

-- the locks that the open attempt has told are those that it holds
abbrev pub HeldLaw : Type 0
HeldLaw = (client : ClientState) (teller : Teller) (attempt : Open) → IsTold client teller → Carries client
    → client.txn ≡ Some attempt → teller.locks ≡ locks_from attempt.state 0 attempt.state.held

-- 2. Each step of a client

-- a new client has told nothing; then each word and each call that may be asked keeps it, and so does a transaction
-- that is given up; a client that is stopped or treated tells nothing by that
pub record TellsOn (shape : Shape) : Type 0 where
  pub new : (worker start : ℕ) → IsTold (new_client worker start) new_teller
  pub word : (client : ClientState) (teller : Teller) (found : ℕ) → IsTold client teller
      → IsTold (client_after shape client found) (told_after shape client found teller)
  pub asked : (client : ClientState) (teller : Teller) (asked : Call) → MayAsk shape client asked
      → IsTold client teller → IsTold (client_ask shape client asked) (told_asked shape client asked teller)
  pub abandoned : (client : ClientState) (teller : Teller) → Rests client.call → IsTold client teller
      → IsTold (client_abandon client) (told_abandoned client teller)
  pub cut : (client : ClientState) (teller : Teller) → IsTold client teller → IsTold (client_cut client) teller
  pub treated : (client : ClientState) (teller : Teller) (medic : Now MedicPoint Finish) → IsTold client teller
      → IsTold (client_treated client medic) teller

abbrev pub StepsLaw : Type 0
StepsLaw = (shape : Shape) → TellsOn shape

-- so each client of each store that comes about has its teller
abbrev pub StoresLaw : Type 0
StoresLaw = (shape : Shape) (rows : List Row) (store : Store) (tellers : ℕ → Teller)
    → Reached shape rows no_tells (tells_next shape) store tellers
    → Everyone (λ nth client. IsTold client (tellers nth)) store.clients
