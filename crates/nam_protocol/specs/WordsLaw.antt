-- Words below 2^64 stay below 2^64: what is found leads to such words, and no other word is written.
use Rattle.si_model.specs.declared.row.Row.{Row}
use Rattle.std.specs.List.{AllByRecursion}
use Rattle.std.specs.Prelude.{List, None, Option, Some, ℕ, ◌≡◌, ◌≤◌}
use Rattle.si_model.specs.declared.op.Policy.{Policy}
use Rattle.nam_verbs.specs.VerbAt.{VerbAt}
use Rattle.nam_catalog.specs.declared.shape.Shape.{Shape}
use Rattle.nam_catalog.specs.Fits.{FitsLimits}
use Rattle.nam_catalog.specs.Greatest.{greatest_number}
use Rattle.nam_layout.specs.declared.field.Field.{Field}
use Rattle.nam_calls.specs.Holds.{IsWord, WritesWord}
use Rattle.nam_protocol.specs.declared.client.Call.{Call}
use Rattle.nam_protocol.specs.declared.client.ClientState.{ClientState}
use Rattle.nam_protocol.specs.declared.session.Job.{Job}
use Rattle.nam_protocol.specs.declared.session.SessionState.{SessionState}
use Rattle.nam_protocol.specs.Client.{client_abandon, client_after, client_ask, client_verb}
use Rattle.nam_protocol.specs.ClientFits.{ClientFits}
use Rattle.nam_protocol.specs.CutClient.{client_cut}
use Rattle.nam_protocol.specs.HoldsWords.{CallHolds, HoldsWords, JobHolds, SessionHolds, TreatmentHolds, WorldHolds}
use Rattle.nam_protocol.specs.HoldsWords.{RowHolds}
use Rattle.nam_protocol.specs.Session.{new_session, session_after, session_cut}
use Rattle.nam_protocol.specs.SessionFits.{MedicStands}
use Rattle.nam_protocol.specs.Telling.{new_client}
use Rattle.nam_protocol.specs.World.{Step, Cut, Turn, World, after_turn, session_of, new_world}

-- 1. A client

-- a new client holds no other words, and what it is asked and finds brings it no others
pub record ClientKeepsWords (shape : Shape) : Type 0 where
  pub new : (worker start : ℕ) → start ≤ greatest_number shape.form → HoldsWords shape (new_client worker start)
  pub asked : (client : ClientState) (call : Call) → HoldsWords shape client → CallHolds call
      → HoldsWords shape (client_ask shape client call)
  pub word : (client : ClientState) (found : ℕ) → HoldsWords shape client → IsWord found
      → HoldsWords shape (client_after shape client found)
  pub abandoned : (client : ClientState) → HoldsWords shape client → HoldsWords shape (client_abandon client)
  pub cut : (client : ClientState) → HoldsWords shape client → HoldsWords shape (client_cut client)

abbrev pub ClientKeepsLaw : Type 0
ClientKeepsLaw = (shape : Shape) → ClientKeepsWords shape

-- its verb writes a word below 2^64, or none
abbrev pub ClientWritesLaw : Type 0
ClientWritesLaw = (shape : Shape) → FitsLimits shape → (client : ClientState) (verb : VerbAt Field)
    → ClientFits shape client → HoldsWords shape client → client_verb shape client ≡ Some verb → WritesWord verb

-- 2. A session

pub record SessionKeepsWords (shape : Shape) : Type 0 where
  pub new : (client : ClientState) (jobs : List Job) (policy : Policy) → HoldsWords shape client
      → TreatmentHolds client.medic → AllByRecursion JobHolds jobs
      → SessionHolds shape (new_session shape client jobs policy)
  pub word : (session : SessionState) (found : ℕ) → SessionHolds shape session → IsWord found
      → SessionHolds shape (session_after shape session found)
  pub cut : (session : SessionState) → SessionHolds shape session → SessionHolds shape (session_cut shape.form session)

abbrev pub SessionKeepsLaw : Type 0
SessionKeepsLaw = (shape : Shape) → SessionKeepsWords shape

-- 3. A world

-- the world in which nothing was done yet
abbrev pub NewWorldLaw : Type 0
NewWorldLaw = (shape : Shape) → FitsLimits shape → (rows : List Row) (policy : Policy) (jobs : List (List Job))
    → AllByRecursion RowHolds rows → AllByRecursion (AllByRecursion JobHolds) jobs
    → WorldHolds shape (new_world shape rows policy jobs)

-- the worker's client, where there is one, fits, and its medic
abbrev pub WorkerFits : Shape → Option SessionState → Type 0
WorkerFits shape None = Unit {0}
WorkerFits shape (Some session) = ClientFits shape session.client × MedicStands shape session.client.medic

abbrev pub TurnFits : Shape → World → Turn → Type 0
TurnFits shape world (Step worker) = WorkerFits shape (session_of world worker)
TurnFits shape world (Cut worker) = Unit {0}

-- whatever turn comes, all words stay below 2^64
abbrev pub WorldKeepsLaw : Type 0
WorldKeepsLaw = (shape : Shape) → FitsLimits shape → (world : World) (turn : Turn) → TurnFits shape world turn
    → WorldHolds shape world → WorldHolds shape (after_turn shape world turn)
