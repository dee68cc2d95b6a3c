-- A world's turns are steps of its store: of the words, and of its sessions' clients.
use Rattle.std.specs.List.{AllByRecursion}
use Rattle.std.specs.Prelude.{◌≡◌, ◌≤◌, false, List, length, map, None}
use Rattle.si_model.specs.declared.op.Policy.{Policy}
use Rattle.si_model.specs.declared.row.Row.{Row}
use Rattle.nam_catalog.specs.declared.shape.Shape.{Shape}
use Rattle.nam_catalog.specs.Fits.{FitsLimits}
use Rattle.nam_protocol.specs.declared.client.ClientState.{ClientState}
use Rattle.nam_protocol.specs.declared.session.Job.{Job}
use Rattle.nam_protocol.specs.declared.session.SessionState.{SessionState}
use Rattle.nam_protocol.specs.Commit.{has_intents}
use Rattle.nam_protocol.specs.HoldsWords.{JobHolds}
use Rattle.nam_protocol.specs.SessionFits.{JobFits, SessionFits}
use Rattle.nam_protocol.specs.SessionKeeps.{OpensAsked}
use Rattle.nam_protocol.specs.World.{Cut, Step, Turn, World, after_turn, new_world}
use Rattle.nam_store.specs.Everyone.{Everyone}
use Rattle.nam_store.specs.Opening.{opening_store}
use Rattle.nam_store.specs.Store.{Store, StepsTo}

-- steps, one after another
module _ (shape : Shape) (first : Store) where
  pub data StepsOn : Store → Type 0 where
    Stays : StepsOn first
    Goes : (before after : Store) (was : StepsOn before) (goes : StepsTo shape before after) → StepsOn after

abbrev pub client_in : SessionState → ClientState
client_in session = session.client

abbrev pub store_of : World → Store
store_of world = record { words = world.words; clients = map client_in world.sessions }

-- the session fits, a transaction is open exactly for its calls, its jobs bring words, and no medic has begun
pub record RunsJobs (shape : Shape) (session : SessionState) : Type 0 where
  pub fits : SessionFits shape session
  pub opens : OpensAsked session
  pub words : AllByRecursion JobHolds session.jobs
  pub untreated : session.client.medic ≡ None

abbrev pub WorldRuns : Shape → World → Type 0
WorldRuns shape world = Everyone (λ nth session. RunsJobs shape session) world.sessions

-- 1. The world in which nothing was done yet: its drivers have asked calls, each until one takes a verb

abbrev pub WorldOpensLaw : Type 0
WorldOpensLaw = (shape : Shape) → FitsLimits shape → (rows : List Row) (policy : Policy) (jobs : List (List Job))
    → 1 ≤ policy.tries → length jobs ≡ shape.workers → AllByRecursion (AllByRecursion (JobFits shape)) jobs
    → AllByRecursion (AllByRecursion JobHolds) jobs
    → let world = new_world shape rows policy jobs in
    StepsOn shape (opening_store shape rows) (store_of world) × WorldRuns shape world

-- 2. A turn: a verb is done, and the driver's calls are asked until one takes a verb; or the session is stopped

-- a medic's verbs are no steps, so in the form that has intents nothing is said of stops
abbrev pub MayTurn : Shape → Turn → Type 0
MayTurn shape (Step worker) = Unit {0}
MayTurn shape (Cut worker) = has_intents shape.form ≡ false

abbrev pub WorldTurnsLaw : Type 0
WorldTurnsLaw = (shape : Shape) → FitsLimits shape → (world : World) (turn : Turn) → MayTurn shape turn
    → WorldRuns shape world → let after = after_turn shape world turn in
    StepsOn shape (store_of world) (store_of after) × WorldRuns shape after
