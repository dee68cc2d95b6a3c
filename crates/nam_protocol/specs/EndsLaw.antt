-- Sessions settle, the number of their verbs to come falls with each turn, and so each simulated run reaches its end.
use Rattle.std.specs.Prelude.{◌≡◌, ℕ, ◌+◌, ◌<◌, ◌≤◌, false, IsSome, List, [], ◌∷◌, Some, None}
use Rattle.std.specs.List.{AllByRecursion}
use Rattle.si_model.specs.declared.op.Policy.{Policy}
use Rattle.nam_verbs.specs.VerbAt.{VerbAt}
use Rattle.nam_line.specs.Plan.{Line}
use Rattle.nam_catalog.specs.declared.shape.Shape.{Shape}
use Rattle.nam_catalog.specs.Fits.{FitsLimits}
use Rattle.nam_catalog.specs.Greatest.{greatest_number}
use Rattle.nam_layout.specs.declared.field.Field.{Field}
use Rattle.nam_calls.specs.Fits.{IsOf}
use Rattle.nam_protocol.specs.declared.session.Job.{Job}
use Rattle.nam_protocol.specs.declared.session.SessionState.{SessionState}
use Rattle.nam_protocol.specs.Telling.{new_client}
use Rattle.nam_protocol.specs.Commit.{has_intents}
use Rattle.nam_protocol.specs.Session.{new_session, session_verb, session_after, session_cut}
use Rattle.nam_protocol.specs.World.{World, Turn, Step, Cut, session_of, is_cut, verb_in, after_turn}
use Rattle.nam_protocol.specs.Schedule.{Run, Owned, Scenario, Simulated, all_jobs, run_to_end}
use Rattle.nam_protocol.specs.Left.{jobs_bound, medic_room, session_left}
use Rattle.nam_protocol.specs.SessionFits.{OpsFit, JobFits, SessionFits, IsSettled}

-- 1. A session

-- it is one that fits, with at most n verbs to come
abbrev pub FitsWithin : Shape → ℕ → SessionState → Type 0
FitsWithin shape n session = SessionFits shape session × (session_left shape session ≤ n)

abbrev pub SettlesLaw : Type 0
SettlesLaw = (shape : Shape) (session : SessionState) → SessionFits shape session → IsSettled shape session

abbrev pub NewSessionLaw : Type 0
NewSessionLaw =
    (shape : Shape) → FitsLimits shape → (worker start : ℕ) (jobs : List Job) (policy : Policy)
    → IsOf shape.workers worker → start ≤ greatest_number shape.form → AllByRecursion (JobFits shape) jobs
    → 1 ≤ policy.tries
    → FitsWithin shape (jobs_bound shape policy jobs + medic_room shape.form)
    (new_session shape (new_client worker start) jobs policy)

abbrev pub SessionWordLaw : Type 0
SessionWordLaw =
    (shape : Shape) → FitsLimits shape → (session : SessionState) (verb : VerbAt Field) (found : ℕ)
    → SessionFits shape session → session_verb shape session ≡ Some verb
    → SessionFits shape (session_after shape session found)
    × (session_left shape (session_after shape session found) < session_left shape session)

-- a stop leaves no more verbs to come, and fewer of a session that was not cut and had one; without a medic it leaves
-- none
pub record StopsSession (shape : Shape) (session : SessionState) : Type 0 where
  pub fits : SessionFits shape (session_cut shape.form session)
  pub within : session_left shape (session_cut shape.form session) ≤ session_left shape session
  pub falls : session.client.cut ≡ false → IsSome (session_verb shape session)
      → session_left shape (session_cut shape.form session) < session_left shape session
  pub rests : has_intents shape.form ≡ false
      → (session_left shape (session_cut shape.form session) ≡ 0)
      × (session_verb shape (session_cut shape.form session) ≡ None)

abbrev pub SessionCutLaw : Type 0
SessionCutLaw = (shape : Shape) → FitsLimits shape → (session : SessionState) → SessionFits shape session
    → StopsSession shape session

-- 2. A world

abbrev pub sessions_left : Shape → List SessionState → ℕ
sessions_left shape [] = 0
sessions_left shape (session ∷ sessions) = session_left shape session + sessions_left shape sessions

abbrev pub world_left : Shape → World → ℕ
world_left shape world = sessions_left shape world.sessions

abbrev pub WorldFits : Shape → World → Type 0
WorldFits shape world = AllByRecursion (SessionFits shape) world.sessions

-- the worker has a verb to come, and one that is stopped was not cut before
abbrev pub IsTurn : Shape → World → Turn → Type 0
IsTurn shape world (Step worker) = IsSome (verb_in shape (session_of world worker))
IsTurn shape world (Cut worker) =
    IsSome (verb_in shape (session_of world worker)) × (is_cut (session_of world worker) ≡ false)

-- a turn of a worker that has a verb to come leaves fewer, and no turn leaves more
pub record TurnFalls (shape : Shape) (world : World) (turn : Turn) : Type 0 where
  pub fits : WorldFits shape (after_turn shape world turn)
  pub within : world_left shape (after_turn shape world turn) ≤ world_left shape world
  pub falls : IsTurn shape world turn
      → world_left shape (after_turn shape world turn) < world_left shape world

abbrev pub TurnLaw : Type 0
TurnLaw = (shape : Shape) → FitsLimits shape → (world : World) (turn : Turn) → WorldFits shape world
    → TurnFalls shape world turn

-- 3. A simulated run

-- its shape keeps the limits, each transaction is tried once at least, and its operations are as those of a job
pub record ScenarioFits (c : Scenario) : Type 0 where
  pub limits : FitsLimits c.shape
  pub tries : 1 ≤ c.policy.tries
  pub txns : AllByRecursion (λ (txn : Owned). OpsFit c.shape txn.ops) c.txns

abbrev pub lists_bound : Shape → Policy → List (List Job) → ℕ
lists_bound shape policy [] = 0
lists_bound shape policy (jobs ∷ rest) =
    jobs_bound shape policy jobs + medic_room shape.form + lists_bound shape policy rest

-- how many verbs all workers take at the most, with those of their medics
abbrev pub scenario_bound : Scenario → ℕ
scenario_bound c = lists_bound c.shape c.policy (all_jobs c.shape.workers c.txns)

-- after so many rounds the run has reached its end, whatever the schedule and the lines, and it is the only one
pub record ReachesEnd (c : Scenario) (lines : List Line) (end : Run) : Type 0 where
  pub is : Simulated c lines end
  pub only : (other : Run) → Simulated c lines other → other ≡ end

abbrev pub EndsLaw : Type 0
EndsLaw = (c : Scenario) → ScenarioFits c → (lines : List Line) (rounds : ℕ) → scenario_bound c ≤ rounds
    → ReachesEnd c lines (run_to_end rounds c lines)
