-- The schedule of a simulated run, in which lines refuse verbs.
use Rattle.std.specs.Prelude.{ℕ, zero, suc, ◌+◌, ◌-◌, ◌≡◌, ◌==◌, Bool, true, false}
use Rattle.std.specs.Prelude.{if◌then◌else◌, List, [], ◌∷◌, ◌++◌, map, replicate, Option, Some, None, is_some}
use Rattle.std.specs.Prelude.{slice_get, slice_set}
use Rattle.std.specs.List.{list_any}
use Rattle.si_model.specs.declared.row.Row.{Row}
use Rattle.si_model.specs.declared.op.Op.{Op}
use Rattle.si_model.specs.declared.op.Policy.{Policy}
use Rattle.si_model.specs.declared.log.Log.{Log}
use Rattle.si_model.specs.Generator.{next_state, pick}
use Rattle.nam_verbs.specs.declared.verb.Verb.{Verb}
use Rattle.nam_line.specs.Plan.{Line, asked_once, refuses_next}
use Rattle.nam_catalog.specs.declared.shape.Shape.{Shape}
use Rattle.nam_protocol.specs.declared.session.Job.{Job}
use Rattle.nam_protocol.specs.Session.{session_verb, session_log}
use Rattle.nam_protocol.specs.World.{World, session_of, is_cut, world_verb, step, cut, new_world, HasEnded}

-- 1. A turn of a simulated run: a worker that isn't cut and has a verb to come first asks its line, and a refusal is a
-- cut; a worker that is cut does its medic's next verb

-- a world, and the line of each worker
pub record Run : Type 0 where
  pub world : World
  pub lines : List Line

-- so many numbers from one on
abbrev pub numbers_from : ℕ → ℕ → List ℕ
numbers_from n zero = []
numbers_from n (suc rest) = n ∷ numbers_from (n + 1) rest

-- the line that the worker's turn asks, if any: a worker that is cut asks none
abbrev pub line_of : Run → ℕ → Option Line
line_of run worker = if is_cut (session_of run.world worker) then None else slice_get run.lines (worker - 1)

module _ (shape : Shape) where
  -- a worker without a line is not refused, and none that is cut
  abbrev pub turn_by : Run → ℕ → Option Line → Run
  turn_by run worker None = record run { world = step shape run.world worker }
  turn_by run worker (Some line) = record {
    world = if refuses_next line then cut shape run.world worker else step shape run.world worker;
    lines = slice_set run.lines (worker - 1) (asked_once line);
  }

  -- a worker that has no verb to come does nothing in its turn
  abbrev pub turn_on : Run → ℕ → Option Verb → Run
  turn_on run worker None = run
  turn_on run worker (Some verb) = turn_by run worker (line_of run worker)

  abbrev pub turn_of : Run → ℕ → Run
  turn_of run worker = turn_on run worker (world_verb shape run.world worker)

  -- turns of these workers, one after another
  unfoldable pub after_workers : Run → List ℕ → Run
  after_workers run [] = run
  after_workers run (worker ∷ workers) = after_workers (turn_of run worker) workers

  -- a round: worker 1 to the last, one turn each
  abbrev pub after_round : Run → Run
  after_round run = after_workers run (numbers_from 1 shape.workers)

  unfoldable pub after_rounds : ℕ → Run → Run
  after_rounds zero run = run
  after_rounds (suc rounds) run = after_rounds rounds (after_round run)

-- 2. Schedules: whose turns come before the rounds

-- so many turns of one worker
pub record Stint : Type 0 where
  pub worker : ℕ
  pub steps : ℕ

pub data Schedule : Type 0 where
  Stints : (stints : List Stint) → Schedule
  Picks : (seed picks : ℕ) → Schedule

-- workers picked one after another, from the state before the first pick
unfoldable pub picked : ℕ → ℕ → ℕ → List ℕ
picked workers state zero = []
picked workers state (suc picks) = (1 + pick (next_state state) workers) ∷ picked workers (next_state state) picks

unfoldable pub stint_workers : List Stint → List ℕ
stint_workers [] = []
stint_workers (stint ∷ stints) = replicate stint.steps stint.worker ++ stint_workers stints

abbrev pub scheduled : Shape → Schedule → List ℕ
scheduled shape (Stints stints) = stint_workers stints
scheduled shape (Picks seed picks) = picked shape.workers seed picks

-- 3. What is simulated

-- a transaction, and the worker that it belongs to
pub record Owned : Type 0 where
  pub worker : ℕ
  pub ops : List Op

-- a shape, its loaded rows, the policy, the transactions in order, and the schedule
pub record Scenario : Type 0 where
  pub shape : Shape
  pub rows : List Row
  pub policy : Policy
  pub txns : List Owned
  pub schedule : Schedule

-- a worker's jobs, where the first transaction has this number
abbrev pub jobs_of : ℕ → ℕ → List Owned → List Job
jobs_of worker txn [] = []
jobs_of worker txn (t ∷ ts) =
    if t.worker == worker then record { txn = txn; ops = t.ops } ∷ jobs_of worker (txn + 1) ts
    else jobs_of worker (txn + 1) ts

abbrev pub all_jobs : ℕ → List Owned → List (List Job)
all_jobs workers txns = map (λ worker. jobs_of worker 1 txns) (numbers_from 1 workers)

abbrev pub opened : Scenario → List Line → Run
opened c lines = record { world = new_world c.shape c.rows c.policy (all_jobs c.shape.workers c.txns); lines = lines }

-- the run after its schedule, and then so many rounds
abbrev pub simulated : Scenario → List Line → ℕ → Run
simulated c lines rounds =
    after_rounds c.shape rounds (after_workers c.shape (opened c lines) (scheduled c.shape c.schedule))

-- the run is simulated: after some number of rounds all have ended. A further round changes nothing, so it is the only
-- one
pub record Simulated (c : Scenario) (lines : List Line) (run : Run) : Type 0 where
  pub rounds : ℕ
  pub run_is : simulated c lines rounds ≡ run
  pub ended : HasEnded c.shape run.world

abbrev pub logs_of : Shape → World → List Log
logs_of shape world = map (session_log shape) world.sessions

-- 4. The same, computed: rounds until all have ended, at most so many

abbrev pub is_live : Shape → World → Bool
is_live shape world = list_any (λ session. is_some (session_verb shape session)) world.sessions

unfoldable pub until_ended : Shape → ℕ → Run → Run
until_ended shape zero run = run
until_ended shape (suc rounds) run = elim (is_live shape run.world) [
  | false ↦ run
  | true ↦ until_ended shape rounds (after_round shape run)
]

abbrev pub run_to_end : ℕ → Scenario → List Line → Run
run_to_end rounds c lines =
    until_ended c.shape rounds (after_workers c.shape (opened c lines) (scheduled c.shape c.schedule))
