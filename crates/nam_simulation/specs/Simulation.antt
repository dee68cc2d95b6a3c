-- The run that a world of the code and the lines of its workers are.
use Rattle.std.specs.Prelude.{◌≡◌, ◌-◌, ℕ, Bool, false, List, [], ◌∷◌, ◌++◌, map, Option, Some, None, slice_get}
use Rattle.std.specs.Prelude.{slice_set, slice_index_or}
use Rattle.std.specs.List.{AllByRecursion}
use Rattle.nam_line.specs.Plan.{Line, asked_once, refuses_next}
use Rattle.nam_script.specs.declared.script.Script.{Script}
use Rattle.nam_script.specs.declared.script.ScriptTxn.{ScriptTxn}
use Rattle.nam_script.specs.declared.script.Stint.{Stint as ScriptStint}
use Rattle.nam_protocol.specs.declared.session.Job.{Job}
use Rattle.nam_protocol.specs.EndsLaw.{scenario_bound}
use Rattle.nam_protocol.specs.Left.{room_for}
use Rattle.nam_protocol.specs.SessionFits.{JobFits}
use Rattle.nam_protocol.specs.Schedule.{Run, Stint, opened, until_ended}
use Rattle.nam_scenario.specs.Scenario.{scenario_of}
use Rattle.nam_worker.specs.Answering.{AreJobs}
use Rattle.nam_worker.specs.Needs.{IsSmall}
use Rattle.nam_core.specs.World.{ShapedWorld}

abbrev pub run_of : ShapedWorld → List Line → Run
run_of world lines = record { world = world.world; lines = lines }

-- nothing was done yet in the world, which is the script's
abbrev pub IsOpened : Script → ShapedWorld → Type 0
IsOpened script world =
    world ≡ record { shape = script.shape; world = (opened (scenario_of script) []).world }

-- does the line, if there is one, refuse the next verb
abbrev pub refused_by : Option Line → Bool
refused_by None = false
refused_by (Some line) = refuses_next line

abbrev pub with_asked : List Line → ℕ → Option Line → List Line
with_asked lines place None = lines
with_asked lines place (Some line) = slice_set lines place (asked_once line)

-- the lines after the worker's, if it has one, was asked
abbrev pub after_asking : List Line → ℕ → List Line
after_asking lines worker = with_asked lines (worker - 1) (slice_get lines (worker - 1))

abbrev pub stints_of : List ScriptStint → List Stint
stints_of stints = map (λ (s : ScriptStint). record { worker = s.worker; steps = s.steps }) stints

-- the run after rounds until all have ended
abbrev pub to_end : Script → Run → Run
to_end script run = until_ended script.shape (scenario_bound (scenario_of script)) run

-- the workers' jobs with one more of the transaction's worker
abbrev pub with_job : List (List Job) → ℕ → ScriptTxn → List (List Job)
with_job jobs number txn =
    slice_set jobs (txn.worker - 1)
    (slice_index_or jobs (txn.worker - 1) [] ++ record { txn = number; ops = txn.ops } ∷ [])

-- the jobs are such as a worker of the script may have
pub record AreJobsOf (script : Script) (jobs : List Job) : Type 0 where
  pub fit : AllByRecursion (JobFits script.shape) jobs
  pub are : AreJobs jobs
  pub small : IsSmall (room_for script.shape script.policy jobs)
