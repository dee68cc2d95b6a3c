-- Each script within the limits makes a scenario that fits, and has exactly one simulated run.
use Rattle.std.specs.Prelude.{List}
use Rattle.nam_script.specs.declared.script.Script.{Script}
use Rattle.nam_script.specs.Limits.{IsScript}
use Rattle.nam_line.specs.Plan.{Line}
use Rattle.nam_protocol.specs.Schedule.{Run, run_to_end}
use Rattle.nam_protocol.specs.EndsLaw.{ScenarioFits, scenario_bound, ReachesEnd}
use Rattle.nam_scenario.specs.Scenario.{scenario_of}

abbrev pub ScriptFitsLaw : Type 0
ScriptFitsLaw = (script : Script) → IsScript script → ScenarioFits (scenario_of script)

-- the run of the script under these lines, computed: rounds until all have ended, no more than all jobs and medics have
-- verbs
abbrev pub script_run : Script → List Line → Run
script_run script lines = run_to_end (scenario_bound (scenario_of script)) (scenario_of script) lines

abbrev pub ScriptRunsLaw : Type 0
ScriptRunsLaw = (script : Script) → IsScript script → (lines : List Line)
    → ReachesEnd (scenario_of script) lines (script_run script lines)
