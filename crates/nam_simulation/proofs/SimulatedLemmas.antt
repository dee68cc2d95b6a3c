-- The run of a script's world to its end is its simulated run.
use Rattle.std.proofs.Common.{◌≡◌, List, map, sym, ap, subst, ◌∙◌}
use Rattle.si_model.specs.declared.op.Op.{Op}
use Rattle.si_model.specs.declared.log.Log.{Log}
use Rattle.si_model.specs.declared.report.Closed.{Closed}
use Rattle.si_model.specs.declared.report.CommitLine.{CommitLine}
use Rattle.si_model.specs.declared.report.Report.{Report}
use Rattle.si_model.specs.Tells.{tells_of}
use Rattle.nam_line.specs.Plan.{Line}
use Rattle.nam_script.specs.declared.script.Script.{Script}
use Rattle.nam_script.specs.Limits.{IsScript}
use Rattle.nam_protocol.specs.Closed.{closed}
use Rattle.nam_protocol.specs.World.{HasEnded}
use Rattle.nam_protocol.specs.Schedule.{Run, Simulated, after_workers, opened, scheduled}
use Rattle.nam_script.specs.ScriptSetting.{setting_of}
use Rattle.nam_report.specs.Arranging.{arranged, PublishedLaw}
use Rattle.nam_report.specs.Fits.{FitsScript}
use Rattle.nam_report.specs.Numbers.{NumbersFit}
use Rattle.nam_scenario.specs.Scenario.{scenario_of, schedule_of}
use Rattle.nam_scenario.proofs.ScenarioLemmas.{scripts_fit, scripts_run}
use Rattle.nam_simulated.specs.RunLaw.{ClosedIsOf}
use Rattle.nam_simulated.proofs.WorldKept.{runs_fit}
use Rattle.nam_simulated.specs.ReportLaw.{told_of, report_with, report_of}
use Rattle.nam_simulated.proofs.ReportLemmas.{reports_fit}
use Rattle.nam_core.specs.World.{ShapedWorld}
use Rattle.nam_simulation.specs.Simulation.{run_of, IsOpened, to_end}

module _ (script : Script) (is : IsScript script) (lines : List Line) where
  abbrev start : Run
  start = opened (scenario_of script) lines

  abbrev turned : Run
  turned = after_workers script.shape start (scheduled script.shape (schedule_of script.turns))

  -- the run after its schedule
  pub turned_is : (world : ShapedWorld) (run : Run) → IsOpened script world
      → run ≡ after_workers world.shape (run_of world lines) (scheduled world.shape (schedule_of script.turns))
      → run ≡ turned
  turned_is world run opened_is run_is =
      run_is
      ∙ ap (λ (w : ShapedWorld). after_workers w.shape (run_of w lines)
      (scheduled w.shape (schedule_of script.turns))) opened_is

  pub ends : (run : Run) → run ≡ turned → HasEnded script.shape (to_end script run).world
  ends run run_is =
      subst (λ (r : Run). HasEnded script.shape (to_end script r).world) (sym run_is)
      (scripts_run script is lines).is.ended

  pub is_simulated : (run end : Run) → run ≡ turned → end ≡ to_end script run
      → Simulated (scenario_of script) lines end
  is_simulated run end run_is end_is =
      subst (Simulated (scenario_of script) lines) (sym (end_is ∙ ap (to_end script) run_is))
      (scripts_run script is lines).is

  -- what is left of it
  pub left_fits : (run : Run) → Simulated (scenario_of script) lines run
      → ClosedIsOf script.shape (closed script.shape run.world)
  left_fits run of_ =
      subst (λ (r : Run). ClosedIsOf script.shape (closed script.shape r.world)) of_.run_is
      (runs_fit (scenario_of script) (scripts_fit script is) lines of_.rounds)

-- a report on what is left, with its history arranged
pub report_fits : PublishedLaw → (script : Script) (left : Closed) (report : Report) → ClosedIsOf script.shape left
    → report ≡ report_of script left
    → NumbersFit report
    → FitsScript script report
report_fits published script left report is same numbers =
    let told = told_of script left.logs in
    subst (FitsScript script) (sym same)
    (reports_fit script left (arranged script.shape.start told) is (published script.shape.start told)
    (subst NumbersFit same numbers))

pub report_is : (script : Script) (left : Closed) (jobs : List (List Op)) (logs : List Log)
    (items history : List CommitLine)
    → items ≡ arranged script.shape.start (map (tells_of jobs) logs)
    → logs ≡ left.logs
    → history ≡ items
    → jobs ≡ (setting_of script).jobs
    → report_with history left ≡ report_of script left
report_is script left jobs logs items history items_are logs_are history_is jobs_are =
    ap (λ h. report_with h left)
    (history_is
    ∙ items_are
    ∙ ap (λ ls. arranged script.shape.start (map (tells_of jobs) ls)) logs_are
    ∙ ap (λ js. arranged script.shape.start (map (tells_of js) left.logs)) jobs_are)
