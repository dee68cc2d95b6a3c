-- The report of a simulated run, and that it fits its script.
use Rattle.std.specs.Prelude.{◌≡◌, List, map, IsPermutation}
use Rattle.si_model.specs.declared.log.Log.{Log}
use Rattle.si_model.specs.declared.report.Closed.{Closed}
use Rattle.si_model.specs.declared.report.CommitLine.{CommitLine}
use Rattle.si_model.specs.declared.report.Report.{Report}
use Rattle.si_model.specs.Commits.{entry_of, published_by}
use Rattle.si_model.specs.Tells.{Tell, tells_of}
use Rattle.nam_line.specs.Plan.{Line}
use Rattle.nam_script.specs.declared.script.Script.{Script}
use Rattle.nam_script.specs.Limits.{IsScript}
use Rattle.nam_script.specs.ScriptSetting.{setting_of}
use Rattle.nam_protocol.specs.Closed.{closed}
use Rattle.nam_protocol.specs.Schedule.{Run, Simulated}
use Rattle.nam_report.specs.Arranging.{arranged}
use Rattle.nam_report.specs.Fits.{FitsScript}
use Rattle.nam_report.specs.Numbers.{NumbersFit}
use Rattle.nam_scenario.specs.Scenario.{scenario_of}
use Rattle.nam_scenario.specs.ScenarioLaw.{script_run}
use Rattle.nam_simulated.specs.RunLaw.{ClosedIsOf}

-- what the logs tell, by the script's transactions
abbrev pub told_of : Script → List Log → List (List Tell)
told_of script logs = map (tells_of (setting_of script).jobs) logs

-- the report with this history of what is left
abbrev pub report_with : List CommitLine → Closed → Report
report_with history left = record { history = history; logs = left.logs; audit = left.audit }

-- the history has the entries of the commits that the logs publish, and no others
abbrev pub IsOfCommits : Script → List Log → List CommitLine → Type 0
IsOfCommits script logs history = IsPermutation (map entry_of (published_by (told_of script logs))) history

-- what is left of a script's world, with such a history, is a report that fits the script, where its numbers fit their
-- fields
abbrev pub ReportFitsLaw : Type 0
ReportFitsLaw = (script : Script) (left : Closed) (history : List CommitLine) → ClosedIsOf script.shape left
    → IsOfCommits script left.logs history → NumbersFit (report_with history left)
    → FitsScript script (report_with history left)

-- the report on what is left, with its commits in order
abbrev pub report_of : Script → Closed → Report
report_of script left = report_with (arranged script.shape.start (told_of script left.logs)) left

-- the report is that of a simulated run of the script under these lines
pub record IsSimulatedReport (script : Script) (lines : List Line) (report : Report) : Type 0 where
  pub run : Run
  pub simulated : Simulated (scenario_of script) lines run
  pub report_is : report ≡ report_of script (closed script.shape run.world)

-- the same, computed
abbrev pub simulated_report : Script → List Line → Report
simulated_report script lines = report_of script (closed script.shape (script_run script lines).world)

-- it is the report of a simulated run of the script under these lines, and the only one
pub record IsTheReport (script : Script) (lines : List Line) (report : Report) : Type 0 where
  pub is : IsSimulatedReport script lines report
  pub only : (other : Report) → IsSimulatedReport script lines other → other ≡ report

abbrev pub OneReportLaw : Type 0
OneReportLaw = (script : Script) → IsScript script → (lines : List Line)
    → IsTheReport script lines (simulated_report script lines)

-- it fits the script, where its numbers fit their fields
abbrev pub SimulatedFitsLaw : Type 0
SimulatedFitsLaw = (script : Script) → IsScript script → (lines : List Line) (report : Report)
    → IsSimulatedReport script lines report → NumbersFit report → FitsScript script report
