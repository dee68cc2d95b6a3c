-- What the text of a simulated run is.
use Rattle.std.specs.Prelude.{◌≡◌, ℕ, List}
use Rattle.si_model.specs.declared.report.Report.{Report}
use Rattle.nam_line.specs.Plan.{Line}
use Rattle.nam_script.specs.declared.script.Script.{Script}
use Rattle.nam_report.specs.Fits.{FitsScript}
use Rattle.nam_report.specs.Text.{report_text}
use Rattle.nam_simulated.specs.ReportLaw.{IsSimulatedReport}

-- the text is that of the report of the simulated run of the script under these lines of its workers
pub record IsSimulatedText (script : Script) (lines : List Line) (text : List ℕ) : Type 0 where
  pub report : Report
  pub simulated : IsSimulatedReport script lines report
  pub fits : FitsScript script report
  pub written : text ≡ report_text script.shape.tables report
