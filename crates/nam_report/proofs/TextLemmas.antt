-- Two reports that fit one script and have one text show the same.
use Rattle.std.proofs.Common.{◌≡◌, sym, ap, ◌∙◌}
use Rattle.si_model.specs.declared.report.Report.{Report}
use Rattle.nam_script.specs.declared.script.Script.{Script}
use Rattle.nam_script.specs.Limits.{IsScript}
use Rattle.nam_report.specs.Fits.{FitsScript}
use Rattle.nam_report.specs.Text.{report_text}
use Rattle.nam_report.specs.Shown.{shown_of, TextLaw}
use Rattle.nam_report.proofs.NamedLemmas.{named}
use Rattle.nam_report.proofs.Reader.{Told, told}
use Rattle.nam_report.proofs.ToldLemmas.{report_told}

-- the report that is told
abbrev report_in : Told → Report
report_in p = record { history = p.entries; logs = p.logs; audit = p.audit }

shown_again : (s : Script) → IsScript s → (r : Report) → FitsScript s r
    → report_in (told s.shape.tables (report_text s.shape.tables r)) ≡ shown_of r
shown_again s limits r fits =
    ap report_in (report_told s.shape.workers s.shape.tables (named s limits) r fits.workers fits.history fits.logs
    fits.audit fits.numbers)

pub text_tells : TextLaw
text_tells s limits r q r_fits q_fits same =
    sym (shown_again s limits r r_fits)
    ∙ ap (λ text. report_in (told s.shape.tables text)) same
    ∙ shown_again s limits q q_fits
