-- What the text of a report shows of it.
use Rattle.std.specs.Prelude.{◌≡◌, [], map}
use Rattle.si_model.specs.declared.log.Event.{Event}
use Rattle.si_model.specs.declared.log.Event.TheVariants.{Tried}
use Rattle.si_model.specs.declared.log.Log.{Log}
use Rattle.si_model.specs.declared.report.Report.{Report}
use Rattle.nam_script.specs.declared.script.Script.{Script}
use Rattle.nam_script.specs.Limits.{IsScript}
use Rattle.nam_report.specs.Fits.{FitsScript}
use Rattle.nam_report.specs.Text.{report_text}

-- an event without the count of its writes
abbrev pub shown_event : Event → Event
shown_event (Tried a) = Tried (record a { writes = 0 })
shown_event e = e

-- a log without its writes and its snapshots. The history shows the writes.
abbrev pub shown_log : Log → Log
shown_log l = record l { events = map shown_event l.events; writes = []; snaps = [] }

-- the history, the audit, and what is shown of the logs
abbrev pub shown_of : Report → Report
shown_of r = record r { logs = map shown_log r.logs }

-- A text spells one report: two that fit one script and have the same text show the same.
abbrev pub TextLaw : Type 0
TextLaw = (s : Script) → IsScript s → (r q : Report) → FitsScript s r → FitsScript s q
    → report_text s.shape.tables r ≡ report_text s.shape.tables q → shown_of r ≡ shown_of q
