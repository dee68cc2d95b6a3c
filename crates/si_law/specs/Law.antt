-- The law: consistent logs with the history arranged from them are a run of the snapshot isolation machine.
use Rattle.std.specs.Prelude.{◌≡◌, List, map}
use Rattle.si_model.specs.declared.log.Log.{Log}
use Rattle.si_model.specs.declared.report.CommitLine.{CommitLine}
use Rattle.si_model.specs.declared.report.AuditRow.{AuditRow}
use Rattle.si_model.specs.Rows.{Rows, rows_of}
use Rattle.si_model.specs.State.{state_at}
use Rattle.si_model.specs.Tells.{Tell, tells_of}
use Rattle.si_model.specs.Commits.{published_by}
use Rattle.si_model.specs.Snapshots.{newest_in, value_by}
use Rattle.si_model.specs.Setting.{Setting, Asked}
use Rattle.si_model.specs.Arranged.{level_of, guards_beside, IsArranged}
use Rattle.si_model.specs.Consistency.{HaveNoCircle, CanBeArranged, AreConsistent, AreConsistentFor}
use Rattle.si_model.specs.Audit.{IsAudit}
use Rattle.si_model.specs.Run.{IsRun}

-- with an audit of the state after that history
abbrev pub ArrangedIsRun : Type 0
ArrangedIsRun =
    (s : Setting) (logs : List Log) (history : List CommitLine) (audit : List AuditRow)
    → AreConsistentFor s logs → IsArranged s.start (map (tells_of s.jobs) logs) history
    → IsAudit (state_at (rows_of s.rows) history) (map (tells_of s.jobs) logs) audit
    → IsRun s (record { history = history; logs = logs; audit = audit })

-- consistent logs can be arranged
abbrev pub ConsistentArrange : Type 0
ConsistentArrange = (s : Setting) (logs : List Log) → AreConsistentFor s logs
    → CanBeArranged s.start s.jobs (map (tells_of s.jobs) logs)

-- also over the calls the guards of a level make no circle
abbrev pub ConsistentNoCircle : Type 0
ConsistentNoCircle =
    (s : Setting) (asked : Asked) (tss : List (List Tell)) → AreConsistent s asked tss
    → HaveNoCircle (guards_beside (level_of s.start tss)) (published_by tss)

-- after an arranged history each key holds what the commit of the greatest prefix wrote there
abbrev pub StateIsNewest : Type 0
StateIsNewest =
    (s : Setting) (asked : Asked) (tss : List (List Tell)) (history : List CommitLine) (rows : Rows)
    → AreConsistent s asked tss → IsArranged s.start tss history
    → state_at rows history ≡ (λ key. value_by rows key (newest_in key (published_by tss)))
