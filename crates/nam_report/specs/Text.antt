-- The one text of a report.
use Rattle.std.specs.Prelude.{ℕ, ◌+◌, List, [], ◌∷◌, ◌++◌, codes, Bool, length, take}
use Rattle.std.specs.Prelude.{drop}
use Rattle.std.specs.Fmt.{decimal}
use Rattle.si_model.specs.declared.row.Item.{Item}
use Rattle.si_model.specs.declared.log.Lock.{Lock}
use Rattle.std.proofs.Common.{inl}
use Rattle.si_model.specs.declared.log.Attempt.{Attempt}
use Rattle.si_model.specs.declared.log.Outcome.{Outcome}
use Rattle.si_model.specs.declared.log.MoveEnd.{MoveEnd}
use Rattle.si_model.specs.declared.log.Event.{Event}
use Rattle.si_model.specs.declared.log.Log.{Log}
use Rattle.si_model.specs.declared.report.CommitLine.{CommitLine}
use Rattle.si_model.specs.declared.report.AuditRow.{AuditRow}
use Rattle.si_model.specs.declared.report.Report.{Report}
use Rattle.si_model.specs.Tells.{reads_in, locks_in}
use Rattle.nam_catalog.specs.declared.shape.Table.{Table}
use Rattle.nam_catalog.specs.Tables.{name_of}
use Rattle.nam_text.specs.Kinds.{of, behind_spaces, text, line_text}
use Rattle.nam_report.specs.Spelling.{lock, spelt_outcome, attempt_kind, move_kind, collect_kind, tidy_cut_kind}
use Rattle.nam_report.specs.Spelling.{item_kind, lock_kind, spelt_event, history_kind, entry_kind, worker_kind}
use Rattle.nam_report.specs.Spelling.{audit_kind, audit_row_kind}

-- a key: the name of its table and its number, each behind a space
abbrev pub key_text : List Table → ℕ → ℕ → List ℕ
key_text tables t k = behind_spaces (name_of tables t ∷ decimal k ∷ [])

-- a record and its stamp, all behind spaces
abbrev pub lock_text : List Table → Lock → List ℕ
lock_text tables l = behind_spaces ((lock tables).fields l)

-- the line of an item, behind the letter of its kind
abbrev pub item_line : List Table → List ℕ → Item → List ℕ
item_line tables letter i = line_text (of (item_kind tables letter) (i.table, (i.key, i.value)))

abbrev pub items_text : List Table → List ℕ → List Item → List ℕ
items_text tables letter [] = []
items_text tables letter (i ∷ is) = item_line tables letter i ++ items_text tables letter is

abbrev pub lock_line : List Table → Lock → List ℕ
lock_line tables l = line_text (of (lock_kind tables) l)

abbrev pub locks_text : List Table → List Lock → List ℕ
locks_text tables [] = []
locks_text tables (l ∷ ls) = lock_line tables l ++ locks_text tables ls

-- how an attempt ended
abbrev pub outcome_text : List Table → Outcome → List ℕ
outcome_text tables o = text (spelt_outcome tables o)

abbrev pub attempt_line : List Table → Attempt → List ℕ
attempt_line tables a = line_text (of (attempt_kind tables) (a.txn, (a.nth, (a.prefix, a.outcome))))

abbrev pub move_line : List Table → ℕ → Lock → MoveEnd → List ℕ
move_line tables b l how =
    line_text (of (move_kind tables) (b, (l.table, (l.key, (l.stamp.thread, (l.stamp.number, how))))))

abbrev pub collect_line : ℕ → ℕ → List ℕ → Bool → List ℕ
collect_line b p entries cut = line_text (of collect_kind (b, inl (p, (entries, cut))))

abbrev pub tidy_cut_line : List Table → ℕ → ℕ → List ℕ
tidy_cut_line tables t k = line_text (of (tidy_cut_kind tables) (t, (k, tt)))

abbrev pub event_line : List Table → Event → List ℕ
event_line tables e = line_text (spelt_event tables e)

-- an event's line, and those of the reads and locks that it owns
abbrev pub event_text : List Table → Event → List Item → List Lock → List ℕ
event_text tables e reads locks = event_line tables e ++ items_text tables (codes "r") reads ++ locks_text tables locks

-- the events, each with the next of the reads and locks that are left
abbrev pub events_text : List Table → List Event → List Item → List Lock → List ℕ
events_text tables [] reads locks = []
events_text tables (e ∷ es) reads locks =
    event_text tables e (take (reads_in e) reads) (take (locks_in e) locks)
    ++ events_text tables es (drop (reads_in e) reads) (drop (locks_in e) locks)

-- the log of worker_kind j
abbrev pub log_text : List Table → ℕ → Log → List ℕ
log_text tables j l =
    line_text (of worker_kind (j, length l.events)) ++ events_text tables l.events l.reads l.locks

-- the logs of worker_kind j and those after it
abbrev pub logs_text : List Table → ℕ → List Log → List ℕ
logs_text tables j [] = []
logs_text tables j (l ∷ ls) = log_text tables j l ++ logs_text tables (j + 1) ls

abbrev pub commit_line : ℕ → CommitLine → List ℕ
commit_line q c = line_text (of entry_kind (q, (c.worker, (c.number, (c.prefix, c.txn)))))

-- entry q of a history, and its write set
abbrev pub entry_text : List Table → ℕ → CommitLine → List ℕ
entry_text tables q c = commit_line q c ++ items_text tables (codes "w") c.writes

-- entry q of a history and those after it
abbrev pub entries_text : List Table → ℕ → List CommitLine → List ℕ
entries_text tables q [] = []
entries_text tables q (c ∷ cs) = entry_text tables q c ++ entries_text tables (q + 1) cs

abbrev pub audit_line : List Table → AuditRow → List ℕ
audit_line tables a = line_text (of (audit_row_kind tables) (a.table, (a.key, (a.value, a.locked))))

abbrev pub audit_rows_text : List Table → List AuditRow → List ℕ
audit_rows_text tables [] = []
audit_rows_text tables (a ∷ more) = audit_line tables a ++ audit_rows_text tables more

abbrev pub history_text : List Table → List CommitLine → List ℕ
history_text tables history = line_text (of history_kind (length history)) ++ entries_text tables 1 history

abbrev pub audit_text : List Table → List AuditRow → List ℕ
audit_text tables audit = line_text (of audit_kind (length audit)) ++ audit_rows_text tables audit

abbrev pub report_text : List Table → Report → List ℕ
report_text tables r =
    codes "report 1\n" ++ history_text tables r.history ++ logs_text tables 1 r.logs ++ audit_text tables r.audit ++
    codes "end\n"
