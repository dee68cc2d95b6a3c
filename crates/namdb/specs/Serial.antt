-- The run of a script that takes its workers one after another, worker 1 first.
use Rattle.std.specs.Prelude.{ℕ, zero, suc, false, slice_set, unwrap_or, ◌-◌, ◌+◌, ◌==◌, if◌then◌else◌, List, [], ◌∷◌}
use Rattle.std.specs.Prelude.{◌++◌, length, map, slice_index_or, ◌-◌, Some}
use Rattle.std.specs.List.{flat_map}
use Rattle.si_model.specs.declared.row.Key.{Key}
use Rattle.si_model.specs.declared.row.Item.{Item}
use Rattle.si_model.specs.declared.row.Row.{Row}
use Rattle.si_model.specs.declared.op.Op.{Op}
use Rattle.si_model.specs.declared.log.Lock.{Lock}
use Rattle.si_model.specs.declared.log.Outcome.{Outcome}
use Rattle.si_model.specs.declared.log.Outcome.TheVariants.{Commit, ReadOnly, Declined as DeclinedAt, Spent}
use Rattle.si_model.specs.declared.log.Attempt.{Attempt}
use Rattle.si_model.specs.declared.log.Event.{Event}
use Rattle.si_model.specs.declared.log.Event.TheVariants.{Tried}
use Rattle.si_model.specs.declared.log.Log.{Log}
use Rattle.si_model.specs.declared.report.AuditRow.{AuditRow}
use Rattle.si_model.specs.declared.report.CommitLine.{CommitLine}
use Rattle.si_model.specs.declared.evaluated.Evaluated.{Evaluated}
use Rattle.si_model.specs.declared.evaluated.Evaluated.TheVariants.{Done, Declined}
use Rattle.si_model.specs.Rows.{rows_of}
use Rattle.si_model.specs.Evaluation.{evaluation_of, reads_of}
use Rattle.si_model.specs.State.{state_at}
use Rattle.si_model.specs.History.{count_of, entries_at, newest_writer, keys_of}
use Rattle.si_model.specs.Tells.{Tell, number_in}
use Rattle.si_model.specs.Setting.{Setting, txns_of}

-- how an attempt ends, by its evaluation and its worker's last number
abbrev pub outcome_of : ℕ → ℕ → Evaluated → Outcome
outcome_of greatest last (Declined op reads) = DeclinedAt op
outcome_of greatest last (Done reads [] guards) = ReadOnly
outcome_of greatest last (Done reads (w ∷ ws) guards) = if last == greatest then Spent else Commit (last + 1)

-- a lock of the key, with the stamp that stands after these entries
abbrev pub lock_on : List CommitLine → Key → Lock
lock_on history key = record { table = key.table; key = key.key; stamp = newest_writer key history }

abbrev pub locks_by : List CommitLine → Evaluated → Outcome → List Lock
locks_by history (Done reads writes guards) (Commit number) = map (lock_on history) (keys_of writes guards)
locks_by history e outcome = []

abbrev pub writes_by : Evaluated → Outcome → List Item
writes_by (Done reads writes guards) (Commit number) = writes
writes_by e outcome = []

abbrev pub entry_by : ℕ → ℕ → ℕ → List Item → Outcome → List CommitLine
entry_by j x prefix writes (Commit number) =
    record { worker = j; number = number; prefix = prefix; txn = x; writes = writes } ∷ []
entry_by j x prefix writes outcome = []

-- how many keys a done evaluation writes and guards
abbrev pub claims_of : Evaluated → ℕ
claims_of (Done reads writes guards) = length writes + length guards
claims_of (Declined op reads) = 0

-- the locks of a commit, where each key has such a lock
abbrev pub locks_with : (Key → Lock) → Evaluated → Outcome → List Lock
locks_with lock (Done reads writes guards) (Commit number) = map lock (keys_of writes guards)
locks_with lock e outcome = []

-- the first attempt at transaction x, with these items
abbrev pub attempt_with : ℕ → ℕ → Outcome → List Item → List Lock → List Item → Attempt
attempt_with x prefix outcome reads locks writes =
    record {
      txn = x;
      nth = 1;
      prefix = Some prefix;
      reads = length reads;
      locks = length locks;
      writes = length writes;
      outcome = outcome;
    }

-- the first attempt at transaction x, with the evaluation e
abbrev pub attempt_by : ℕ → ℕ → Evaluated → List Lock → Outcome → Attempt
attempt_by x prefix e locks outcome = attempt_with x prefix outcome (reads_of e) locks (writes_by e outcome)

-- the vector after an attempt of worker j
abbrev pub vector_by : ℕ → Outcome → List ℕ → List ℕ
vector_by j (Commit number) vector = slice_set vector (j - 1) number
vector_by j outcome vector = vector

-- the number that an outcome commits
abbrev pub number_by : Outcome → ℕ
number_by outcome = unwrap_or (number_in outcome) 0

-- a log with one more event and its items
abbrev pub log_with : Log → Event → List Item → List Lock → List Item → List ℕ → Log
log_with log event reads locks writes snap = record {
  events = log.events ++ event ∷ [];
  reads = log.reads ++ reads;
  locks = log.locks ++ locks;
  writes = log.writes ++ writes;
  snaps = log.snaps ++ snap ∷ [];
}

-- a log with all that is told
abbrev pub log_grown : Log → List Tell → Log
log_grown log ts = record {
  events = log.events ++ map (λ t. t.event) ts;
  reads = log.reads ++ flat_map (λ t. t.reads) ts;
  locks = log.locks ++ flat_map (λ t. t.locks) ts;
  writes = log.writes ++ flat_map (λ t. t.writes) ts;
  snaps = log.snaps ++ map (λ t. t.snap) ts;
}

-- the operations of transaction x
abbrev pub ops_of : Setting → ℕ → List Op
ops_of s x = slice_index_or s.jobs (x - 1) []

module _ (s : Setting) (j : ℕ) where
  -- the evaluation of transaction x after these entries
  abbrev pub evaluated_after : List CommitLine → ℕ → Evaluated
  evaluated_after history x = evaluation_of s.widths (state_at (rows_of s.rows) history) (ops_of s x)

  -- how worker j's attempt at transaction x ends after these entries
  abbrev pub outcome_after : List CommitLine → ℕ → Outcome
  outcome_after history x = outcome_of s.greatest (s.start + count_of j history) (evaluated_after history x)

  -- what worker j tells of it
  abbrev pub tell_after : List CommitLine → ℕ → Tell
  tell_after history x =
      let e = evaluated_after history x in
      let outcome = outcome_after history x in
      record {
        event = Tried (record {
          txn = x;
          nth = 1;
          prefix = Some (length history);
          reads = length (reads_of e);
          locks = length (locks_by history e outcome);
          writes = length (writes_by e outcome);
          outcome = outcome;
        });
        ops = ops_of s x;
        reads = reads_of e;
        locks = locks_by history e outcome;
        writes = writes_by e outcome;
        snap = entries_at s.workers s.start history;
      }

  -- the entry that it adds, if it commits
  abbrev pub entry_after : List CommitLine → ℕ → List CommitLine
  entry_after history x =
      entry_by j x (length history) (writes_by (evaluated_after history x) (outcome_after history x))
      (outcome_after history x)

  -- what worker j tells of its transactions, one after another, from this history on
  abbrev pub tells_after : List CommitLine → List ℕ → List Tell
  tells_after history [] = []
  tells_after history (x ∷ xs) = tell_after history x ∷ tells_after (history ++ entry_after history x) xs

  -- the history after them
  abbrev pub history_after : List CommitLine → List ℕ → List CommitLine
  history_after history [] = history
  history_after history (x ∷ xs) = history_after (history ++ entry_after history x) xs

-- the number of a transaction, where it is worker j's
abbrev pub own_txn : ℕ → ℕ → ℕ → List ℕ
own_txn j owner x = if owner == j then x ∷ [] else []

-- the log that tells this
abbrev pub log_of : List Tell → Log
log_of ts = record {
  events = map (λ t. t.event) ts;
  reads = flat_map (λ t. t.reads) ts;
  locks = flat_map (λ t. t.locks) ts;
  writes = flat_map (λ t. t.writes) ts;
  snaps = map (λ t. t.snap) ts;
}

-- the logs of n workers from worker j on, and the history after them
abbrev pub logs_after : Setting → ℕ → List CommitLine → ℕ → List Log
logs_after s j history zero = []
logs_after s j history (suc n) = log_of (tells_after s j history (txns_of j s.owners))
    ∷ logs_after s (suc j) (history_after s j history (txns_of j s.owners)) n

abbrev pub end_after : Setting → ℕ → List CommitLine → ℕ → List CommitLine
end_after s j history zero = history
end_after s j history (suc n) = end_after s (suc j) (history_after s j history (txns_of j s.owners)) n

-- the audit of rows that nobody has locked
abbrev pub audit_of : List Row → List AuditRow
audit_of rows = map (λ r. record { table = r.table; key = r.key; value = Some r.value; locked = false }) rows
