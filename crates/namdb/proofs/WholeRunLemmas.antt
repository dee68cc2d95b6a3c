-- The serial run of all workers is a run of the snapshot isolation machine.
use Rattle.std.proofs.Common.{◌≡◌, ◌≢◌, ℕ, zero, suc, ◌+◌, ◌<◌, ◌≤◌, Bool, true, false, List, [], ◌∷◌, ◌++◌, length}
use Rattle.std.proofs.Common.{map, refl, ap, sym, ◌∙◌, subst, arith, append_assoc, append-nil}
use Rattle.std.specs.Prelude.{◌==◌, if◌then◌else◌, replicate}
use Rattle.std.specs.List.{AllByRecursion, flat_map}
use Rattle.si_model.specs.declared.row.Row.{Row}
use Rattle.si_model.specs.declared.report.CommitLine.{CommitLine}
use Rattle.si_model.specs.declared.report.Report.{Report}
use Rattle.si_model.specs.Rows.{rows_of, ListsRows}
use Rattle.si_model.specs.State.{state_at}
use Rattle.si_model.specs.History.{count_of, IsLegal, IsNumbered}
use Rattle.si_model.specs.Tells.{Tell, tells_of}
use Rattle.si_model.specs.View.{View, by_history}
use Rattle.si_model.specs.Setting.{Setting, txns_of, places_of}
use Rattle.si_model.specs.Audit.{IsAuditLine, row_in}
use Rattle.si_model.specs.Run.{IsRun, IsWorkerRun, AreWorkerRuns, times_listed, tells_in_report}
use Rattle.si_model.specs.Tries.Stage.{going}
use Rattle.namdb.specs.Serial.{writes_by, entry_by, evaluated_after, entry_after, tells_after, history_after}
use Rattle.namdb.specs.Serial.{logs_after, end_after, audit_of}
use Rattle.namdb.proofs.HistoryLemmas.{count_of-other, start-at_most}
use Rattle.namdb.proofs.SerialLemmas.{by_outcome, legal_after, numbered_after}
use Rattle.namdb.proofs.SerialRunLemmas.{IsOnce, once_more, all_map, times_in, times_after, history_grows, answers_all}
use Rattle.namdb.proofs.SerialRunLemmas.{sees_all, causes_all, tells_back}
use Rattle.namdb.proofs.PolicyLemmas.{parts_after, parts_read, parts_settle, parts_follow}

-- what holds of the history of a serial run
pub record IsSound (s : Setting) (history : List CommitLine) : Type 0 where
  pub legal : IsLegal s.widths (rows_of s.rows) s.jobs history
  pub numbered : IsNumbered s.start history
  pub once : AllByRecursion (IsOnce s.start history) history

module _ (s : Setting) (j : ℕ) where
  once_after : (history : List CommitLine) (x : ℕ) → AllByRecursion (IsOnce s.start history) history
      → AllByRecursion (IsOnce s.start (history ++ entry_after s j history x)) (history ++ entry_after s j history x)
  once_after history x once =
      let same = subst (λ h. AllByRecursion (IsOnce s.start h) h) (sym (append-nil history)) once in
      by_outcome (λ e o. AllByRecursion (IsOnce s.start (history ++ entry_by j x (length history) (writes_by e o) o))
      (history ++ entry_by j x (length history) (writes_by e o) o)) s.greatest (s.start + count_of j history)
      (evaluated_after s j history x)
      (λ op reads. same)
      (λ reads guards. same)
      (λ reads ws w guards l. same)
      (λ reads ws w guards. once_more s.start history
      (record {
        worker = j;
        number = s.start + count_of j history + 1;
        prefix = length history;
        txn = x;
        writes = w ∷ ws;
      }) once refl)

  sound_after : (history : List CommitLine) (xs : List ℕ) → AllByRecursion (λ x. (1 ≤ x) × (x ≤ length s.jobs)) xs
      → IsSound s history → IsSound s (history_after s j history xs)
  sound_after history [] all sound = sound
  sound_after history (x ∷ xs) all sound =
      sound_after (history ++ entry_after s j history x) xs all.1 (record {
        legal = legal_after s j history x sound.legal all.0.0 all.0.1;
        numbered = numbered_after s j history x sound.numbered;
        once = once_after history x sound.once;
      })

  -- another worker's commits stay as many
  other_once : (i : ℕ) (history : List CommitLine) (x : ℕ) → i ≢ j
      → count_of i (history ++ entry_after s j history x) ≡ count_of i history
  other_once i history x differ =
      let same = ap (count_of i) (append-nil history) in
      by_outcome (λ e o. count_of i (history ++ entry_by j x (length history) (writes_by e o) o) ≡ count_of i history)
      s.greatest (s.start + count_of j history) (evaluated_after s j history x)
      (λ op reads. same)
      (λ reads guards. same)
      (λ reads ws w guards l. same)
      (λ reads ws w guards. count_of-other i history
      (record {
        worker = j;
        number = s.start + count_of j history + 1;
        prefix = length history;
        txn = x;
        writes = w ∷ ws;
      }) (λ q. differ (sym q)))

  other_after : (i : ℕ) (history : List CommitLine) (xs : List ℕ) → i ≢ j
      → count_of i (history_after s j history xs) ≡ count_of i history
  other_after i history [] differ = refl
  other_after i history (x ∷ xs) differ =
      other_after i (history ++ entry_after s j history x) xs differ ∙ other_once i history x differ

-- the numbers of a worker's transactions
places_within : (j x : ℕ) (owners : List ℕ)
    → AllByRecursion (λ y. (x ≤ y) × (y < x + length owners)) (places_of j x owners)
places_within j x [] = tt
places_within j x (owner ∷ owners) =
    let rest = all_map (λ y. (suc x ≤ y) × (y < suc x + length owners)) (λ y. (x ≤ y)
    × (y < x + length (owner ∷ owners))) (places_of j (suc x) owners)
    (λ y w. (omega (arith, w.0), omega (arith, w.1))) (places_within j (suc x) owners) in
    by_owner (owner == j) rest
  where
    by_owner : (b : Bool) → AllByRecursion (λ y. (x ≤ y) × (y < x + length (owner ∷ owners)))
        (places_of j (suc x) owners) → AllByRecursion (λ y. (x ≤ y) × (y < x + length (owner ∷ owners))) (if b then x
        ∷ places_of j (suc x) owners else places_of j (suc x) owners)
    by_owner true rest = ((omega arith, omega arith), rest)
    by_owner false rest = rest

txns_within : (s : Setting) (j : ℕ) → length s.owners ≡ length s.jobs
    → AllByRecursion (λ x. (1 ≤ x) × (x ≤ length s.jobs)) (txns_of j s.owners)
txns_within s j same =
    all_map (λ y. (1 ≤ y) × (y < 1 + length s.owners)) (λ x. (1 ≤ x) × (x ≤ length s.jobs)) (txns_of j s.owners)
    (λ y w. (w.0, omega (arith, w.1, same))) (places_within j 1 s.owners)

-- the history of all workers is sound
sound_end : (s : Setting) → length s.owners ≡ length s.jobs → (j : ℕ) (history : List CommitLine) (n : ℕ)
    → IsSound s history → IsSound s (end_after s j history n)
sound_end s same j history zero sound = sound
sound_end s same j history (suc n) sound =
    sound_end s same (suc j) (history_after s j history (txns_of j s.owners)) n
    (sound_after s j history (txns_of j s.owners) (txns_within s j same) sound)

end_grows : (s : Setting) (j : ℕ) (history : List CommitLine) (n : ℕ) → (more : List CommitLine)
    × (end_after s j history n ≡ history ++ more)
end_grows s j history zero = ([], sym (append-nil history))
end_grows s j history (suc n) =
    let own = history_grows s j history (txns_of j s.owners) in
    let rest = end_grows s (suc j) (history_after s j history (txns_of j s.owners)) n in
    (own.0 ++ rest.0, rest.1 ∙ ap (λ h. h ++ rest.0) own.1 ∙ append_assoc history own.0 rest.0)

module _ (s : Setting) (final : List CommitLine) (tss : List (List Tell)) where
  abbrev view : View
  view = by_history (rows_of s.rows) s.workers s.start final

  -- what one worker listed is what it may list
  worker_run : (j : ℕ) (history : List CommitLine) (more : List CommitLine) → 1 ≤ j → j ≤ s.workers
      → count_of j history ≡ 0 → final ≡ history_after s j history (txns_of j s.owners) ++ more
      → IsWorkerRun s view tss j (tells_after s j history (txns_of j s.owners))
  worker_run j history more low high none longer =
      let xs = txns_of j s.owners in
      record {
        sees = sees_all s j final low high history xs more (replicate s.workers s.start) longer
            (start-at_most s.workers 1 s.start history);
        follows = record {
          parts = parts_after s j history xs;
          read = parts_read s j history xs;
          settled = parts_settle s j history xs going refl;
          fulls = λ tidy. parts_follow s j view [] history xs;
        };
        answers = answers_all s j final history xs more longer;
        causes = causes_all s j final tss history xs more [] longer (omega (arith, none));
      }

  worker_runs : (j : ℕ) (history : List CommitLine) (n : ℕ) → 1 ≤ j → j + n ≡ s.workers + 1
      → ((i : ℕ) → j ≤ i → count_of i history ≡ 0) → final ≡ end_after s j history n
      → AreWorkerRuns s view tss j (map (tells_of s.jobs) (logs_after s j history n))
  worker_runs j history zero low all none longer = tt
  worker_runs j history (suc n) low all none longer =
      let xs = txns_of j s.owners in
      let next = history_after s j history xs in
      let grown = end_grows s (suc j) next n in
      let one = worker_run j history grown.0 low (omega (arith, all)) (none j (omega arith)) (longer ∙ grown.1) in (
        subst (IsWorkerRun s view tss j) (sym (tells_back s j history xs)) one,
        worker_runs (suc j) next n (omega arith) (omega (arith, all))
            (λ i above. other_after s j i history xs (λ q. omega (arith, q, above)) ∙ none i (omega (arith, above)))
            longer,
      )

pub length-logs_after : (s : Setting) (j : ℕ) (history : List CommitLine) (n : ℕ)
    → length (logs_after s j history n) ≡ n
length-logs_after s j history zero = refl
length-logs_after s j history (suc n) =
    ap suc (length-logs_after s (suc j) (history_after s j history (txns_of j s.owners)) n)

rows_back : (rows : List Row) → flat_map row_in (audit_of rows) ≡ rows
rows_back [] = refl
rows_back (r ∷ rs) = ap (λ qs. r ∷ qs) (rows_back rs)

audit_lines : (tss : List (List Tell)) (rows : List Row) → AllByRecursion (IsAuditLine tss) (audit_of rows)
audit_lines tss [] = tt
audit_lines tss (r ∷ rs) = (record { absent = λ none. absurd cc; locked = λ yes. absurd cc }, audit_lines tss rs)

-- the report of the serial run, with the final rows as its audit, is a run
pub serial_is_run : (s : Setting) (r : Report) (rows : List Row) → length s.owners ≡ length s.jobs
    → r.history ≡ end_after s 1 [] s.workers → r.logs ≡ logs_after s 1 [] s.workers → r.audit ≡ audit_of rows
    → ListsRows rows (state_at (rows_of s.rows) r.history) → IsRun s r
serial_is_run s r rows same history logs audit lists =
    let sound = subst (IsSound s) (sym history)
    (sound_end s same 1 [] s.workers (record { legal = tt; numbered = tt; once = tt })) in
    let tss = tells_in_report s r in
    let told : tss ≡ map (tells_of s.jobs) (logs_after s 1 [] s.workers) = ap (map (tells_of s.jobs)) logs in
    let listed : (e : CommitLine) → times_listed e 1 tss ≡ times_in e r.history = λ e.
    let counts = times_after s e 1 [] s.workers in
    ap (times_listed e 1) told ∙ omega (arith, counts) ∙ ap (times_in e) (sym history) in
    record {
      one_log_each = ap length logs ∙ length-logs_after s 1 [] s.workers;
      legal = sound.legal;
      numbered = sound.numbered;
      workers = subst (AreWorkerRuns s (by_history (rows_of s.rows) s.workers s.start r.history) tss 1) (sym told)
          (worker_runs s r.history tss 1 [] s.workers (omega arith) (omega arith) (λ i above. refl) history);
      listed = all_map (IsOnce s.start r.history) (λ e. times_listed e 1 tss ≡ 1) r.history (λ e o. listed e ∙ o.once)
          sound.once;
      audit = record {
        state = subst (λ qs. ListsRows qs (state_at (rows_of s.rows) r.history))
            (sym (ap (flat_map row_in) audit ∙ rows_back rows)) lists;
        lines = subst (AllByRecursion (IsAuditLine tss)) (sym audit) (audit_lines tss rows);
      };
    }
