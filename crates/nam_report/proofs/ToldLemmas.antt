-- What the text of a report tells is what it shows of the report.
use Rattle.std.proofs.Common.{◌≡◌, ℕ, zero, suc, ◌+◌, ◌^◌, ◌<◌, List, [], ◌∷◌, ◌++◌, length, map, take, drop, Some}
use Rattle.std.proofs.Common.{refl, sym, ap, ◌∙◌, arith, append_assoc, append-nil}
use Rattle.std.specs.Prelude.{codes}
use Rattle.std.specs.List.{AllByRecursion}
use Rattle.std.specs.Fmt.{decimal}
use Rattle.std.proofs.lemmas.List.{length-take-le, take-append-drop, length-drop, nil_from_length}
use Rattle.si_model.specs.declared.row.Item.{Item}
use Rattle.si_model.specs.declared.log.Lock.{Lock}
use Rattle.si_model.specs.declared.log.Event.{Event}
use Rattle.si_model.specs.declared.log.Event.TheVariants.{Tried, NoRoom, Moved, Collected, CollectAgain, CollectCut}
use Rattle.si_model.specs.declared.log.Event.TheVariants.{TidyCut, TailCut, Finished}
use Rattle.si_model.specs.declared.log.Log.{Log}
use Rattle.si_model.specs.declared.report.CommitLine.{CommitLine}
use Rattle.si_model.specs.declared.report.AuditRow.{AuditRow}
use Rattle.si_model.specs.declared.report.Report.{Report}
use Rattle.si_model.specs.Tells.{reads_in, locks_in, total}
use Rattle.nam_catalog.specs.declared.shape.Table.{Table}
use Rattle.nam_catalog.specs.Tables.{widths_of}
use Rattle.nam_text.specs.Spelling.{IsPlain, IsSpelling}
use Rattle.nam_text.specs.Kinds.{LineKind, fields, line_at}
use Rattle.nam_text.proofs.Again.{decimal_plain}
use Rattle.nam_report.specs.Spelling.{event_of, spelt_event, item_kind, lock_kind, entry_kind, audit_row_kind, worker_kind}
use Rattle.nam_report.specs.Text.{items_text, locks_text, event_text, event_line, events_text}
use Rattle.nam_report.specs.Text.{log_text, logs_text, entries_text, entry_text, audit_rows_text, report_text}
use Rattle.nam_report.specs.Text.{history_text, audit_text}
use Rattle.nam_report.specs.Fits.{ItemFits, LockFits, EventFits, LogFits, EntryFits, AuditRowFits}
use Rattle.nam_report.specs.Numbers.{IsU64, ItemNumbersFit, LockNumbersFit, EventNumbersFit, LogNumbersFit}
use Rattle.nam_report.specs.Numbers.{EntryNumbersFit, RowNumbersFit, NumbersFit}
use Rattle.nam_report.specs.Shown.{shown_event, shown_log}
use Rattle.nam_report.proofs.SpellingLemmas.{item_is, lock_is, entry_is, worker_is, audit_row_is, bare, event_again}
use Rattle.nam_report.proofs.SpellingLemmas.{event_plain}
use Rattle.nam_report.proofs.NamedLemmas.{AreNamed}
use Rattle.nam_report.proofs.LineFitsLemmas.{fits_item, fits_lock, fits_event, fits_row, fits_entry, fits_worker}
use Rattle.nam_report.proofs.Reader.{Told, with_read, with_lock, with_write, with_row, counted, with_event}
use Rattle.nam_report.proofs.Reader.{with_entry, with_worker, with_some, with_each, with_fields, told, line_of, line_told}

-- ---- lists

-- a value is read again
kind_again : {L : Type 0} (k : LineKind L) → IsSpelling k.rest → (x : k.Value) → k.rest.Fits x
    → line_at k (k.rest.fields x) ≡ Some (k.line x)
kind_again k h x fits = rw (h.again x fits) refl

each_read : (is : List Item) (p : Told) → with_each with_read is p ≡ record p { own_reads = is ++ p.own_reads }
each_read [] p = refl
each_read (i ∷ is) p = ap (with_read i) (each_read is p)

each_lock : (ls : List Lock) (p : Told) → with_each with_lock ls p ≡ record p { own_locks = ls ++ p.own_locks }
each_lock [] p = refl
each_lock (l ∷ ls) p = ap (with_lock l) (each_lock ls p)

each_write : (is : List Item) (p : Told) → with_each with_write is p ≡ record p { own_writes = is ++ p.own_writes }
each_write [] p = refl
each_write (i ∷ is) p = ap (with_write i) (each_write is p)

each_row : (rows : List AuditRow) (p : Told) → with_each with_row rows p ≡ record p { audit = rows ++ p.audit }
each_row [] p = refl
each_row (a ∷ rows) p = ap (with_row a) (each_row rows p)

regroup : (a b c d : List ℕ) → (a ++ b ++ c) ++ d ≡ a ++ (b ++ (c ++ d))
regroup a b c d = append_assoc (a ++ b) c d ∙ append_assoc a b (c ++ d)

all_take : {X : Type 0} (P : X → Type 0) (n : ℕ) (xs : List X) → AllByRecursion P xs → AllByRecursion P (take n xs)
all_take P zero xs all = tt
all_take P (suc n) [] all = tt
all_take P (suc n) (x ∷ xs) all = (all.0, all_take P n xs all.1)

all_drop : {X : Type 0} (P : X → Type 0) (n : ℕ) (xs : List X) → AllByRecursion P xs → AllByRecursion P (drop n xs)
all_drop P zero xs all = all
all_drop P (suc n) [] all = tt
all_drop P (suc n) (x ∷ xs) all = all_drop P n xs all.1

-- an event without the count of its writes, where it has the counts of its reads and locks again
counted_again : (e : Event) (n m : ℕ) → reads_in e ≡ n → locks_in e ≡ m → counted n m (bare e) ≡ shown_event e
counted_again (Tried a) n m reads locks = rw (sym reads, sym locks) refl
counted_again (NoRoom b) n m reads locks = refl
counted_again (Moved b t k stamp how) n m reads locks = refl
counted_again (Collected b p entries cut) n m reads locks = refl
counted_again (CollectAgain b j first second) n m reads locks = refl
counted_again (CollectCut b) n m reads locks = refl
counted_again (TidyCut t k) n m reads locks = refl
counted_again TailCut n m reads locks = refl
counted_again (Finished how) n m reads locks = refl

-- between the lines of events, of logs and of entries no items are left that a line before could own
abbrev between : List Event → List Item → List Lock → List CommitLine → List Log → List AuditRow → Told
between events reads locks entries logs audit = record {
  own_reads = [];
  own_locks = [];
  own_writes = [];
  events = events;
  reads = reads;
  locks = locks;
  entries = entries;
  logs = logs;
  audit = audit;
}

module _ (workers : ℕ) (tables : List Table) (named : AreNamed workers tables) where
  -- ---- single lines

  -- a line of plain fields, and more after it
  first_told : (w : List ℕ) (fs : List (List ℕ)) (more rest : List ℕ) → AllByRecursion IsPlain (w ∷ fs)
      → told tables ((line_of tables w fs ++ more) ++ rest) ≡ with_fields tables (w ∷ fs) (told tables (more ++ rest))
  first_told w fs more rest plain =
      ap (told tables) (append_assoc (line_of tables w fs) more rest) ∙ line_told tables w fs (more ++ rest) plain

  item_told : (letter : List ℕ) → IsPlain letter → (add : Item → Told → Told)
      → ((fs : List (List ℕ)) (p : Told)
      → with_fields tables (letter ∷ fs) p ≡ with_some (line_at (item_kind tables letter) fs) add p)
      → (is : List Item) → AllByRecursion (ItemFits (widths_of tables)) is → AllByRecursion ItemNumbersFit is
      → (rest : List ℕ) → told tables (items_text tables letter is ++ rest) ≡ with_each add is (told tables rest)
  item_told letter plain add is_added [] fit small rest = refl
  item_told letter plain add is_added (i ∷ is) fit small rest =
      let k = item_kind tables letter in
      let x : k.Value = (i.table, (i.key, i.value)) in
      let fits = fits_item workers tables named letter i fit.0 small.0 in
      let more = items_text tables letter is in
      first_told letter (k.rest.fields x) more rest (plain, (item_is tables letter).plain x fits)
      ∙ is_added (k.rest.fields x) (told tables (more ++ rest))
      ∙ ap (λ o. with_some o add (told tables (more ++ rest))) (kind_again k (item_is tables letter) x fits)
      ∙ ap (add i) (item_told letter plain add is_added is fit.1 small.1 rest)

  reads_told : (is : List Item) → AllByRecursion (ItemFits (widths_of tables)) is → AllByRecursion ItemNumbersFit is
      → (rest : List ℕ) → told tables (items_text tables (codes "r") is ++ rest)
      ≡ record (told tables rest) { own_reads = is ++ (told tables rest).own_reads }
  reads_told is fit small rest =
      item_told (codes "r") refl with_read (λ fs p. refl) is fit small rest ∙ each_read is (told tables rest)

  writes_told : (is : List Item) → AllByRecursion (ItemFits (widths_of tables)) is → AllByRecursion ItemNumbersFit is
      → (rest : List ℕ) → told tables (items_text tables (codes "w") is ++ rest)
      ≡ record (told tables rest) { own_writes = is ++ (told tables rest).own_writes }
  writes_told is fit small rest =
      item_told (codes "w") refl with_write (λ fs p. refl) is fit small rest ∙ each_write is (told tables rest)

  each_lock_told : (ls : List Lock) → AllByRecursion (LockFits (widths_of tables)) ls
      → AllByRecursion LockNumbersFit ls → (rest : List ℕ)
      → told tables (locks_text tables ls ++ rest) ≡ with_each with_lock ls (told tables rest)
  each_lock_told [] fit small rest = refl
  each_lock_told (l ∷ ls) fit small rest =
      let k = lock_kind tables in
      let fits = fits_lock workers tables named l fit.0 small.0 in
      let more = locks_text tables ls in
      first_told (codes "l") (k.rest.fields l) more rest (refl, (lock_is tables).plain l fits)
      ∙ ap (λ o. with_some o with_lock (told tables (more ++ rest))) (kind_again k (lock_is tables) l fits)
      ∙ ap (with_lock l) (each_lock_told ls fit.1 small.1 rest)

  locks_told : (ls : List Lock) → AllByRecursion (LockFits (widths_of tables)) ls → AllByRecursion LockNumbersFit ls
      → (rest : List ℕ) → told tables (locks_text tables ls ++ rest)
      ≡ record (told tables rest) { own_locks = ls ++ (told tables rest).own_locks }
  locks_told ls fit small rest = each_lock_told ls fit small rest ∙ each_lock ls (told tables rest)

  each_row_told : (rows : List AuditRow) → AllByRecursion (AuditRowFits (widths_of tables)) rows
      → AllByRecursion RowNumbersFit rows → (rest : List ℕ)
      → told tables (audit_rows_text tables rows ++ rest) ≡ with_each with_row rows (told tables rest)
  each_row_told [] fit small rest = refl
  each_row_told (a ∷ rows) fit small rest =
      let k = audit_row_kind tables in
      let x : k.Value = (a.table, (a.key, (a.value, a.locked))) in
      let fits = fits_row workers tables named a fit.0 small.0 in
      let more = audit_rows_text tables rows in
      first_told (codes "a") (k.rest.fields x) more rest (refl, (audit_row_is tables).plain x fits)
      ∙ ap (λ o. with_some o with_row (told tables (more ++ rest))) (kind_again k (audit_row_is tables) x fits)
      ∙ ap (with_row a) (each_row_told rows fit.1 small.1 rest)

  event_fields : (e : Event) → (spelt_event tables e).Fits → (p : Told)
      → with_fields tables (fields (spelt_event tables e)) p ≡ with_event (bare e) p
  unfolding spelt_event
  event_fields (Tried a) fits p = ap (λ o. with_some o with_event p) (event_again tables (Tried a) fits)
  event_fields (NoRoom b) fits p = ap (λ o. with_some o with_event p) (event_again tables (NoRoom b) fits)
  event_fields (Moved b t k stamp how) fits p =
      ap (λ o. with_some o with_event p) (event_again tables (Moved b t k stamp how) fits)
  event_fields (Collected b x entries cut) fits p =
      ap (λ o. with_some o with_event p) (event_again tables (Collected b x entries cut) fits)
  event_fields (CollectAgain b j first second) fits p =
      ap (λ o. with_some o with_event p) (event_again tables (CollectAgain b j first second) fits)
  event_fields (CollectCut b) fits p = ap (λ o. with_some o with_event p) (event_again tables (CollectCut b) fits)
  event_fields (TidyCut t k) fits p = ap (λ o. with_some o with_event p) (event_again tables (TidyCut t k) fits)
  event_fields TailCut fits p = ap (λ o. with_some o with_event p) (event_again tables TailCut fits)
  event_fields (Finished how) fits p = ap (λ o. with_some o with_event p) (event_again tables (Finished how) fits)

  -- ---- events and logs

  -- an event with the reads and locks that it owns
  event_told : (e : Event) (rs : List Item) (ls : List Lock) → EventFits workers (widths_of tables) e
      → EventNumbersFit e → AllByRecursion (ItemFits (widths_of tables)) rs → AllByRecursion ItemNumbersFit rs
      → AllByRecursion (LockFits (widths_of tables)) ls → AllByRecursion LockNumbersFit ls
      → reads_in e ≡ length rs → locks_in e ≡ length ls → (rest : List ℕ) (events : List Event) (reads : List Item)
      (locks : List Lock) (logs : List Log) (audit : List AuditRow)
      → told tables rest ≡ between events reads locks [] logs audit
      → told tables (event_text tables e rs ls ++ rest)
      ≡ between (shown_event e ∷ events) (rs ++ reads) (ls ++ locks) [] logs audit
  event_told e rs ls fit small rs_fit rs_small ls_fit ls_small count_reads count_locks rest events reads locks logs audit
      is =
      let k = spelt_event tables e in
      let fits = fits_event workers tables named e fit small in
      let item_lines = items_text tables (codes "r") rs in
      let lock_lines = locks_text tables ls in
      let own : told tables (item_lines ++ (lock_lines ++ rest))
      ≡ record (between events reads locks [] logs audit) { own_reads = rs; own_locks = ls }
      = reads_told rs rs_fit rs_small (lock_lines ++ rest)
      ∙ ap (λ (p : Told). record p { own_reads = rs ++ p.own_reads })
      (locks_told ls ls_fit ls_small rest ∙ ap (λ (p : Told). record p { own_locks = ls ++ p.own_locks }) is)
      ∙ rw (append-nil rs, append-nil ls) refl in
      ap (told tables) (regroup (event_line tables e) item_lines lock_lines rest)
      ∙ line_told tables k.word k.rest (item_lines ++ (lock_lines ++ rest)) (event_plain tables e fits)
      ∙ event_fields e fits (told tables (item_lines ++ (lock_lines ++ rest)))
      ∙ ap (with_event (bare e)) own
      ∙ ap (λ (shown : Event). between (shown ∷ events) (rs ++ reads) (ls ++ locks) [] logs audit)
      (counted_again e (length rs) (length ls) count_reads count_locks)

  events_told : (es : List Event) (rs : List Item) (ls : List Lock)
      → AllByRecursion (EventFits workers (widths_of tables)) es → AllByRecursion EventNumbersFit es
      → AllByRecursion (ItemFits (widths_of tables)) rs → AllByRecursion ItemNumbersFit rs
      → AllByRecursion (LockFits (widths_of tables)) ls → AllByRecursion LockNumbersFit ls
      → total reads_in es ≡ length rs → total locks_in es ≡ length ls → (rest : List ℕ) (logs : List Log)
      (audit : List AuditRow) → told tables rest ≡ between [] [] [] [] logs audit
      → told tables (events_text tables es rs ls ++ rest) ≡ between (map shown_event es) rs ls [] logs audit
  events_told [] rs ls fit small rs_fit rs_small ls_fit ls_small count_reads count_locks rest logs audit is =
      rw (nil_from_length rs (sym count_reads), nil_from_length ls (sym count_locks)) is
  events_told (e ∷ es) rs ls fit small rs_fit rs_small ls_fit ls_small count_reads count_locks rest logs audit is =
      let n = reads_in e in
      let m = locks_in e in
      let later = events_text tables es (drop n rs) (drop m ls) in
      let all_reads = length-drop n rs in
      let all_locks = length-drop m ls in
      let after : told tables (later ++ rest) ≡ between (map shown_event es) (drop n rs) (drop m ls) [] logs audit
      = events_told es (drop n rs) (drop m ls) fit.1 small.1
      (all_drop (ItemFits (widths_of tables)) n rs rs_fit) (all_drop ItemNumbersFit n rs rs_small)
      (all_drop (LockFits (widths_of tables)) m ls ls_fit) (all_drop LockNumbersFit m ls ls_small)
      (omega (arith, count_reads, all_reads)) (omega (arith, count_locks, all_locks)) rest logs audit is in
      ap (told tables) (append_assoc (event_text tables e (take n rs) (take m ls)) later rest)
      ∙ event_told e (take n rs) (take m ls) fit.0 small.0
      (all_take (ItemFits (widths_of tables)) n rs rs_fit) (all_take ItemNumbersFit n rs rs_small)
      (all_take (LockFits (widths_of tables)) m ls ls_fit) (all_take LockNumbersFit m ls ls_small)
      (sym (length-take-le n rs (omega (arith, count_reads)))) (sym (length-take-le m ls (omega (arith, count_locks))))
      (later ++ rest) (map shown_event es) (drop n rs) (drop m ls) logs audit after
      ∙ rw (take-append-drop n rs, take-append-drop m ls) refl

  -- the logs of worker j and those after it
  logs_told : (j : ℕ) (logs : List Log) → j + length logs < 2 ^ 64
      → AllByRecursion (LogFits workers (widths_of tables)) logs → AllByRecursion LogNumbersFit logs → (rest : List ℕ)
      (audit : List AuditRow) → told tables rest ≡ between [] [] [] [] [] audit
      → told tables (logs_text tables j logs ++ rest) ≡ between [] [] [] [] (map shown_log logs) audit
  logs_told j [] few fit small rest audit is = is
  logs_told j (l ∷ logs) few fit small rest audit is =
      let x : worker_kind.Value = (j, length l.events) in
      let fits = fits_worker j (length l.events) (omega (arith, few)) small.0.few in
      let events = events_text tables l.events l.reads l.locks in
      let later = logs_text tables (j + 1) logs in
      let after = logs_told (j + 1) logs (omega (arith, few)) fit.1 small.1 rest audit is in
      let own = events_told l.events l.reads l.locks fit.0.events small.0.events fit.0.reads small.0.reads fit.0.locks
      small.0.locks fit.0.counts.reads fit.0.counts.locks (later ++ rest) (map shown_log logs) audit after in
      ap (told tables) (append_assoc (log_text tables j l) later rest)
      ∙ first_told (codes "worker") (worker_kind.rest.fields x) events (later ++ rest) (refl, worker_is.plain x fits)
      ∙ ap with_worker own

  -- ---- the history and the audit

  -- entry q of the history and those after it
  entries_told : (q : ℕ) (entries : List CommitLine) → q + length entries < 2 ^ 64 + 1
      → AllByRecursion (EntryFits (widths_of tables)) entries → AllByRecursion EntryNumbersFit entries
      → (rest : List ℕ) (logs : List Log) (audit : List AuditRow)
      → told tables rest ≡ between [] [] [] [] logs audit
      → told tables (entries_text tables q entries ++ rest) ≡ between [] [] [] entries logs audit
  entries_told q [] few fit small rest logs audit is = is
  entries_told q (c ∷ entries) few fit small rest logs audit is =
      let x : entry_kind.Value = (q, (c.worker, (c.number, (c.prefix, c.txn)))) in
      let fits = fits_entry q c (omega (arith, few)) small.0 in
      let writes = items_text tables (codes "w") c.writes in
      let later = entries_text tables (q + 1) entries in
      let after = entries_told (q + 1) entries (omega (arith, few)) fit.1 small.1 rest logs audit is in
      let own : told tables (writes ++ (later ++ rest))
      ≡ record (between [] [] [] entries logs audit) { own_writes = c.writes }
      = writes_told c.writes fit.0 small.0.writes (later ++ rest)
      ∙ ap (λ (p : Told). record p { own_writes = c.writes ++ p.own_writes }) after
      ∙ rw (append-nil c.writes) refl in
      ap (told tables) (append_assoc (entry_text tables q c) later rest)
      ∙ first_told (codes "c") (entry_kind.rest.fields x) writes (later ++ rest) (refl, entry_is.plain x fits)
      ∙ ap (λ o. with_some o with_entry (told tables (writes ++ (later ++ rest)))) (kind_again entry_kind entry_is x fits)
      ∙ ap (with_entry (entry_kind.line x)) own

  end_told : told tables (codes "end\n") ≡ between [] [] [] [] [] []
  unfolding event_of
  end_told = refl

  audit_told : (audit : List AuditRow) → IsU64 (length audit) → AllByRecursion (AuditRowFits (widths_of tables)) audit
      → AllByRecursion RowNumbersFit audit
      → told tables (audit_text tables audit ++ codes "end\n") ≡ between [] [] [] [] [] audit
  unfolding event_of
  audit_told audit few fit small =
      first_told (codes "audit") (decimal (length audit) ∷ []) (audit_rows_text tables audit) (codes "end\n")
      (refl, (decimal_plain (length audit) few, tt))
      ∙ each_row_told audit fit small (codes "end\n")
      ∙ ap (with_each with_row audit) end_told
      ∙ each_row audit (between [] [] [] [] [] [])
      ∙ rw (append-nil audit) refl

  -- a whole report
  pub report_told : (r : Report) → length r.logs ≡ workers
      → AllByRecursion (EntryFits (widths_of tables)) r.history
      → AllByRecursion (LogFits workers (widths_of tables)) r.logs
      → AllByRecursion (AuditRowFits (widths_of tables)) r.audit → NumbersFit r
      → told tables (report_text tables r) ≡ between [] [] [] r.history (map shown_log r.logs) r.audit
  unfolding event_of
  report_told r count history logs audit small =
      let entries = entries_text tables 1 r.history in
      let later = logs_text tables 1 r.logs ++ (audit_text tables r.audit ++ codes "end\n") in
      let few = named.few in
      let behind = audit_told r.audit small.rows audit small.audit in
      let after = logs_told 1 r.logs (omega (arith, count, few.1)) logs small.logs
      (audit_text tables r.audit ++ codes "end\n") r.audit behind in
      let start = codes "report 1\n" in
      let past = history_text tables r.history in
      let told_logs = logs_text tables 1 r.logs in
      ap (told tables) (append_assoc (start ++ past ++ told_logs) (audit_text tables r.audit) (codes "end\n")
      ∙ regroup start past told_logs (audit_text tables r.audit ++ codes "end\n"))
      ∙ line_told tables (codes "report") (codes "1" ∷ []) (history_text tables r.history ++ later) (refl, (refl, tt))
      ∙ first_told (codes "history") (decimal (length r.history) ∷ []) entries later
      (refl, (decimal_plain (length r.history) small.entries, tt))
      ∙ entries_told 1 r.history (omega (arith, small.entries)) history small.history later (map shown_log r.logs) r.audit
      after
