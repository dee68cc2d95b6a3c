-- One attempt of a serial run: what it does to the history, and why it may be told so.
use Rattle.std.proofs.Common.{◌≡◌, ℕ, ◌+◌, ◌≤◌, Bool, true, false, cond, List, [], ◌∷◌, ◌++◌, length, take, map, refl}
use Rattle.std.proofs.Common.{ap, sym, ◌∙◌, subst, arith, append_assoc, append-nil, le_refl, Some, inl, inr}
use Rattle.std.proofs.Common.{length-append}
use Rattle.std.specs.Prelude.{◌==◌, unwrap_or}
use Rattle.std.specs.List.{AllByRecursion}
use Rattle.std.proofs.Math.Seq.{take-length, drop-length, take-append_seam}
use Rattle.std.proofs.lemmas.Bool.{eqb-true, eqb-false}
use Rattle.si_model.specs.declared.row.Key.{Key}
use Rattle.si_model.specs.declared.row.Item.{Item}
use Rattle.si_model.specs.declared.log.Outcome.{Outcome}
use Rattle.si_model.specs.declared.log.Outcome.TheVariants.{Commit, ReadOnly, Declined as DeclinedAt, Spent}
use Rattle.si_model.specs.declared.report.CommitLine.{CommitLine}
use Rattle.si_model.specs.declared.evaluated.Evaluated.{Evaluated}
use Rattle.si_model.specs.declared.evaluated.Evaluated.TheVariants.{Done, Declined}
use Rattle.si_model.specs.declared.log.Event.TheVariants.{Tried}
use Rattle.si_model.specs.Lists.{Listed}
use Rattle.si_model.specs.Rows.{rows_of}
use Rattle.si_model.specs.Evaluation.{evaluation_of, reads_of}
use Rattle.si_model.specs.State.{state_at}
use Rattle.si_model.specs.History.{count_of, entries_at, newest_writer, keys_of, none_writes, MayFollow, IsLegal}
use Rattle.si_model.specs.History.{IsNumbered}
use Rattle.si_model.specs.Tells.{Tell, commit_in, last_number}
use Rattle.si_model.specs.View.{View, by_history}
use Rattle.si_model.specs.Setting.{Setting, by_script}
use Rattle.si_model.specs.Knowledge.{AreAtMost, SeesEvent, known_after, knowledge_with}
use Rattle.si_model.specs.Answers.{lock_key, AnswersIn}
use Rattle.si_model.specs.Causes.{EventCause}
use Rattle.namdb.specs.Serial.{outcome_of, lock_on, locks_by, writes_by, entry_by, ops_of, evaluated_after, tell_after}
use Rattle.namdb.specs.Serial.{entry_after}
use Rattle.namdb.proofs.HistoryLemmas.{legal_more, numbered_more, entries_at-own, count_of-own}

-- the first entries of a longer history
pub first_entries : (history more : List CommitLine) → take (length history) (history ++ more) ≡ history
first_entries history more = take-append_seam history more

pub listed_middle : {A : Type 0} (xs ys : List A) (x : A) → Listed x (xs ++ x ∷ [] ++ ys)
listed_middle [] ys x = inl refl
listed_middle (z ∷ xs) ys x = inr (listed_middle xs ys x)

spent_or_committed : (P : Outcome → Type 0) (greatest last : ℕ) (b : Bool) → (last == greatest) ≡ b
    → (last ≡ greatest → P Spent) → ((last ≡ greatest → ⊥) → P (Commit (last + 1)))
    → P (cond b Spent (Commit (last + 1)))
spent_or_committed P greatest last true e spent commit = spent (eqb-true last greatest e)
spent_or_committed P greatest last false e spent commit = commit (eqb-false last greatest e)

-- an attempt is declined, reads only, has no number left, or commits
pub by_ending : (P : Evaluated → Outcome → Type 0) (greatest last : ℕ) (e : Evaluated) →
    ((op : ℕ) (reads : List Item) → P (Declined op reads) (outcome_of greatest last (Declined op reads))) →
    ((reads : List Item) (guards : List Key)
    → P (Done reads [] guards) (outcome_of greatest last (Done reads [] guards))) →
    ((reads ws : List Item) (w : Item) (guards : List Key) → last ≡ greatest → P (Done reads (w ∷ ws) guards) Spent) →
    ((reads ws : List Item) (w : Item) (guards : List Key) → (last ≡ greatest → ⊥)
    → P (Done reads (w ∷ ws) guards) (Commit (last + 1))) →
    P e (outcome_of greatest last e)
by_ending P greatest last (Declined op reads) declined read spent commit = declined op reads
by_ending P greatest last (Done reads [] guards) declined read spent commit = read reads guards
by_ending P greatest last (Done reads (w ∷ ws) guards) declined read spent commit =
    spent_or_committed (P (Done reads (w ∷ ws) guards)) greatest last (last == greatest) refl (spent reads ws w guards)
    (commit reads ws w guards)

-- the same where it doesn't matter that a number is left
pub by_outcome : (P : Evaluated → Outcome → Type 0) (greatest last : ℕ) (e : Evaluated) →
    ((op : ℕ) (reads : List Item) → P (Declined op reads) (outcome_of greatest last (Declined op reads))) →
    ((reads : List Item) (guards : List Key)
    → P (Done reads [] guards) (outcome_of greatest last (Done reads [] guards))) →
    ((reads ws : List Item) (w : Item) (guards : List Key) → last ≡ greatest → P (Done reads (w ∷ ws) guards) Spent) →
    ((reads ws : List Item) (w : Item) (guards : List Key) → P (Done reads (w ∷ ws) guards) (Commit (last + 1))) →
    P e (outcome_of greatest last e)
by_outcome P greatest last e declined read spent commit =
    by_ending P greatest last e declined read spent (λ reads ws w guards left. commit reads ws w guards)

last_number-append : (n : ℕ) (ts : List Tell) (t : Tell)
    → last_number n (ts ++ t ∷ []) ≡ unwrap_or (commit_in t.event) (last_number n ts)
last_number-append n [] t = refl
last_number-append n (u ∷ us) t = last_number-append (unwrap_or (commit_in u.event) n) us t

module _ (s : Setting) (j : ℕ) (history : List CommitLine) (x : ℕ) where
  -- the entry that a commit adds
  abbrev added : List Item → CommitLine
  added writes = record {
    worker = j;
    number = s.start + count_of j history + 1;
    prefix = length history;
    txn = x;
    writes = writes;
  }

  may_follow : (reads ws : List Item) (w : Item) (guards : List Key)
      → evaluated_after s j history x ≡ Done reads (w ∷ ws) guards → 1 ≤ x → x ≤ length s.jobs
      → MayFollow s.widths (rows_of s.rows) s.jobs history (added (w ∷ ws))
  may_follow reads ws w guards e low high = record {
    job = (low, high);
    prefix = le_refl (length history);
    reads = reads;
    guards = guards;
    evaluates = ap (λ h. evaluation_of s.widths (state_at (rows_of s.rows) h) (ops_of s x)) (take-length history) ∙ e;
    writes = omega arith;
    first_wins = ap (λ es. none_writes (keys_of (w ∷ ws) guards) es) (drop-length history);
  }

  -- the history stays legal
  pub legal_after : IsLegal s.widths (rows_of s.rows) s.jobs history → 1 ≤ x → x ≤ length s.jobs
      → IsLegal s.widths (rows_of s.rows) s.jobs (history ++ entry_after s j history x)
  legal_after legal low high =
      by_outcome (λ e o. evaluated_after s j history x ≡ e
      → IsLegal s.widths (rows_of s.rows) s.jobs (history ++ entry_by j x (length history) (writes_by e o) o))
      s.greatest (s.start + count_of j history) (evaluated_after s j history x)
      (λ op reads e. subst (IsLegal s.widths (rows_of s.rows) s.jobs) (sym (append-nil history)) legal)
      (λ reads guards e. subst (IsLegal s.widths (rows_of s.rows) s.jobs) (sym (append-nil history)) legal)
      (λ reads ws w guards l e. subst (IsLegal s.widths (rows_of s.rows) s.jobs) (sym (append-nil history)) legal)
      (λ reads ws w guards e. legal_more s.widths (rows_of s.rows) s.jobs [] history (added (w ∷ ws)) legal
      (may_follow reads ws w guards e low high))
      refl

  -- the numbers go on
  pub numbered_after : IsNumbered s.start history → IsNumbered s.start (history ++ entry_after s j history x)
  numbered_after numbered =
      by_outcome (λ e o. IsNumbered s.start (history ++ entry_by j x (length history) (writes_by e o) o)) s.greatest
      (s.start + count_of j history) (evaluated_after s j history x)
      (λ op reads. subst (IsNumbered s.start) (sym (append-nil history)) numbered)
      (λ reads guards. subst (IsNumbered s.start) (sym (append-nil history)) numbered)
      (λ reads ws w guards l. subst (IsNumbered s.start) (sym (append-nil history)) numbered)
      (λ reads ws w guards. numbered_more s.start [] history (added (w ∷ ws)) numbered refl)

  -- what worker j tells of an attempt that ended so
  abbrev pub told : Evaluated → Outcome → Tell
  told e o = record {
    event = Tried (record {
      txn = x;
      nth = 1;
      prefix = Some (length history);
      reads = length (reads_of e);
      locks = length (locks_by history e o);
      writes = length (writes_by e o);
      outcome = o;
    });
    ops = ops_of s x;
    reads = reads_of e;
    locks = locks_by history e o;
    writes = writes_by e o;
    snap = entries_at s.workers s.start history;
  }

  -- in a longer history
  module _ (final more : List CommitLine) (longer : final ≡ history ++ entry_after s j history x ++ more) where
    abbrev view : View
    view = by_history (rows_of s.rows) s.workers s.start final

    first : take (length history) final ≡ history
    first = ap (take (length history)) (longer ∙ append_assoc history (entry_after s j history x) more)
        ∙ first_entries history (entry_after s j history x ++ more)

    value_first : (e : Evaluated) → evaluated_after s j history x ≡ e
        → evaluation_of s.widths (state_at (rows_of s.rows) (take (length history) final)) (ops_of s x) ≡ e
    value_first e is = ap (λ h. evaluation_of s.widths (state_at (rows_of s.rows) h) (ops_of s x)) first ∙ is

    -- the locks of a commit bear the newest stamps
    newest_locks : (keys : List Key) → AllByRecursion
        (λ l. l.stamp ≡ newest_writer (lock_key l) (take (length history) final)) (map (lock_on history) keys)
    newest_locks [] = tt
    newest_locks (key ∷ keys) = (ap (newest_writer key) (sym first), newest_locks keys)

    locked_keys : (keys : List Key) → map lock_key (map (lock_on history) keys) ≡ keys
    locked_keys [] = refl
    locked_keys (key ∷ keys) = ap (λ ks. key ∷ ks) (locked_keys keys)

    -- the answer is the evaluation's
    pub answers_after : AnswersIn s (by_script s) view j (tell_after s j history x) (tell_after s j history x).event
    answers_after =
        by_outcome (λ e o. evaluated_after s j history x ≡ e
        → entry_after s j history x ≡ entry_by j x (length history) (writes_by e o) o
        → AnswersIn s (by_script s) view j (told e o) (told e o).event) s.greatest
        (s.start + count_of j history) (evaluated_after s j history x)
        (λ op reads e same. ((value_first _ e, refl), tt))
        (λ reads guards e same. ((guards, value_first _ e, refl), tt))
        (λ reads ws w guards l e same. ((w ∷ ws, guards, value_first _ e, (omega arith, refl)), tt))
        (λ reads ws w guards e same.
        let entry : Listed (added (w ∷ ws)) final =
        subst (Listed (added (w ∷ ws))) (ap (λ es. history ++ es ++ more) (sym same) ∙ sym longer)
        (listed_middle history more (added (w ∷ ws))) in (
          (w ∷ ws, guards, value_first _ e, (entry, locked_keys (keys_of (w ∷ ws) guards))),
          newest_locks (keys_of (w ∷ ws) guards),
        ))
        refl refl

    entries_first : entries_at s.workers s.start (take (length history) final) ≡ entries_at s.workers s.start history
    entries_first = ap (entries_at s.workers s.start) first

    within : length history ≤ length final
    within = omega (
      arith,
      ap length longer,
      length-append (history ++ entry_after s j history x) more,
      length-append history (entry_after s j history x),
    )

    -- it sees no less than is known
    pub sees_after : (known : List ℕ) → AreAtMost known (entries_at s.workers s.start history)
        → SeesEvent view (tell_after s j history x) known (tell_after s j history x).event
    sees_after known most =
        by_outcome (λ e o. SeesEvent view (told e o) known (told e o).event) s.greatest (s.start + count_of j history)
        (evaluated_after s j history x)
        (λ op reads. ((within, subst (AreAtMost known) (sym entries_first) most), tt))
        (λ reads guards. ((within, subst (AreAtMost known) (sym entries_first) most), tt))
        (λ reads ws w guards l. ((within, subst (AreAtMost known) (sym entries_first) most), tt))
        (λ reads ws w guards. ((within, subst (AreAtMost known) (sym entries_first) most), tt))

    -- and afterwards the published numbers are known
    pub known_then : (known : List ℕ) → 1 ≤ j → j ≤ s.workers
        → known_after view j (tell_after s j history x) known (tell_after s j history x).event
        ≡ entries_at s.workers s.start (history ++ entry_after s j history x)
    known_then known low high =
        by_outcome (λ e o. known_after view j (told e o) known (told e o).event
        ≡ entries_at s.workers s.start (history ++ entry_by j x (length history) (writes_by e o) o)) s.greatest
        (s.start + count_of j history) (evaluated_after s j history x)
        (λ op reads. entries_first ∙ ap (entries_at s.workers s.start) (sym (append-nil history)))
        (λ reads guards. entries_first ∙ ap (entries_at s.workers s.start) (sym (append-nil history)))
        (λ reads ws w guards l. entries_first ∙ ap (entries_at s.workers s.start) (sym (append-nil history)))
        (λ reads ws w guards. ap (λ ns. knowledge_with ns j (s.start + count_of j history + 1)) entries_first
        ∙ entries_at-own s.workers s.start history (added (w ∷ ws)) low high)

    -- it has its cause
    pub caused_after : (tss : List (List Tell)) (done : List Tell)
        → last_number s.start done ≡ s.start + count_of j history
        → EventCause s view tss j done (tell_after s j history x) (tell_after s j history x).event
    caused_after tss done number =
        by_outcome (λ e o. EventCause s view tss j done (told e o) (told e o).event) s.greatest
        (s.start + count_of j history) (evaluated_after s j history x)
        (λ op reads. tt)
        (λ reads guards. tt)
        (λ reads ws w guards l. number ∙ l)
        (λ reads ws w guards. tt)

  -- the last number that is listed is the published one
  pub last_number_then : (done : List Tell) → last_number s.start done ≡ s.start + count_of j history
      → last_number s.start (done ++ tell_after s j history x ∷ []) ≡ s.start
      + count_of j (history ++ entry_after s j history x)
  last_number_then done number =
      let same = number ∙ ap (λ h. s.start + count_of j h) (sym (append-nil history)) in
      by_outcome (λ e o. last_number s.start (done ++ told e o ∷ []) ≡ s.start
      + count_of j (history ++ entry_by j x (length history) (writes_by e o) o)) s.greatest
      (s.start + count_of j history) (evaluated_after s j history x)
      (λ op reads. last_number-append s.start done (told (Declined op reads) (DeclinedAt op)) ∙ same)
      (λ reads guards. last_number-append s.start done (told (Done reads [] guards) ReadOnly) ∙ same)
      (λ reads ws w guards l. last_number-append s.start done (told (Done reads (w ∷ ws) guards) Spent) ∙ same)
      (λ reads ws w guards.
      let next : s.start + count_of j history + 1 ≡ s.start + count_of j (history ++ added (w ∷ ws) ∷ []) =
      omega (arith, count_of-own j history (added (w ∷ ws)) refl) in
      last_number-append s.start done (told (Done reads (w ∷ ws) guards) (Commit (s.start + count_of j history + 1)))
      ∙ next)
