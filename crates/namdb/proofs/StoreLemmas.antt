-- What a store holds after an attempt.
use Rattle.std.proofs.Common.{◌≡◌, ℕ, zero, suc, ◌+◌, ◌-◌, ◌<◌, ◌≤◌, cond, List, [], ◌∷◌, ◌++◌, length, map, refl, ap}
use Rattle.std.proofs.Common.{sym, ◌∙◌, subst, arith, append-nil, add-zero, inl, inr}
use Rattle.std.specs.Prelude.{slice_index, if◌then◌else◌, replicate, ◌==◌}
use Rattle.std.specs.List.{AllByRecursion}
use Rattle.std.specs.BTreeMap.{BTreeMap}
use Rattle.si_model.specs.declared.row.Key.{Key}
use Rattle.si_model.specs.declared.row.Item.{Item}
use Rattle.si_model.specs.declared.log.Stamp.{Stamp}
use Rattle.si_model.specs.declared.report.CommitLine.{CommitLine}
use Rattle.std.proofs.lemmas.Bool.{cases_Bool, eqb-true, eqb-false}
use Rattle.si_model.specs.declared.evaluated.Evaluated.{Evaluated}
use Rattle.si_model.specs.Committed.{rows_held}
use Rattle.si_model.specs.Setting.{Setting}
use Rattle.si_model.specs.Rows.{Rows, rows_of, writes_key, overlay}
use Rattle.si_model.specs.State.{state_at}
use Rattle.si_model.specs.History.{count_of, entries_from, entries_at, newest_from, newest_writer, stamp_of, stamp_at}
use Rattle.si_model.specs.History.{loader}
use Rattle.namdb.specs.Stamps.{lock_held, stamp_held}
use Rattle.namdb.specs.declared.store.Store.{Store}
use Rattle.namdb.specs.Store.{IsStore}
use Rattle.namdb.specs.Serial.{lock_on, writes_by, entry_by, vector_by, number_by, ops_of, evaluated_after}
use Rattle.namdb.specs.Serial.{outcome_after, entry_after}
use Rattle.namdb.proofs.HistoryLemmas.{entries_at-own, count_of-own, count_of-other}
use Rattle.nam_report.specs.Fits.{EntryFits}
use Rattle.nam_script.specs.Limits.{RowFits}
use Rattle.si_model.specs.Evaluation.{OpFits}
use Rattle.namdb.proofs.SerialLemmas.{by_outcome, by_ending}
use Rattle.namdb.specs.NamedRows.{named_keys}
use Rattle.namdb.proofs.EvaluateLemmas.{overlay_agrees, AreAmong}
use Rattle.namdb.proofs.NamedLemmas.{among-overlay, done_writes-named, own_named, loaded_among}
use Rattle.namdb.proofs.SerialFitsLemmas.{fit-entry}

-- the state with one entry more
pub state_more : (rows : Rows) (es : List CommitLine) (e : CommitLine)
    → state_at rows (es ++ e ∷ []) ≡ overlay e.writes (state_at rows es)
state_more rows [] e = refl
state_more rows (d ∷ ds) e = state_more (overlay d.writes rows) ds e

-- the newest writer with one entry more
pub newest_more : (s : Stamp) (key : Key) (es : List CommitLine) (e : CommitLine)
    → newest_from s key (es ++ e ∷ []) ≡ (if writes_key e.writes key then stamp_of e else newest_from s key es)
newest_more s key [] e = refl
newest_more s key (d ∷ ds) e = newest_more (if writes_key d.writes key then stamp_of d else s) key ds e

-- worker j's published number
entries_from-at : (n i k start : ℕ) (es : List CommitLine) → k < n
    → slice_index (entries_from n i start es) k ≡ start + count_of (i + k) es
entries_from-at zero i k start es l = absurd (omega arith)
entries_from-at (suc n) i zero start es l = ap (λ j. start + count_of j es) (sym (add-zero i))
entries_from-at (suc n) i (suc k) start es l =
    entries_from-at n (suc i) k start es (omega arith) ∙ ap (λ j. start + count_of j es) (omega arith)

pub entries_at-at : (n j start : ℕ) (es : List CommitLine) → 1 ≤ j → j ≤ n
    → slice_index (entries_at n start es) (j - 1) ≡ start + count_of j es
entries_at-at n j start es low high = entries_from-at n 1 (j - 1) start es (omega arith)
    ∙ ap (λ i. start + count_of i es) (omega arith)

length-entries_from : (n i start : ℕ) (es : List CommitLine) → length (entries_from n i start es) ≡ n
length-entries_from zero i start es = refl
length-entries_from (suc n) i start es = ap suc (length-entries_from n (suc i) start es)

pub length-entries_at : (n start : ℕ) (es : List CommitLine) → length (entries_at n start es) ≡ n
length-entries_at n start es = length-entries_from n 1 start es

-- at first each entry is start
pub entries_at-none : (n i start : ℕ) → entries_from n i start [] ≡ replicate n start
entries_at-none zero i start = refl
entries_at-none (suc n) i start = ap (λ ns. (start + 0) ∷ ns) (entries_at-none n (suc i) start)
    ∙ ap (λ m. m ∷ replicate n start) (add-zero start)

pub map_locks : (stamps : BTreeMap Key Stamp) (es : List CommitLine) (keys : List Key)
    → ((key : Key) → stamp_held stamps key ≡ newest_writer key es) → map (lock_held stamps) keys ≡ map (lock_on es) keys
map_locks stamps es [] same = refl
map_locks stamps es (key ∷ keys) same =
    ap (λ s. record { table = key.table; key = key.key; stamp = s } ∷ map (lock_held stamps) keys) (same key)
    ∙ ap (λ ls. lock_on es key ∷ ls) (map_locks stamps es keys same)

module _ (s : Setting) (j : ℕ) (history : List CommitLine) (x : ℕ) where
  abbrev evaluated : Evaluated
  evaluated = evaluated_after s j history x

  abbrev line : List Item → CommitLine
  line ws = record {
    worker = j;
    number = s.start + count_of j history + 1;
    prefix = length history;
    txn = x;
    writes = ws;
  }

  -- the vector has the published numbers
  vector_after : 1 ≤ j → j ≤ s.workers → vector_by j (outcome_after s j history x)
      (entries_at s.workers s.start history) ≡ entries_at s.workers s.start (history ++ entry_after s j history x)
  vector_after low high =
      let same = ap (entries_at s.workers s.start) (sym (append-nil history)) in
      by_outcome (λ e o. vector_by j o (entries_at s.workers s.start history)
      ≡ entries_at s.workers s.start (history ++ entry_by j x (length history) (writes_by e o) o)) s.greatest
      (s.start + count_of j history) evaluated
      (λ op reads. same)
      (λ reads guards. same)
      (λ reads ws w guards l. same)
      (λ reads ws w guards. entries_at-own s.workers s.start history (line (w ∷ ws)) low high)

  -- the rows are the state
  rows_after : (rows : Rows) → ((key : Key) → rows key ≡ state_at (rows_of s.rows) history key) → (key : Key)
      → overlay (writes_by evaluated (outcome_after s j history x)) rows key
      ≡ state_at (rows_of s.rows) (history ++ entry_after s j history x) key
  rows_after rows held key =
      let same = held key ∙ ap (λ h. state_at (rows_of s.rows) h key) (sym (append-nil history)) in
      by_outcome (λ e o. overlay (writes_by e o) rows key
      ≡ state_at (rows_of s.rows) (history ++ entry_by j x (length history) (writes_by e o) o) key) s.greatest
      (s.start + count_of j history) evaluated
      (λ op reads. same)
      (λ reads guards. same)
      (λ reads ws w guards l. same)
      (λ reads ws w guards. overlay_agrees (w ∷ ws) rows (state_at (rows_of s.rows) history) key (held key)
      ∙ ap (λ f. f key) (sym (state_more (rows_of s.rows) history (line (w ∷ ws)))))

  -- the stamps are the newest writers'
  stamps_after : (stamps : Key → Stamp) → ((key : Key) → stamps key ≡ newest_writer key history) → (key : Key) →
      (if writes_key (writes_by evaluated (outcome_after s j history x)) key
      then stamp_at j (number_by (outcome_after s j history x)) else stamps key)
      ≡ newest_writer key (history ++ entry_after s j history x)
  stamps_after stamps held key =
      let same = held key ∙ ap (newest_writer key) (sym (append-nil history)) in
      by_outcome (λ e o. (if writes_key (writes_by e o) key then stamp_at j (number_by o) else stamps key)
      ≡ newest_writer key (history ++ entry_by j x (length history) (writes_by e o) o)) s.greatest
      (s.start + count_of j history) evaluated
      (λ op reads. same)
      (λ reads guards. same)
      (λ reads ws w guards l. same)
      (λ reads ws w guards. ap (λ z. cond (writes_key (w ∷ ws) key) (stamp_at j (s.start + count_of j history + 1)) z)
      (held key) ∙ sym (newest_more loader key history (line (w ∷ ws))))

  -- no number is above the greatest
  numbers_after : ((i : ℕ) → s.start + count_of i history ≤ s.greatest) → (i : ℕ)
      → s.start + count_of i (history ++ entry_after s j history x) ≤ s.greatest
  numbers_after within i =
      let same = subst (λ h. s.start + count_of i h ≤ s.greatest) (sym (append-nil history)) (within i) in
      by_ending (λ e o. s.start + count_of i (history ++ entry_by j x (length history) (writes_by e o) o) ≤ s.greatest)
      s.greatest (s.start + count_of j history) evaluated
      (λ op reads. same)
      (λ reads guards. same)
      (λ reads ws w guards l. same)
      (λ reads ws w guards left.
      elim (cases_Bool (i == j)) [
        | inl e ↦ let own =
            eqb-true i j e in omega (
              arith,
              count_of-own j history (line (w ∷ ws)) refl,
              ap (λ k. count_of k (history ++ line (w ∷ ws) ∷ [])) own,
              ap (λ k. count_of k history) own,
              within j,
              left,
            )
        | inr e ↦ omega (arith, count_of-other i history (line (w ∷ ws)) (λ q. eqb-false i j e (sym q)), within i)
      ])

  -- no other keys hold rows than those that are named
  named_after : AreAmong (named_keys s) (state_at (rows_of s.rows) history)
      → AreAmong (named_keys s) (state_at (rows_of s.rows) (history ++ entry_after s j history x))
  named_after among =
      let state = state_at (rows_of s.rows) history in
      let same = subst (λ h. AreAmong (named_keys s) (state_at (rows_of s.rows) h)) (sym (append-nil history)) among in
      by_outcome (λ e o. evaluated ≡ e → AreAmong (named_keys s)
      (state_at (rows_of s.rows) (history ++ entry_by j x (length history) (writes_by e o) o))) s.greatest
      (s.start + count_of j history) evaluated
      (λ op reads e. same)
      (λ reads guards e. same)
      (λ reads ws w guards l e. same)
      (λ reads ws w guards e. subst (AreAmong (named_keys s))
      (sym (state_more (rows_of s.rows) history (line (w ∷ ws))))
      (among-overlay (named_keys s) (w ∷ ws) state
      (done_writes-named (named_keys s) s.widths state (ops_of s x) reads (w ∷ ws) guards e (own_named s x)) among))
      refl

  -- what a store holds after the attempt
  pub store_after : AllByRecursion (RowFits s.widths) s.rows → AllByRecursion (AllByRecursion (OpFits s.widths)) s.jobs
      → (old new : Store) → old.history ≡ history → IsStore s old → 1 ≤ j → j ≤ s.workers →
      new.history ≡ history ++ entry_after s j history x →
      new.vector ≡ vector_by j (outcome_after s j history x) old.vector →
      ((key : Key) → rows_held new.rows key ≡ overlay (writes_by evaluated (outcome_after s j history x))
      (rows_held old.rows) key) →
      ((key : Key) → stamp_held new.stamps key
      ≡ (if writes_key (writes_by evaluated (outcome_after s j history x)) key
      then stamp_at j (number_by (outcome_after s j history x)) else stamp_held old.stamps key)) →
      IsStore s new
  store_after rows_fit jobs_fit old new is store low high grown vector rows stamps = record {
    vector = vector ∙ ap (vector_by j (outcome_after s j history x)) (store.vector
        ∙ ap (entries_at s.workers s.start) is) ∙ vector_after low high ∙ ap (entries_at s.workers s.start) (sym grown);
    rows = λ key. rows key ∙ rows_after (rows_held old.rows) (λ k. store.rows k
        ∙ ap (λ h. state_at (rows_of s.rows) h k) is) key ∙ ap (λ h. state_at (rows_of s.rows) h key) (sym grown);
    stamps = λ key. stamps key ∙ stamps_after (stamp_held old.stamps) (λ k. store.stamps k ∙ ap (newest_writer k) is)
        key ∙ ap (newest_writer key) (sym grown);
    numbers = λ i. subst (λ h. s.start + count_of i h ≤ s.greatest) (sym grown)
        (numbers_after (λ k. subst (λ h. s.start + count_of k h ≤ s.greatest) is (store.numbers k)) i);
    fit = subst (AllByRecursion (EntryFits s.widths)) (sym grown)
        (fit-entry s rows_fit jobs_fit j history x (subst (AllByRecursion (EntryFits s.widths)) is store.fit));
    named = subst (λ h. AreAmong (named_keys s) (state_at (rows_of s.rows) h)) (sym grown)
        (named_after (subst (λ h. AreAmong (named_keys s) (state_at (rows_of s.rows) h)) is store.named));
  }

-- a store that was opened
pub store_open : (s : Setting) (store : Store) → s.start ≤ s.greatest → store.history ≡ []
    → store.vector ≡ replicate s.workers s.start → ((key : Key) → rows_held store.rows key ≡ rows_of s.rows key)
    → ((key : Key) → stamp_held store.stamps key ≡ loader) → IsStore s store
store_open s store within none vector rows stamps = record {
  vector = vector ∙ sym (entries_at-none s.workers 1 s.start) ∙ ap (entries_at s.workers s.start) (sym none);
  rows = λ key. rows key ∙ ap (λ h. state_at (rows_of s.rows) h key) (sym none);
  stamps = λ key. stamps key ∙ ap (newest_writer key) (sym none);
  numbers = λ j. subst (λ h. s.start + count_of j h ≤ s.greatest) (sym none) (omega (arith, within));
  fit = subst (AllByRecursion (EntryFits s.widths)) (sym none) tt;
  named = subst (λ h. AreAmong (named_keys s) (state_at (rows_of s.rows) h)) (sym none) (loaded_among s);
}
