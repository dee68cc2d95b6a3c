-- A worker's attempt, as the store sees it and as the definitions say it.
use Rattle.std.proofs.Common.{◌≡◌, ℕ, zero, suc, ◌+◌, ◌-◌, ◌<◌, ◌≤◌, List, [], ◌∷◌, ◌++◌, length, map, refl, ap, sym}
use Rattle.std.proofs.Common.{◌∙◌, subst, arith, append-nil, append_assoc, add-one}
use Rattle.std.proofs.lemmas.Bool.{eq-eqb, ne_eqb}
use Rattle.std.specs.Prelude.{slice_index, slice_index_or, ◌==◌, if◌then◌else◌, Bool, true, false, is_some, Result, Ok}
use Rattle.std.specs.Prelude.{Err, IfOk}
use Rattle.std.specs.List.{AllByRecursion, flat_map}
use Rattle.std.proofs.Math.Path.{fun_ext}
use Rattle.si_model.specs.declared.row.Key.{Key}
use Rattle.si_model.specs.declared.op.Op.{Op}
use Rattle.si_model.specs.declared.log.Log.{Log}
use Rattle.si_model.specs.declared.log.Stamp.{Stamp}
use Rattle.si_model.specs.declared.log.Lock.{Lock}
use Rattle.si_model.specs.declared.log.Event.TheVariants.{Tried}
use Rattle.si_model.specs.declared.log.Outcome.{Outcome}
use Rattle.si_model.specs.declared.log.Outcome.TheVariants.{Commit}
use Rattle.si_model.specs.declared.report.CommitLine.{CommitLine}
use Rattle.si_model.specs.declared.evaluated.Evaluated.{Evaluated}
use Rattle.si_model.specs.declared.evaluated.Evaluated.TheVariants.{Done, Declined}
use Rattle.std.specs.BTreeMap.{BTreeMap}
use Rattle.si_model.specs.Rows.{rows_of}
use Rattle.si_model.specs.Committed.{rows_held}
use Rattle.si_model.specs.Evaluation.{evaluation_of, reads_of, OpFits, AreWide}
use Rattle.si_model.specs.State.{state_at}
use Rattle.si_model.specs.History.{count_of, newest_writer, keys_of}
use Rattle.si_model.specs.Tells.{Tell}
use Rattle.si_model.specs.Setting.{Setting, places_of, txns_of}
use Rattle.nam_script.specs.Limits.{RowFits}
use Rattle.namdb.specs.declared.store.Store.{Store}
use Rattle.namdb.specs.declared.attempt.Plan.{Plan}
use Rattle.namdb.specs.Stamps.{stamp_held, lock_held}
use Rattle.namdb.specs.Store.{IsStore, IsPlan}
use Rattle.namdb.specs.Serial.{outcome_of, writes_by, locks_by, locks_with, attempt_by, log_with, ops_of}
use Rattle.namdb.specs.Serial.{evaluated_after, outcome_after, tell_after, entry_after, tells_after, history_after}
use Rattle.namdb.specs.Serial.{own_txn, log_of, log_grown, logs_after, end_after}
use Rattle.namdb.proofs.StoreLemmas.{entries_at-at, length-entries_at, map_locks}
use Rattle.namdb.proofs.SerialFitsLemmas.{wide-state}
use Rattle.si_model.specs.Rows.{has_key}
use Rattle.namdb.specs.NamedRows.{named_keys}
use Rattle.namdb.specs.Few.{reads_most}
use Rattle.namdb.proofs.NamedLemmas.{NameAmong, reads_few, own_named}

-- equal evaluations and outcomes give the same
pub same_both : {A : Type 0} (f : Evaluated → Outcome → A) (e e' : Evaluated) (o o' : Outcome) → e ≡ e' → o ≡ o'
    → f e o ≡ f e' o'
same_both f e e' o o' p q = ap (λ z. f z o) p ∙ ap (f e') q

module _ (s : Setting) (store : Store) (is : IsStore s store) where
  -- the rows that the store holds are the state
  pub held : rows_held store.rows ≡ state_at (rows_of s.rows) store.history
  held = fun_ext is.rows

  pub held_wide : AllByRecursion (RowFits s.widths) s.rows → AllByRecursion (AllByRecursion (OpFits s.widths)) s.jobs
      → AreWide s.widths (rows_held store.rows)
  held_wide rows_fit jobs_fit =
      subst (AreWide s.widths) (sym held) (wide-state s rows_fit jobs_fit store.history is.fit)

  pub last_held : (j : ℕ) → 1 ≤ j → j ≤ s.workers
      → slice_index store.vector (j - 1) ≡ s.start + count_of j store.history
  last_held j low high = ap (λ ns. slice_index ns (j - 1)) is.vector
      ∙ entries_at-at s.workers j s.start store.history low high

  pub vector_length : length store.vector ≡ s.workers
  vector_length = ap length is.vector ∙ length-entries_at s.workers s.start store.history

  -- the evaluation and the outcome are those of the definitions
  pub evaluated_held : (j x : ℕ) (ops : List Op) → ops ≡ ops_of s x
      → evaluation_of s.widths (rows_held store.rows) ops ≡ evaluated_after s j store.history x
  evaluated_held j x ops is_own = ap (λ rows. evaluation_of s.widths rows ops) held
      ∙ ap (evaluation_of s.widths (state_at (rows_of s.rows) store.history)) is_own

  pub outcome_held : (j x : ℕ) (ops : List Op) → ops ≡ ops_of s x → 1 ≤ j → j ≤ s.workers →
      outcome_of s.greatest (slice_index store.vector (j - 1)) (evaluation_of s.widths (rows_held store.rows) ops)
      ≡ outcome_after s j store.history x
  outcome_held j x ops is_own low high =
      ap (λ n. outcome_of s.greatest n (evaluation_of s.widths (rows_held store.rows) ops)) (last_held j low high)
      ∙ ap (outcome_of s.greatest (s.start + count_of j store.history)) (evaluated_held j x ops is_own)

-- transactions of two lists, one list after the other
pub history_after-append : (s : Setting) (j : ℕ) (history : List CommitLine) (xs ys : List ℕ)
    → history_after s j history (xs ++ ys) ≡ history_after s j (history_after s j history xs) ys
history_after-append s j history [] ys = refl
history_after-append s j history (x ∷ xs) ys = history_after-append s j (history ++ entry_after s j history x) xs ys

pub tells_after-append : (s : Setting) (j : ℕ) (history : List CommitLine) (xs ys : List ℕ)
    → tells_after s j history (xs ++ ys) ≡ tells_after s j history xs
    ++ tells_after s j (history_after s j history xs) ys
tells_after-append s j history [] ys = refl
tells_after-append s j history (x ∷ xs) ys =
    ap (λ ts. tell_after s j history x ∷ ts) (tells_after-append s j (history ++ entry_after s j history x) xs ys)

map-append : {A B : Type 0} (f : A → B) (xs ys : List A) → map f (xs ++ ys) ≡ map f xs ++ map f ys
map-append f [] ys = refl
map-append f (x ∷ xs) ys = ap (λ zs. f x ∷ zs) (map-append f xs ys)

flat_map-append : {A B : Type 0} (f : A → List B) (xs ys : List A) → flat_map f (xs ++ ys) ≡ flat_map f xs
    ++ flat_map f ys
flat_map-append f [] ys = refl
flat_map-append f (x ∷ xs) ys = ap (λ zs. f x ++ zs) (flat_map-append f xs ys)
    ∙ sym (append_assoc (f x) (flat_map f xs) (flat_map f ys))

-- a log that grows twice
pub log_grown-append : (log : Log) (ts us : List Tell) → log_grown (log_grown log ts) us ≡ log_grown log (ts ++ us)
log_grown-append log ts us =
    rw (
      map-append (λ t. t.event) ts us,
      flat_map-append (λ t. t.reads) ts us,
      flat_map-append (λ t. t.locks) ts us,
      flat_map-append (λ t. t.writes) ts us,
      map-append (λ t. t.snap) ts us,
      append_assoc log.events (map (λ t. t.event) ts) (map (λ t. t.event) us),
      append_assoc log.reads (flat_map (λ t. t.reads) ts) (flat_map (λ t. t.reads) us),
      append_assoc log.locks (flat_map (λ t. t.locks) ts) (flat_map (λ t. t.locks) us),
      append_assoc log.writes (flat_map (λ t. t.writes) ts) (flat_map (λ t. t.writes) us),
      append_assoc log.snaps (map (λ t. t.snap) ts) (map (λ t. t.snap) us),
    ) refl

-- the transaction at a place, and those behind it
pub places_next : (j x owner : ℕ) (owners : List ℕ) → places_of j x (owner ∷ owners) ≡ own_txn j owner x
    ++ places_of j (suc x) owners
places_next j x owner owners = by_owner (owner == j)
  where
    by_owner : (b : Bool) → (if b then x ∷ places_of j (suc x) owners else places_of j (suc x) owners)
        ≡ (if b then x ∷ [] else []) ++ places_of j (suc x) owners
    by_owner true = refl
    by_owner false = refl

-- an element of a mapped list, where it is in range
pub index_map : {A : Type 0} (f : A → ℕ) (xs : List A) (i : ℕ) (x : A) → i < length xs → x ≡ slice_index_or xs i x
    → slice_index (map f xs) i ≡ f x
index_map f [] i x l is = absurd (omega arith)
index_map f (y ∷ ys) zero x l is = ap f (sym is)
index_map f (y ∷ ys) (suc i) x l is = index_map f ys i x (omega arith) is

pub index_or_map : {A B : Type 0} (f : A → B) (xs : List A) (i : ℕ) (x : A) (b : B) → i < length xs
    → x ≡ slice_index_or xs i x → slice_index_or (map f xs) i b ≡ f x
index_or_map f [] i x b l is = absurd (omega arith)
index_or_map f (y ∷ ys) zero x b l is = ap f (sym is)
index_or_map f (y ∷ ys) (suc i) x b l is = index_or_map f ys i x b (omega arith) is

pub all_index : {A : Type 0} (P : A → Type 0) (xs : List A) (i : ℕ) (x : A) → i < length xs → x ≡ slice_index_or xs i x
    → AllByRecursion P xs → P x
all_index P [] i x l is all = absurd (omega arith)
all_index P (y ∷ ys) zero x l is all = subst P (sym is) all.0
all_index P (y ∷ ys) (suc i) x l is all = all_index P ys i x (omega arith) is all.1

-- the transaction at a place, where it is worker j's
pub own_here : (j owner x : ℕ) → owner ≡ j → own_txn j owner x ≡ x ∷ []
own_here j owner x e = rw (eq-eqb owner j e) refl

pub own_elsewhere : (j owner x : ℕ) → (owner ≡ j → ⊥) → own_txn j owner x ≡ []
own_elsewhere j owner x e = rw (ne_eqb owner j e) refl

module _ (s : Setting) (plan : Plan) (store : Store) (planned : IsPlan s plan) (is : IsStore s store) (j x : ℕ)
    (ops : List Op) (own : ops ≡ ops_of s x) where
  -- with the plan's widths and its greatest number
  pub plan_evaluated : evaluation_of plan.widths.items (rows_held store.rows) ops ≡ evaluated_after s j store.history x
  plan_evaluated = ap (λ ws. evaluation_of ws (rows_held store.rows) ops) planned.widths
      ∙ evaluated_held s store is j x ops own

  -- it reads few items
  pub plan_reads : length (reads_of (evaluation_of plan.widths.items (rows_held store.rows) ops))
      ≤ reads_most (length (named_keys s)) ops
  plan_reads =
      let state = state_at (rows_of s.rows) store.history in
      let named = subst (NameAmong (named_keys s)) (sym own) (own_named s x) in
      subst (λ e. length (reads_of e) ≤ reads_most (length (named_keys s)) ops)
      (sym (plan_evaluated ∙ sym (ap (evaluation_of s.widths state) own)))
      (reads_few (named_keys s) s.widths state ops is.named named)

  pub plan_outcome : 1 ≤ j → j ≤ s.workers
      → outcome_of plan.greatest (slice_index store.vector (j - 1))
      (evaluation_of plan.widths.items (rows_held store.rows) ops) ≡ outcome_after s j store.history x
  plan_outcome low high =
      ap (λ g. outcome_of g (slice_index store.vector (j - 1))
      (evaluation_of plan.widths.items (rows_held store.rows) ops)) planned.greatest
      ∙ ap (λ ws. outcome_of s.greatest (slice_index store.vector (j - 1))
      (evaluation_of ws (rows_held store.rows) ops)) planned.widths
      ∙ outcome_held s store is j x ops own low high

-- the locks of the stamps are those of the newest writers
pub locks_same : (stamps : BTreeMap Key Stamp) (history : List CommitLine)
    → ((key : Key) → stamp_held stamps key ≡ newest_writer key history) → (e : Evaluated) (o : Outcome)
    → locks_with (lock_held stamps) e o ≡ locks_by history e o
locks_same stamps history same (Done reads writes guards) (Commit number) =
    map_locks stamps history (keys_of writes guards) same
locks_same stamps history same (Done reads writes guards) o = refl
locks_same stamps history same (Declined op reads) o = refl

-- a log grows by one tell
pub log_grown-one : (log : Log) (t : Tell)
    → log_with log t.event t.reads t.locks t.writes t.snap ≡ log_grown log (t ∷ [])
log_grown-one log t = rw (append-nil t.reads, append-nil t.locks, append-nil t.writes) refl

-- the log after an attempt is the one that tells it
pub log_after : (s : Setting) (store : Store) → IsStore s store → (j x : ℕ) (log : Log) (e : Evaluated) (o : Outcome)
    → e ≡ evaluated_after s j store.history x → o ≡ outcome_after s j store.history x →
    log_with log (Tried (attempt_by x (length store.history) e (locks_with (lock_held store.stamps) e o) o))
    (reads_of e) (locks_with (lock_held store.stamps) e o) (writes_by e o) store.vector
    ≡ log_grown log (tells_after s j store.history (x ∷ []))
log_after s store is j x log e o e_same o_same =
    let whole = λ (v : Evaluated) (w : Outcome) (ls : List Lock) (seen : List ℕ). log_with log
    (Tried (attempt_by x (length store.history) v ls w)) (reads_of v) ls (writes_by v w) seen in
    let v = evaluated_after s j store.history x in
    let w = outcome_after s j store.history x in
    same_both (λ a b. whole a b (locks_with (lock_held store.stamps) a b) store.vector) e v o w e_same o_same
    ∙ ap (λ ls. whole v w ls store.vector) (locks_same store.stamps store.history is.stamps v w)
    ∙ ap (whole v w (locks_by store.history v w)) is.vector
    ∙ log_grown-one log (tell_after s j store.history x)

-- the next worker, and those behind it
pub end_next : (s : Setting) (b : ℕ) (history next : List CommitLine) (m n : ℕ) → n ≡ suc m
    → next ≡ history_after s (b + 1) history (txns_of (b + 1) s.owners)
    → end_after s (b + 1 + 1) next m ≡ end_after s (b + 1) history n
end_next s b history next m n e h = ap (λ j. end_after s j next m) (add-one (b + 1))
    ∙ ap (λ z. end_after s (suc (b + 1)) z m) h ∙ ap (end_after s (b + 1) history) (sym e)

pub logs_next : (s : Setting) (b : ℕ) (history next : List CommitLine) (m n : ℕ) (logs more : List Log) (log : Log)
    → n ≡ suc m → next ≡ history_after s (b + 1) history (txns_of (b + 1) s.owners)
    → log ≡ log_of (tells_after s (b + 1) history (txns_of (b + 1) s.owners)) → more ≡ logs ++ log ∷ [] →
    more ++ logs_after s (b + 1 + 1) next m ≡ logs ++ logs_after s (b + 1) history n
logs_next s b history next m n logs more log e h l p =
    let rest = logs_after s (b + 1 + 1) next m in
    let same = ap (λ j. logs_after s j next m) (add-one (b + 1)) ∙ ap (λ z. logs_after s (suc (b + 1)) z m) h in
    ap (λ ls. ls ++ rest) p ∙ append_assoc logs (log ∷ []) rest
    ∙ ap (λ ls. logs ++ ls) (ap (λ z. z ∷ rest) l
    ∙ ap (λ ls. log_of (tells_after s (b + 1) history (txns_of (b + 1) s.owners)) ∷ ls) same
    ∙ ap (logs_after s (b + 1) history) (sym e))

-- three facts of an Ok give a fourth
pub if_ok_all : {A E : Type 0} (r : Result A E) (P Q R S : A → Type 0) → ((a : A) → P a → Q a → R a → S a) → IfOk r P
    → IfOk r Q → IfOk r R → IfOk r S
if_ok_all (Ok a) P Q R S f p q r = f a p q r
if_ok_all (Err e) P Q R S f p q r = tt
