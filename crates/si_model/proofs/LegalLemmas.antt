-- What a test of one entry tells of a history.
use Rattle.std.proofs.Common.{◌≡◌, ℕ, zero, suc, ◌+◌, ◌-◌, ◌<◌, ◌≤◌, Bool, false, cond, inl, inr, List, [], ◌∷◌, ◌++◌}
use Rattle.std.proofs.Common.{length, take, drop, map, refl, ap, sym, ◌∙◌, subst, arith, not}
use Rattle.std.specs.Prelude.{◌&&◌, All, slice_index_or}
use Rattle.std.specs.List.{list_any, list_all, AllByRecursion}
use Rattle.std.proofs.lemmas.List.Elements.{recursion_from_All}
use Rattle.std.proofs.lemmas.Bool.{cases_Bool}
use Rattle.std.proofs.lemmas.List.{drop_more, take_more}
use Rattle.si_model.specs.declared.row.Key.{Key}
use Rattle.si_model.specs.declared.row.Item.{Item}
use Rattle.si_model.specs.declared.op.Op.{Op}
use Rattle.si_model.specs.declared.report.CommitLine.{CommitLine}
use Rattle.si_model.specs.declared.evaluated.Evaluated.TheVariants.{Done}
use Rattle.si_model.specs.Rows.{Rows, writes_key}
use Rattle.si_model.specs.Evaluation.{evaluation_of, OpFits, AreWide}
use Rattle.si_model.specs.EvaluationLaws.{IsWide, writes_from}
use Rattle.si_model.specs.State.{state_at}
use Rattle.si_model.specs.Gives.{Gives}
use Rattle.si_model.specs.History.{none_writes, MayFollow, IsLegalAfter}
use Rattle.si_model.proofs.EvaluationLemmas.{wide-writes_from, evaluation_from-all_pass, all_pass-done}
use Rattle.si_model.proofs.EvaluationLemmas.{AreWide-state_at}

-- no entry writes one of the keys where the first doesn't and the rest don't
all_or_any : (p : Key → Bool) (keys : List Key) → list_all (λ key. not (p key)) keys ≡ not (list_any p keys)
all_or_any p [] = refl
all_or_any p (key ∷ keys) = elim (cases_Bool (p key)) [ inl e ↦ rw e refl | inr e ↦ rw e (all_or_any p keys) ]

none_writes_by : (keys : List Key) (e : CommitLine) (es : List CommitLine)
    → none_writes keys (e ∷ es) ≡ cond (list_any (λ key. writes_key e.writes key) keys) false (none_writes keys es)
none_writes_by keys e es =
    ap (λ b. b && none_writes keys es) (all_or_any (λ key. writes_key e.writes key) keys)
    ∙ elim (cases_Bool (list_any (λ key. writes_key e.writes key) keys)) [ inl q ↦ rw q refl | inr q ↦ rw q refl ]

pub none_writes_at : (keys : List Key) (es : List CommitLine) (i : ℕ) (e : CommitLine) (one : Bool) → i < length es
    → e ≡ slice_index_or es i e → one ≡ list_any (λ key. writes_key e.writes key) keys
    → none_writes keys (drop i es) ≡ cond one false (none_writes keys (drop (i + 1) es))
none_writes_at keys es i e one within is said =
    ap (none_writes keys) (drop_more es i e within ∙ ap (λ z. z ∷ drop (i + 1) es) (sym is))
    ∙ none_writes_by keys e (drop (i + 1) es)
    ∙ ap (λ b. cond b false (none_writes keys (drop (i + 1) es))) (sym said)

-- what holds of all jobs holds of the operations at a place
pub at_job : {J : Type 0} (items : J → List Op) (P : List Op → Type 0) (jobs : List J) (k : ℕ)
    → All (λ job. P (items job)) jobs → k < length jobs → P (slice_index_or (map items jobs) k [])
at_job items P [] k h within = absurd (omega arith)
at_job items P (job ∷ jobs) zero h within = h 0 job (omega arith)
at_job items P (job ∷ jobs) (suc k) h within = at_job items P jobs k (λ i d lt. h (suc i) d (omega arith)) (omega arith)

-- and of the operations of each
pub jobs_fit : {J : Type 0} (items : J → List Op) (P : Op → Type 0) (jobs : List J)
    → All (λ job. All P (items job)) jobs → AllByRecursion (λ ops. AllByRecursion P ops) (map items jobs)
jobs_fit items P [] h = tt
jobs_fit items P (job ∷ jobs) h = (
  recursion_from_All P (items job) (h 0 job (omega arith)),
  jobs_fit items P jobs (λ i d lt. h (suc i) d (omega arith)),
)

at_place : {A : Type 0} (P : List A → Type 0) (xss : List (List A)) (k : ℕ) → AllByRecursion P xss → k < length xss
    → P (slice_index_or xss k [])
at_place P [] k h within = absurd (omega arith)
at_place P (xs ∷ xss) zero h within = h.0
at_place P (xs ∷ xss) (suc k) h within = at_place P xss k h.1 (omega arith)

pub All-take : {A : Type 0} (P : A → Type 0) (n : ℕ) (xs : List A) → AllByRecursion P xs → AllByRecursion P (take n xs)
All-take P zero xs h = tt
All-take P (suc n) [] h = tt
All-take P (suc n) (x ∷ xs) h = (h.0, All-take P n xs h.1)

-- the write set of a done evaluation has each table's width
pub wide-writes : (widths : List ℕ) (rows : Rows) (ops : List Op) (reads writes : List Item) (guards : List Key)
    → AllByRecursion (OpFits widths) ops → AreWide widths rows
    → evaluation_of widths rows ops ≡ Done reads writes guards → AllByRecursion (IsWide widths) writes
wide-writes widths rows ops reads writes guards fit wide done =
    let all = evaluation_from-all_pass widths rows 1 [] [] ops
    (all_pass-done widths rows 1 [] [] ops reads writes guards done) in
    let same : writes_from widths rows [] ops ≡ writes = same_writes (sym all ∙ done) in
    subst (AllByRecursion (IsWide widths)) same (wide-writes_from widths rows wide [] ops fit tt)
  where
    same_writes : {rs ws : List Item} {gs : List Key} → Done rs ws gs ≡ Done reads writes guards → ws ≡ writes
    same_writes e = cc

module _ (widths : List ℕ) (rows : Rows) (jobs : List (List Op)) where
  -- one more entry is tested
  module _ (history : List CommitLine) (i : ℕ) (e : CommitLine) (within : i < length history)
      (is : e ≡ slice_index_or history i e) where
    pub taken : take (i + 1) history ≡ take i history ++ e ∷ []
    taken = take_more history i e within ∙ ap (λ z. take i history ++ z ∷ []) (sym is)

    split : drop i history ≡ e ∷ drop (i + 1) history
    split = drop_more history i e within ∙ ap (λ z. z ∷ drop (i + 1) history) (sym is)

    pub legal_on : MayFollow widths rows jobs (take i history) e
        → IsLegalAfter widths rows jobs (take (i + 1) history) (drop (i + 1) history)
        → IsLegalAfter widths rows jobs (take i history) (drop i history)
    legal_on may rest =
        subst (IsLegalAfter widths rows jobs (take i history)) (sym split)
        (may, subst (λ done. IsLegalAfter widths rows jobs done (drop (i + 1) history)) taken rest)

    pub legal_back : IsLegalAfter widths rows jobs (take i history) (drop i history)
        → MayFollow widths rows jobs (take i history) e
        × IsLegalAfter widths rows jobs (take (i + 1) history) (drop (i + 1) history)
    legal_back legal =
        let parts : IsLegalAfter widths rows jobs (take i history) (e ∷ drop (i + 1) history) =
        subst (IsLegalAfter widths rows jobs (take i history)) split legal in
        (parts.0, subst (λ done. IsLegalAfter widths rows jobs done (drop (i + 1) history)) (sym taken) parts.1)

  -- an entry whose transaction gives it may follow, and one that may follow is given
  pub given_follows : (done : List CommitLine) (e : CommitLine) → 1 ≤ e.txn → e.txn ≤ length jobs
      → e.prefix ≤ length done
      → Gives (evaluation_of widths (state_at rows (take e.prefix done)) (slice_index_or jobs (e.txn - 1) [])) e.writes
      (drop e.prefix done) → MayFollow widths rows jobs done e
  given_follows done e from to prefix g =
      record {
        job = (from, to);
        prefix = prefix;
        reads = g.reads;
        guards = g.guards;
        evaluates = g.done;
        writes = g.some;
        first_wins = g.first_wins;
      }

  pub follows_given : (done : List CommitLine) (e : CommitLine) → MayFollow widths rows jobs done e
      → Gives (evaluation_of widths (state_at rows (take e.prefix done)) (slice_index_or jobs (e.txn - 1) [])) e.writes
      (drop e.prefix done)
  follows_given done e m = record {
    reads = m.reads;
    guards = m.guards;
    done = m.evaluates;
    some = m.writes;
    first_wins = m.first_wins;
  }

  -- an entry that may follow writes values of each table's width
  pub follow_wide : (done : List CommitLine) (e : CommitLine)
      → AllByRecursion (λ ops. AllByRecursion (OpFits widths) ops) jobs → AreWide widths rows
      → AllByRecursion (λ d. AllByRecursion (IsWide widths) d.writes) done
      → MayFollow widths rows jobs done e → AllByRecursion (IsWide widths) e.writes
  follow_wide done e fits wide written m =
      wide-writes widths (state_at rows (take e.prefix done)) (slice_index_or jobs (e.txn - 1) []) m.reads e.writes
      m.guards
      (at_place (λ ops. AllByRecursion (OpFits widths) ops) jobs (e.txn - 1) fits (omega (arith, m.job)))
      (AreWide-state_at widths rows (take e.prefix done) wide (All-take _ e.prefix done written)) m.evaluates
