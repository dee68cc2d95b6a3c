-- Worked rows that the history's numbers and prefixes refuse, or what a worker knows.
use Rattle.std.proofs.Common.{◌≡◌, ◌≤◌, [], ◌∷◌, ◌++◌, refl, arith, Some, None}
use Rattle.std.specs.Prelude.{IsTrue, slice_index_or}
use Rattle.std.proofs.lemmas.Bool.{false≢true}
use Rattle.si_model.specs.declared.log.Outcome.TheVariants.{Commit, ReadOnly, Again, Spent, TooOld, Cut}
use Rattle.si_model.specs.Rows.{key_at}
use Rattle.si_model.specs.History.{keys_of, none_writes}
use Rattle.si_model.specs.Run.{IsRun}
use Rattle.si_model.proofs.ExampleWords.{item, lock, tried, entry, log, audited}
use Rattle.si_model.proofs.ChangedReports.{in_log, event_at, read_at, with_locks, done_as, same_number}
use Rattle.si_model.proofs.FirstCommitterWinsExample as first
use Rattle.si_model.proofs.SnapshotAgainExample as again
use Rattle.si_model.proofs.AgainTwiceExample as twice
use Rattle.si_model.proofs.GuardForbidsSkewExample as skew
use Rattle.si_model.proofs.NumbersAreSpentExample as spent
use Rattle.si_model.proofs.ReaderTooOldExample as old
use Rattle.si_model.proofs.ReadsForwardExample as forward
use Rattle.si_model.proofs.WorkedVariantsExample as variants

-- ---- numbers and prefixes

-- worker 2 commits under a number that isn't its entry's
listed_number_changed : IsRun first.setting (in_log 2 (event_at 2 (tried 2 2 (Some 1) 1 1 (Commit 2))) first.report) → ⊥
listed_number_changed run = omega (arith, run.listed.1.0)

-- its first commit has the number 2
number_skipped : IsRun first.setting (record (in_log 2 (event_at 2 (tried 2 2 (Some 1) 1 1 (Commit 2))) first.report) {
  history = entry 1 1 0 1 (item 0 0 105 ∷ []) ∷ entry 2 2 1 2 (item 0 0 112 ∷ []) ∷ [];
}) → ⊥
number_skipped run = omega (arith, run.numbered.1.0)

-- the history has one entry, and the second try reads at prefix 2
prefix_beyond : IsRun again.setting (in_log 1 (event_at 2 (tried 1 2 (Some 2) 1 0 ReadOnly)) again.report) → ⊥
prefix_beyond run = omega (arith, run.workers.0.sees.1.0.0.0)

-- both passes found the same number
same_number_again : IsRun again.setting (in_log 1 (event_at 1 (tried 1 1 None 0 0 (Again 2 1 1))) again.report) → ⊥
same_number_again run = omega (arith, run.workers.0.causes.0.1)

-- the second passes began at a number below the one that the first told
first_below_known : IsRun twice.setting (in_log 1 (event_at 2 (tried 1 2 None 0 0 (Again 2 0 2))) twice.report) → ⊥
first_below_known run = omega (arith, run.workers.0.sees.1.0.1.2)

-- ---- the history

-- both committed on the same prefix, and wrote the same key
lost_update : IsRun first.setting (record (in_log 2 (λ l. log (tried 2 1 (Some 0) 1 1 (Commit 1) ∷ [])
    (item 0 0 100 ∷ []) (lock 0 0 0 0 ∷ [])) first.report) {
      history = entry 1 1 0 1 (item 0 0 105 ∷ []) ∷ entry 2 1 0 2 (item 0 0 107 ∷ []) ∷ [];
      audit = audited 0 0 107 ∷ [];
    }) → ⊥
lost_update run = false≢true run.legal.1.0.first_wins

-- the second wrote its key where a guard of the first's is overwritten
guard_overwritten : IsRun skew.setting (record (in_log 2 (λ l. with_locks (lock 0 1 0 0 ∷ lock 0 0 0 0 ∷ [])
    (event_at 1 (tried 2 1 (Some 0) 4 2 (Commit 1)) l)) skew.report) {
      history = entry 1 1 0 1 (item 0 0 0 ∷ []) ∷ entry 2 1 0 2 (item 0 1 0 ∷ []) ∷ [];
      audit = audited 0 0 0 ∷ audited 0 1 0 ∷ [];
    }) → ⊥
guard_overwritten run =
    let reads = item 0 0 60 ∷ item 0 1 60 ∷ item 0 0 60 ∷ item 0 1 60 ∷ [] in
    let none = done_as {reads = reads} {ws = item 0 1 0 ∷ []} {gs = key_at 0 0 ∷ []}
    (λ ws gs. IsTrue (none_writes (keys_of ws gs) (entry 1 1 0 1 (item 0 0 0 ∷ []) ∷ [])))
    run.legal.1.0.evaluates run.legal.1.0.first_wins in
    false≢true none

-- a reader's transaction stands as an entry
entry_without_writes : IsRun again.setting (record (in_log 1 (event_at 2 (tried 1 2 (Some 1) 1 0 (Commit 1)))
    again.report) {
      history = entry 2 1 0 2 (item 0 0 101 ∷ []) ∷ entry 1 1 1 1 [] ∷ [];
    }) → ⊥
entry_without_writes run = omega (arith, run.legal.1.0.writes)

-- the write isn't the evaluation's
write_changed : IsRun first.setting (record first.report {
  history = entry 1 1 0 1 (item 0 0 106 ∷ []) ∷ entry 2 1 1 2 (item 0 0 112 ∷ []) ∷ [];
}) → ⊥
write_changed run = omega (
  arith,
  same_number (done_as (λ ws gs. item 0 0 106 ≡ slice_index_or ws 0 (item 0 0 0))
      run.legal.0.evaluates refl),
)

-- no transaction has this number; the first would stand at its place
entry_of_no_transaction : IsRun first.setting (record first.report {
  history = entry 1 1 0 0 (item 0 0 105 ∷ []) ∷ entry 2 1 1 2 (item 0 0 112 ∷ []) ∷ [];
}) → ⊥
entry_of_no_transaction run = none run.legal.0.job.0
  where
    none : 1 ≤ 0 → ⊥
    none h = omega (arith, h)

-- the second worker was stopped before it took a snapshot
entry_unlisted : IsRun first.setting (in_log 2 (λ l. with_locks [] (event_at 2 (tried 2 2 None 0 0 Cut) l))
    first.report) → ⊥
entry_unlisted run = omega (arith, run.listed.1.0)

-- one worker more than the script has
log_of_nobody : IsRun again.setting (record again.report { logs = again.report.logs ++ log [] [] [] ∷ [] }) → ⊥
log_of_nobody run = omega (arith, run.one_log_each)

-- ---- what a worker knows

-- a worker doesn't see what it committed itself
own_commit_unseen : IsRun spent.setting (in_log 1 (event_at 2 (tried 2 1 (Some 0) 0 0 Spent)) spent.report) → ⊥
own_commit_unseen run = omega (arith, run.workers.0.sees.1.0.0.1.0)

-- there is no worker 0
old_of_nobody : IsRun old.setting (in_log 2 (event_at 1 (tried 3 1 (Some 0) 0 0 (TooOld 0 0 2))) old.report) → ⊥
old_of_nobody run = omega (arith, run.workers.1.0.sees.0.1.0)

-- the first read was after the other's commit, and the second before
reads_backward : IsRun forward.setting (in_log 1 (λ l. log (tried 1 1 (Some 1) 1 0 ReadOnly
    ∷ tried 2 1 (Some 0) 1 0 ReadOnly ∷ []) (item 0 0 101 ∷ item 0 0 100 ∷ []) []) forward.report) → ⊥
reads_backward run = omega (arith, run.workers.0.sees.1.0.0.1.1.0)

-- the second try begins below the horizon that the first was told
horizon_forgotten : IsRun variants.two_tries (in_log 2 (λ l. read_at 1 (item 0 0 6)
    (event_at 2 (tried 3 2 (Some 1) 1 0 ReadOnly) l)) variants.old_then_read) → ⊥
horizon_forgotten run = omega (arith, run.workers.1.0.sees.1.0.0.1.0)
