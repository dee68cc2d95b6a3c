-- Worked rows whose logs the policy doesn't allow are no runs.
use Rattle.std.proofs.Common.{false, [], ◌∷◌, refl, Some}
use Rattle.std.proofs.lemmas.Bool.{false≢true}
use Rattle.si_model.specs.declared.log.Outcome.TheVariants.{Commit, ReadOnly, Declined, Locked, Full, Cut}
use Rattle.si_model.specs.declared.log.Event.TheVariants.{NoRoom}
use Rattle.si_model.specs.Run.{IsRun}
use Rattle.si_model.proofs.ExampleWords.{item, lock, tried, moved, collected}
use Rattle.si_model.proofs.ChangedReports.{in_log, event_at, with_events, with_reads, with_locks}
use Rattle.si_model.proofs.PartingSearch.{follows_may, fulls_may}
use Rattle.si_model.proofs.SnapshotAgainExample as again
use Rattle.si_model.proofs.TidyingFailedExample as failed
use Rattle.si_model.proofs.AgainTwiceExample as twice
use Rattle.si_model.proofs.DeclinedExample as declined
use Rattle.si_model.proofs.StoppedHolderExample as holder
use Rattle.si_model.proofs.TransferExample as transfer

-- ---- tries

-- the third try comes after the first
try_skipped : IsRun again.setting (in_log 1 (event_at 2 (tried 1 3 (Some 1) 1 0 ReadOnly)) again.report) → ⊥
try_skipped run = false≢true (follows_may 9 run.workers.0.follows)

-- the second transaction before the first
transactions_exchanged : IsRun declined.setting (in_log 1 (λ l. event_at 1 (tried 2 1 (Some 0) 1 0 (Declined 1))
    (event_at 2 (tried 1 1 (Some 0) 1 0 (Declined 1)) l)) declined.report) → ⊥
transactions_exchanged run = false≢true (follows_may 9 run.workers.0.follows)

-- the third transaction is left out
transaction_missing : IsRun declined.setting (in_log 1 (λ l. with_reads (item 0 0 5 ∷ item 0 0 5 ∷ [])
    (with_events (tried 1 1 (Some 0) 1 0 (Declined 1) ∷ tried 2 1 (Some 0) 1 0 (Declined 1) ∷ []) l))
    declined.report) → ⊥
transaction_missing run = false≢true (follows_may 9 run.workers.0.follows)

-- there are two tries, and a third
try_beyond : IsRun (record twice.setting { policy = record { tries = 2; tidy = false } }) twice.report → ⊥
try_beyond run = false≢true (follows_may 9 run.workers.0.follows)

-- a second try after a read
try_after_read : IsRun again.setting (in_log 1 (λ l. with_reads (item 0 0 100 ∷ item 0 0 101 ∷ [])
    (event_at 1 (tried 1 1 (Some 0) 1 0 ReadOnly) l)) again.report) → ⊥
try_after_read run = false≢true (follows_may 9 run.workers.0.follows)

-- an attempt after the stop
attempt_after_cut : IsRun holder.setting (in_log 1 (λ l. with_locks (lock 0 0 0 0 ∷ lock 0 0 0 0 ∷ [])
    (with_events (tried 1 1 (Some 0) 0 1 Cut ∷ tried 1 2 (Some 0) 0 1 Cut ∷ []) l))
    (holder.report (Locked (lock 0 0 0 0))))
    → ⊥
attempt_after_cut run = false≢true (follows_may 9 run.workers.0.follows)

-- ---- tidying

-- a key is tidied though tidying is off
tidied_while_off : IsRun transfer.setting (in_log 1 (with_events (tried 1 1 (Some 0) 3 2 (Commit 1)
    ∷ moved 0 0 0 0 0 ∷ [])) transfer.report) → ⊥
tidied_while_off run = false≢true (follows_may 9 run.workers.0.follows)

-- the second key is tidied before the first
tidied_out_of_order : IsRun failed.setting (in_log 2 (with_events (tried 3 1 (Some 0) 0 2 (Commit 1) ∷ moved 0 0 2 0 0
    ∷ moved 1 0 1 0 0 ∷ [])) failed.report) → ⊥
tidied_out_of_order run = false≢true (follows_may 9 run.workers.1.0.follows)

-- a key is moved twice, or one that the commit doesn't write
moved_twice : IsRun failed.setting (in_log 2 (with_events (tried 3 1 (Some 0) 0 2 (Commit 1) ∷ moved 1 0 1 0 0
    ∷ moved 1 0 1 0 0 ∷ moved 0 0 2 0 0 ∷ [])) failed.report) → ⊥
moved_twice run = false≢true (follows_may 9 run.workers.1.0.follows)

other_key_moved : IsRun failed.setting (in_log 2 (event_at 3 (moved 0 0 0 0 0)) failed.report) → ⊥
other_key_moved run = false≢true (follows_may 9 run.workers.1.0.follows)

-- no collect stands between the two norooms, or one of another bucket; or the second is of another bucket
collect_left_out : IsRun failed.setting (in_log 1 (with_events
    (
    tried 1 1 (Some 1) 0 2 (Commit 1)
    ∷ NoRoom 0
    ∷ NoRoom 0
    ∷ moved 1 0 1 2 1
    ∷ tried 2 1 (Some 2) 0 2 (Full (lock 0 0 0 0))
    ∷ []
    )) failed.report) → ⊥
collect_left_out run = false≢true (follows_may 9 run.workers.0.follows)

collect_elsewhere : IsRun failed.setting (in_log 1 (event_at 3 (collected 1 2 (1 ∷ 1 ∷ []))) failed.report) → ⊥
collect_elsewhere run = false≢true (follows_may 9 run.workers.0.follows)

no_room_elsewhere : IsRun failed.setting (in_log 1 (event_at 4 (NoRoom 1)) failed.report) → ⊥
no_room_elsewhere run = false≢true (follows_may 9 run.workers.0.follows)

-- ---- a full ring of the worker's own version

-- the tidying of the key ended well, since its version was collected
full_though_tidied : IsRun failed.setting (in_log 1 (with_events
    (
    tried 1 1 (Some 1) 0 2 (Commit 1)
    ∷ NoRoom 0
    ∷ collected 0 2 (1 ∷ 1 ∷ [])
    ∷ moved 1 0 1 2 1
    ∷ tried 2 1 (Some 2) 0 2 (Full (lock 0 0 0 0))
    ∷ []
    )) failed.report) → ⊥
full_though_tidied run = false≢true (fulls_may 9 refl run.workers.0.follows)

-- the tidying of another key failed
full_beside_failed : IsRun failed.setting (in_log 1 (event_at 6 (tried 2 1 (Some 2) 0 2 (Full (lock 0 1 0 0))))
    failed.report) → ⊥
full_beside_failed run = false≢true (fulls_may 9 refl run.workers.0.follows)
