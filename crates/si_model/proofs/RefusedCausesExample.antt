-- Worked rows in which an event has no cause are no runs.
use Rattle.std.proofs.Common.{ℕ, List, [], ◌∷◌, refl, ap, sym, arith, Some, None, inl, inr}
use Rattle.std.specs.Prelude.{slice_index}
use Rattle.std.proofs.lemmas.Bool.{false≢true}
use Rattle.si_model.specs.declared.log.Outcome.TheVariants.{Commit, Locked, Newer, Full, Again, TooOld}
use Rattle.si_model.specs.declared.log.Finish.TheVariants.{RolledOn, Undone}
use Rattle.si_model.specs.declared.log.MoveEnd.TheVariants.{Back}
use Rattle.si_model.specs.declared.log.Event.TheVariants.{NoRoom, Moved, CollectAgain, TailCut, Finished}
use Rattle.si_model.specs.Run.{IsRun}
use Rattle.si_model.proofs.ExampleWords.{item, lock, stamp, tried, moved, collected, entry}
use Rattle.si_model.proofs.ChangedReports.{in_log, event_at, read_at, with_events, with_reads, with_locks}
use Rattle.si_model.proofs.FirstCommitterWinsExample as first
use Rattle.si_model.proofs.RingIsFullExample as full
use Rattle.si_model.proofs.ReaderTooOldExample as old
use Rattle.si_model.proofs.TransferExample as transfer
use Rattle.si_model.proofs.WorkedVariantsExample as variants
use Rattle.si_model.proofs.StoppedHolderExample as holder
use Rattle.si_model.proofs.FullAfterMoveExample as beside
use Rattle.si_model.proofs.OldBelowHorizonExample as below
use Rattle.si_model.proofs.NumbersAreSpentExample as spent
use Rattle.si_model.proofs.GuardForbidsSkewExample as skew
use Rattle.si_model.proofs.TidyingFailedExample as failed
use Rattle.si_model.proofs.MedicVerbByVerbExample as medic

-- ---- locked, newer and full

-- the lock that it met is listed by its own earlier attempt alone
own_lock_met : IsRun full.setting (in_log 1 (λ l. with_locks (lock 0 0 0 0 ∷ lock 0 0 1 1 ∷ [])
    (event_at 3 (tried 3 1 (Some 1) 1 0 (Locked (lock 0 0 1 1))) l)) full.report) → ⊥
own_lock_met run = false≢true run.workers.0.causes.1.1.0.0

-- the version is in the prefix
newer_in_prefix : IsRun first.setting (in_log 2 (λ l. read_at 1 (item 0 0 105)
    (event_at 1 (tried 2 1 (Some 1) 1 0 (Newer (lock 0 0 1 1))) l)) first.report) → ⊥
newer_in_prefix run = false≢true (sym run.workers.1.0.causes.0.1)

-- no version stands after this one yet
full_of_current : IsRun full.setting (in_log 1 (event_at 2 (tried 2 1 (Some 1) 1 1 (Full (lock 0 0 1 1)))) full.report)
    → ⊥
full_of_current run = omega (arith, run.workers.0.causes.1.0.1)

-- the lock was listed on a version that the prefix overwrites
lock_of_overwritten : IsRun first.setting (in_log 2 (λ l. read_at 1 (item 0 0 105)
    (event_at 1 (tried 2 1 (Some 1) 1 0 (Locked (lock 0 0 0 0))) l)) variants.lock_met) → ⊥
lock_of_overwritten run = omega (arith, run.workers.1.0.causes.0.1 refl)

-- a stopped worker had begun to write its next number, and no other
number_after_stopped : IsRun holder.setting (holder.report (Newer (lock 0 0 1 2))) → ⊥
number_after_stopped run = elim run.workers.1.0.causes.0.2 [
  | inl written ↦ false≢true written
  | inr unfinished ↦ omega (arith, unfinished.1)
]

-- the worker itself has moved the version
full_of_moved : IsRun beside.setting (in_log 1 (event_at 3 (tried 3 1 (Some 2) 0 1 (Full (lock 0 0 0 0))))
    beside.report) → ⊥
full_of_moved run = false≢true (sym run.workers.0.causes.1.1.0.2)

-- numbers follow up to the greatest
spent_early : IsRun (record spent.setting { start = 4294967293 }) (record (in_log 1 (event_at 1
    (tried 1 1 (Some 0) 0 1 (Commit 4294967294))) spent.report) {
      history = entry 1 4294967294 0 1 (item 0 0 2 ∷ []) ∷ [];
    }) → ⊥
spent_early run = omega (arith, run.workers.0.causes.1.0)

-- the other worker's lock is of another key, or of another version
lock_of_other_key : IsRun holder.setting (in_log 2 (λ l. with_locks []
    (event_at 1 (tried 2 1 (Some 0) 0 0 (Locked (lock 0 1 0 0))) l)) (holder.report (Locked (lock 0 0 0 0)))) → ⊥
lock_of_other_key run = false≢true run.workers.1.0.causes.0.0

lock_of_other_version : IsRun holder.setting (holder.report (Locked (lock 0 0 0 1))) → ⊥
lock_of_other_version run = false≢true run.workers.1.0.causes.0.0

-- the newer version is the worker's own, one of a key that was guarded alone, or one of a key that the stopped worker
-- hadn't locked
newer_of_itself : IsRun first.setting (in_log 2 (event_at 1 (tried 2 1 (Some 0) 1 0 (Newer (lock 0 0 2 1))))
    first.report) → ⊥
newer_of_itself run = run.workers.1.0.causes.0.0 refl

newer_of_guarded : IsRun skew.setting (in_log 2 (λ l. with_locks []
    (event_at 1 (tried 2 1 (Some 0) 4 0 (Newer (lock 0 1 1 1))) l)) skew.report) → ⊥
newer_of_guarded run = elim run.workers.1.0.causes.0.2 [
  | inl written ↦ false≢true written
  | inr unfinished ↦ false≢true unfinished.0
]

newer_of_unlocked : IsRun holder.setting (in_log 2 (λ l. with_locks []
    (event_at 1 (tried 2 1 (Some 0) 0 0 (Newer (lock 0 1 1 1))) l)) (holder.report (Newer (lock 0 0 1 1)))) → ⊥
newer_of_unlocked run = elim run.workers.1.0.causes.0.2 [
  | inl written ↦ false≢true written
  | inr unfinished ↦ false≢true unfinished.0
]

-- ---- again and old

-- nobody else published (what the worker knows refuses it too)
again_by_itself : IsRun first.setting (in_log 2 (λ l. with_reads (item 0 0 105 ∷ [])
    (event_at 1 (tried 2 1 None 0 0 (Again 2 0 1)) l)) first.report) → ⊥
again_by_itself run = run.workers.1.0.causes.0.0 refl

-- the prefix has another entry for the worker
old_entry_changed : IsRun old.setting (in_log 2 (event_at 1 (tried 3 1 (Some 0) 0 0 (TooOld 1 1 2))) old.report) → ⊥
old_entry_changed run = omega (arith, run.workers.1.0.causes.0.1)

-- the horizon isn't above the prefix's entry
horizon_not_above : IsRun below.setting (in_log 2 (event_at 3 (tried 4 1 (Some 2) 0 0 (TooOld 1 1 1))) below.report) → ⊥
horizon_not_above run = omega (arith, run.workers.1.0.causes.1.1.0.2)

-- ---- tidying

-- no prefix has these entries
collect_of_no_prefix : IsRun old.setting (in_log 1 (event_at 5 (collected 0 2 (2 ∷ 1 ∷ []))) old.report) → ⊥
collect_of_no_prefix run = omega (arith, ap (λ (ns : List ℕ). slice_index ns 1) run.workers.0.causes.1.1.1.1.0)

-- the version was moved by the worker itself before, and by nobody else
own_move_met : IsRun old.setting (in_log 1 (event_at 6 (Moved 0 0 0 (stamp 0 0) Back)) old.report) → ⊥
own_move_met run = false≢true (run.workers.0.causes.1.1.1.1.1.0.2 refl)

-- nothing was moved
no_room_at_first : IsRun old.setting (in_log 1 (with_events (tried 1 1 (Some 0) 1 1 (Commit 1)
    ∷ tried 2 1 (Some 1) 1 1 (Commit 2) ∷ NoRoom 0 ∷ collected 0 2 (2 ∷ 0 ∷ []) ∷ moved 0 0 0 1 1 ∷ [])) old.report) → ⊥
no_room_at_first run = elim run.workers.0.causes.1.1.0 [
  | inl filled ↦ omega (arith, filled)
  | inr used ↦ omega (arith, used)
]

-- what was moved is within the worker's own collect
no_room_after_collect : IsRun old.setting (in_log 1 (event_at 6 (NoRoom 0)) old.report) → ⊥
no_room_after_collect run = elim run.workers.0.causes.1.1.1.1.1.0 [
  | inl filled ↦ omega (arith, filled)
  | inr used ↦ omega (arith, used)
]

-- no such version was ever written
move_of_no_version : IsRun old.setting (in_log 1 (event_at 2 (moved 0 0 0 1 7)) old.report) → ⊥
move_of_no_version run = false≢true run.workers.0.causes.1.0.0

-- a key's versions are moved into two buckets
move_elsewhere : IsRun old.setting (in_log 1 (event_at 6 (moved 1 0 0 1 1)) old.report) → ⊥
move_elsewhere run = false≢true run.workers.0.causes.1.0.1

-- both passes of a collect found the same number
same_number_collect : IsRun failed.setting (in_log 1 (event_at 3 (CollectAgain 0 2 1 1)) failed.report) → ⊥
same_number_collect run = omega (arith, run.workers.0.causes.1.1.0.1)

-- ---- stops

-- nothing is left to be done after a commit that guards nothing
tail_cut_without_guards : IsRun transfer.setting (in_log 1 (with_events (tried 1 1 (Some 0) 3 2 (Commit 1) ∷ TailCut
    ∷ [])) transfer.report) → ⊥
tail_cut_without_guards run = false≢true run.workers.0.causes.1.0

-- locks don't name their holder
finished_unheld : IsRun holder.setting holder.finished → ⊥
finished_unheld run = false≢true run.workers.0.causes.1.0.0

-- a cut attempt is no commit that could be completed, and a commit none that could be given back
cut_rolled_on : IsRun holder.held_setting (in_log 1 (event_at 2 (Finished RolledOn)) holder.finished) → ⊥
cut_rolled_on run = false≢true run.workers.0.causes.1.0.1

commit_undone : IsRun medic.setting (in_log 1 (event_at 2 (Finished Undone)) medic.report) → ⊥
commit_undone run = false≢true run.workers.0.causes.1.0.1
