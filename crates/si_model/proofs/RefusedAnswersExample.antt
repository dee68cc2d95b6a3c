-- Worked rows with a lock, a read or an outcome that the evaluation doesn't give are no runs.
use Rattle.std.proofs.Common.{◌<◌, ℕ, List, [], ◌∷◌, length, ap, sym, arith, Some, None, inl, inr}
use Rattle.std.specs.Prelude.{IsTrue, slice_index_or}
use Rattle.std.proofs.lemmas.Bool.{false≢true}
use Rattle.si_model.specs.declared.row.Key.{Key}
use Rattle.si_model.specs.declared.row.Item.{Item}
use Rattle.si_model.specs.declared.op.Op.TheVariants.{Get, Put}
use Rattle.si_model.specs.declared.log.Stamp.{Stamp}
use Rattle.si_model.specs.declared.log.Outcome.TheVariants.{Declined as DeclinedAt, Spent, Locked, Again, ReadOnly}
use Rattle.si_model.specs.declared.log.Outcome.TheVariants.{Newer, Full, NoSpace, TooOld, Cut, Left}
use Rattle.si_model.specs.declared.evaluated.Evaluated.{Evaluated}
use Rattle.si_model.specs.declared.evaluated.Evaluated.TheVariants.{Done, Declined}
use Rattle.si_model.specs.Rows.{key_at, same_key, has_key, writes_key}
use Rattle.si_model.specs.Answers.{LocksAll, LocksBefore, LocksFront}
use Rattle.si_model.specs.Run.{IsRun}
use Rattle.si_model.proofs.ExampleWords.{item, lock, tried, log}
use Rattle.si_model.proofs.ChangedReports.{in_log, event_at, read_at, lock_at, with_reads, with_locks, done_as}
use Rattle.si_model.proofs.ChangedReports.{same_number}
use Rattle.si_model.proofs.PlaceSearch.{places_may}
use Rattle.si_model.proofs.WorkedVariantsExample as variants
use Rattle.si_model.proofs.StoppedHolderExample as holder
use Rattle.si_model.proofs.TransferExample as transfer
use Rattle.si_model.proofs.TableHasNoSpaceExample as space
use Rattle.si_model.proofs.OldBesideExample as old
use Rattle.si_model.proofs.RingIsFullExample as full
use Rattle.si_model.proofs.TidyingFailedExample as failed
use Rattle.si_model.proofs.FirstCommitterWinsExample as first
use Rattle.si_model.proofs.SnapshotAgainExample as again
use Rattle.si_model.proofs.GuardForbidsSkewExample as skew
use Rattle.si_model.proofs.DeclinedExample as declined
use Rattle.si_model.proofs.NumbersAreSpentExample as spent

-- ---- locks, and what the evaluation gives

-- a commit that locked another number of the right worker
number_locked_by_commit : IsRun first.setting (in_log 2 (lock_at 1 (lock 0 0 1 2)) first.report) → ⊥
number_locked_by_commit run = omega (arith, ap (λ (s : Stamp). s.number) run.workers.1.0.answers.1.0.1.0)

-- the same of an attempt that met a newer version
number_locked_before_newer : IsRun skew.setting (in_log 2 (lock_at 1 (lock 0 1 0 1)) skew.report) → ⊥
number_locked_before_newer run = omega (arith, ap (λ (s : Stamp). s.number) run.workers.1.0.answers.0.1.0)

-- and of one that met a lock
number_locked_before_locked : IsRun holder.setting (in_log 2 (lock_at 1 (lock 0 1 0 1)) (holder.report
    (Locked (lock 0 0 0 0)))) → ⊥
number_locked_before_locked run = omega (arith, ap (λ (s : Stamp). s.number) run.workers.1.0.answers.0.1.0)

-- a key is locked in place of the guard's
guard_not_locked : IsRun skew.setting (in_log 1 (lock_at 2 (lock 0 2 0 0)) skew.report) → ⊥
guard_not_locked run =
    let commit = run.workers.0.answers.0.0 in
    let reads = item 0 0 60 ∷ item 0 1 60 ∷ item 0 1 60 ∷ item 0 0 60 ∷ [] in
    let all = done_as {reads = reads} {ws = item 0 0 0 ∷ []} {gs = key_at 0 1 ∷ []}
    (LocksAll (key_at 0 0 ∷ key_at 0 2 ∷ [])) commit.2 commit.3.1 in
    false≢true (sym (ap (λ (ks : List Key). has_key ks (key_at 0 2)) all))

-- nothing is needed that wasn't found
declined_though_done : IsRun again.setting (in_log 1 (event_at 2 (tried 1 2 (Some 1) 1 0 (DeclinedAt 1)))
    again.report) → ⊥
declined_though_done run = absurd (let same = run.workers.0.answers.1.0.0.0 in cc)

abbrev op_of : Evaluated → ℕ
op_of (Done reads writes guards) = 0
op_of (Declined op reads) = op

-- the first operation declined, not the second
declined_elsewhere : IsRun declined.setting (in_log 1 (event_at 1 (tried 1 1 (Some 0) 1 0 (DeclinedAt 2)))
    declined.report) → ⊥
declined_elsewhere run = omega (arith, ap op_of run.workers.0.answers.0.0.0)

-- numbers are spent before the locks
spent_with_lock : IsRun spent.setting (in_log 1 (λ l. with_locks (lock 0 0 0 0 ∷ lock 0 0 1 4294967295 ∷ [])
    (event_at 2 (tried 2 1 (Some 1) 0 1 Spent) l)) spent.report) → ⊥
spent_with_lock run = absurd (let none = run.workers.0.answers.1.0.0.3.1 in cc)

-- the second read before the stop isn't the evaluation's
read_before_cut_changed : IsRun transfer.setting (in_log 1 (read_at 2 (item 0 0 101)) variants.cut_reading) → ⊥
read_before_cut_changed run =
    let second = ap (λ (is : List Item). slice_index_or is 1 (item 0 0 0)) run.workers.0.answers.0.0.0.1 in
    omega (arith, same_number second)

-- a table with a position more has room for the key
space_for_one_more : IsRun (record space.setting { capacities = 3 ∷ [] }) space.report → ⊥
space_for_one_more run = false≢true (places_may run.workers.0).0

-- what it reads was written before its prefix and not since, though another key was
old_of_standing : IsRun (old.setting (Get 0 0)) old.report → ⊥
old_of_standing run = false≢true (places_may run.workers.1.0).0

-- it reads what it wrote itself
old_of_own_write : IsRun (old.setting (Put 0 0 (9 ∷ []))) old.report → ⊥
old_of_own_write run = false≢true (places_may run.workers.1.0).0

-- ---- what each outcome lists

-- an again with a read, and one with a prefix
again_with_read : IsRun again.setting (in_log 1 (λ l. with_reads (item 0 0 100 ∷ item 0 0 101 ∷ [])
    (event_at 1 (tried 1 1 None 1 0 (Again 2 0 1)) l)) again.report) → ⊥
again_with_read run = absurd (let none = run.workers.0.answers.0.0 in cc)

again_with_prefix : IsRun again.setting (in_log 1 (event_at 1 (tried 1 1 (Some 0) 0 0 (Again 2 0 1))) again.report) → ⊥
again_with_prefix run = run.workers.0.answers.0.0

-- a read without a prefix, of a transaction that writes, and with a lock
read_without_prefix : IsRun again.setting (in_log 1 (event_at 2 (tried 1 2 None 1 0 ReadOnly)) again.report) → ⊥
read_without_prefix run = run.workers.0.answers.1.0

read_though_writing : IsRun transfer.setting (in_log 1 (λ l. log (tried 1 1 (Some 0) 3 0 ReadOnly ∷ [])
    (item 0 0 100 ∷ item 0 0 100 ∷ item 0 1 0 ∷ []) []) variants.cut_reading) → ⊥
read_though_writing run = absurd (let none = run.workers.0.answers.0.0.1 in cc)

read_with_lock : IsRun again.setting (in_log 1 (λ l. with_locks (lock 0 0 2 1 ∷ [])
    (event_at 2 (tried 1 2 (Some 1) 1 1 ReadOnly) l)) again.report) → ⊥
read_with_lock run = absurd (let none = run.workers.0.answers.1.0.0.2 in cc)

declined_with_lock : IsRun declined.setting (in_log 1 (λ l. with_locks (lock 0 0 0 0 ∷ [])
    (event_at 1 (tried 1 1 (Some 0) 1 1 (DeclinedAt 1)) l)) declined.report) → ⊥
declined_with_lock run = absurd (let none = run.workers.0.answers.0.0.1 in cc)

-- no number is needed for a read
spent_without_writes : IsRun spent.setting (in_log 1 (event_at 3 (tried 3 1 (Some 1) 1 0 Spent)) spent.report) → ⊥
spent_without_writes run =
    let some = run.workers.0.answers.1.1.0.0 in
    omega (arith, done_as (λ ws gs. 0 < length ws) some.2 some.3.0)

-- the key before isn't locked
lock_before_newer_missing : IsRun skew.setting (in_log 2 (λ l. with_locks []
    (event_at 1 (tried 2 1 (Some 0) 4 0 (Newer (lock 0 0 1 1))) l)) skew.report) → ⊥
lock_before_newer_missing run =
    let met = run.workers.1.0.answers.0.0 in
    let reads = item 0 0 60 ∷ item 0 1 60 ∷ item 0 0 60 ∷ item 0 1 60 ∷ [] in
    let next = done_as {reads = reads} {ws = item 0 1 0 ∷ []} {gs = key_at 0 0 ∷ []} (LocksBefore (key_at 0 0) [])
    met.2 met.3 in
    false≢true (ap (λ (ks : List Key). same_key (slice_index_or ks 0 (key_at 0 0)) (key_at 0 0)) next.2)

-- a full ring is found under all locks, and is one of a key that is written
full_without_lock : IsRun full.setting (in_log 1 (λ l. with_locks (lock 0 0 0 0 ∷ lock 0 0 1 1 ∷ [])
    (event_at 3 (tried 3 1 (Some 1) 1 0 (Full (lock 0 0 0 0))) l)) full.report) → ⊥
full_without_lock run =
    let met = run.workers.0.answers.1.1.0.0 in
    let all = done_as (LocksAll []) met.2 met.3.1 in
    absurd cc

full_of_unwritten : IsRun failed.setting (in_log 1 (event_at 6 (tried 2 1 (Some 2) 0 2 (Full (lock 0 2 0 0))))
    failed.report) → ⊥
full_of_unwritten run =
    let met = run.workers.0.answers.1.1.1.1.1.0.0 in
    let written = done_as {reads = []} {ws = item 0 0 2 ∷ item 0 1 2 ∷ []} {gs = []}
    (λ ws gs. IsTrue (writes_key ws (key_at 0 2))) met.2 met.3.0 in
    false≢true written

-- room is lacking in the table of the key
space_of_other_table : IsRun space.setting (in_log 1 (event_at 1 (tried 1 1 (Some 0) 1 0 (NoSpace 1))) space.report) → ⊥
space_of_other_table run = false≢true (places_may run.workers.0).0

space_with_lock : IsRun space.setting (in_log 1 (λ l. with_locks (lock 0 0 0 0 ∷ [])
    (event_at 1 (tried 1 1 (Some 0) 1 1 (NoSpace 0)) l)) space.report) → ⊥
space_with_lock run = absurd (let none = run.workers.0.answers.0.0.5 in cc)

-- the read before isn't listed, and one too many is
space_without_read : IsRun space.setting (in_log 1 (λ l. log (tried 1 1 (Some 0) 0 0 (NoSpace 0) ∷ []) [] [])
    space.report) → ⊥
space_without_read run = absurd (let none = run.workers.0.answers.0.0.4.1 in cc)

old_with_read : IsRun (old.setting (Get 0 1)) (in_log 2 (λ l. with_reads (item 0 1 6 ∷ [])
    (event_at 1 (tried 3 1 (Some 1) 1 0 (TooOld 1 1 2)) l)) old.report) → ⊥
old_with_read run = false≢true (places_may run.workers.1.0).0

old_with_lock : IsRun (old.setting (Get 0 1)) (in_log 2 (λ l. with_locks (lock 0 0 1 1 ∷ [])
    (event_at 1 (tried 3 1 (Some 1) 0 1 (TooOld 1 1 2)) l)) old.report) → ⊥
old_with_lock run = absurd (let none = run.workers.1.0.answers.0.0.5 in cc)

-- locks before the last read
cut_locking_while_reading : IsRun transfer.setting (in_log 1 (λ l. with_locks (lock 0 0 0 0 ∷ [])
    (event_at 1 (tried 1 1 (Some 0) 2 1 Cut) l)) variants.cut_reading) → ⊥
cut_locking_while_reading run = elim run.workers.0.answers.0.0.1 [
  | inl none ↦ absurd cc
  | inr all ↦ absurd (let same = all.2 in cc)
]

-- the second key is locked before the first
cut_out_of_order : IsRun transfer.setting (in_log 1 (lock_at 1 (lock 0 1 0 0)) variants.cut_locking) → ⊥
cut_out_of_order run = elim run.workers.0.answers.0.0.1 [
  | inl none ↦ absurd cc
  | inr all ↦
      let front = done_as (LocksFront (key_at 0 1 ∷ [])) all.2 all.3 in
      false≢true (sym (ap (λ (ks : List Key). same_key (slice_index_or ks 0 (key_at 0 0)) (key_at 0 1)) front.1.1))
]

-- no caller leaves an attempt of a script
left_in_report : IsRun transfer.setting (in_log 1 (event_at 1 (tried 1 1 (Some 0) 2 0 Left)) variants.cut_reading) → ⊥
left_in_report run = false≢true run.workers.0.answers.0.0.0
