-- Worked rows with an audit that isn't of the final state, or with a mark that nobody left, are no runs.
use Rattle.std.proofs.Common.{[], ◌∷◌, false, refl, None}
use Rattle.std.proofs.lemmas.Bool.{false≢true}
use Rattle.si_model.specs.declared.log.Outcome.TheVariants.{Locked}
use Rattle.si_model.specs.Rows.{key_at}
use Rattle.si_model.specs.Run.{IsRun}
use Rattle.si_model.proofs.ExampleWords.{lock, audited, marked}
use Rattle.si_model.proofs.TransferExample as transfer
use Rattle.si_model.proofs.MedicVerbByVerbExample as medic
use Rattle.si_model.proofs.GuardForbidsSkewExample as skew
use Rattle.si_model.proofs.StoppedHolderExample as holder
use Rattle.si_model.proofs.WorkedVariantsExample as variants

-- a key stands there twice
key_twice : IsRun transfer.setting (record transfer.report {
  audit = audited 0 0 90 ∷ audited 0 0 90 ∷ audited 0 1 10 ∷ [];
}) → ⊥
key_twice run = false≢true run.audit.state.ordered.0.0

-- the rows are exchanged
rows_exchanged : IsRun transfer.setting (record transfer.report { audit = audited 0 1 10 ∷ audited 0 0 90 ∷ [] }) → ⊥
rows_exchanged run = false≢true run.audit.state.ordered.0.0

-- an absent row stands there without a mark
absent_unmarked : IsRun transfer.setting (record transfer.report {
  audit = audited 0 0 90 ∷ audited 0 1 10 ∷ record { table = 0; key = 2; value = None; locked = false } ∷ [];
}) → ⊥
absent_unmarked run = false≢true (run.audit.lines.1.1.0.absent refl)

-- the commit was rolled on, and its lock stays
mark_after_roll : IsRun medic.setting (record medic.report { audit = marked 0 0 1 ∷ audited 0 1 1 ∷ [] }) → ⊥
mark_after_roll run = false≢true (run.audit.lines.0.locked refl)

-- the stopped worker's lock was given back, and stays
mark_after_undo : IsRun holder.held_setting (record holder.finished { audit = marked 0 0 0 ∷ audited 0 1 0 ∷ [] }) → ⊥
mark_after_undo run = false≢true (run.audit.lines.0.locked refl)

-- the key is written, and the lock that is left is the guard's
mark_beside_guard : IsRun skew.setting (record variants.guard_left { audit = marked 0 0 0 ∷ marked 0 1 60 ∷ [] }) → ⊥
mark_beside_guard run = false≢true (run.audit.lines.0.locked refl)

-- the stopped worker hadn't locked this key
mark_of_unlocked : IsRun holder.setting (record (holder.report (Locked (lock 0 0 0 0))) {
  audit = marked 0 0 0 ∷ marked 0 1 0 ∷ [];
}) → ⊥
mark_of_unlocked run = false≢true (run.audit.lines.1.0.locked refl)

-- a row is left out
row_missing : IsRun transfer.setting (record transfer.report { audit = audited 0 0 90 ∷ [] }) → ⊥
row_missing run = absurd (let held = run.audit.state.same (key_at 0 1) in cc)
