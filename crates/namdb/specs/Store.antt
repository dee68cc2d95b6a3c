-- What a store of the serial run holds after a history.
use Rattle.std.specs.Prelude.{ℕ, ◌+◌, ◌≤◌, ◌≡◌, ◌-◌, ◌++◌, length, List, slice_index, true, is_some, if◌then◌else◌}
use Rattle.si_model.specs.declared.row.Key.{Key}
use Rattle.si_model.specs.declared.op.Op.{Op}
use Rattle.si_model.specs.declared.log.Log.{Log}
use Rattle.si_model.specs.declared.log.Outcome.{Outcome}
use Rattle.si_model.specs.declared.log.Event.TheVariants.{Tried}
use Rattle.si_model.specs.declared.evaluated.Evaluated.{Evaluated}
use Rattle.si_model.specs.Rows.{rows_of, overlay, writes_key}
use Rattle.si_model.specs.Evaluation.{evaluation_of, reads_of}
use Rattle.si_model.specs.Committed.{rows_held}
use Rattle.si_model.specs.State.{state_at}
use Rattle.si_model.specs.History.{count_of, entries_at, newest_writer, stamp_at}
use Rattle.si_model.specs.Setting.{Setting}
use Rattle.std.specs.List.{AllByRecursion}
use Rattle.nam_report.specs.Fits.{EntryFits}
use Rattle.namdb.specs.declared.attempt.Plan.{Plan}
use Rattle.namdb.specs.declared.store.Store.{Store}
use Rattle.si_model.specs.Rows.{has_key}
use Rattle.namdb.specs.NamedRows.{named_keys}
use Rattle.namdb.specs.Stamps.{stamp_held, lock_held}
use Rattle.namdb.specs.Serial.{outcome_of, writes_by, entry_by, locks_with, attempt_by, vector_by, number_by, log_with}

-- the vector has the published numbers, the rows are the committed state, each stamp is the newest writer's, no number
-- is above the greatest, the entries fit the tables, and no other keys hold rows than those that the script names
pub record IsStore (s : Setting) (store : Store) : Type 0 where
  pub vector : store.vector ≡ entries_at s.workers s.start store.history
  pub rows : (key : Key) → rows_held store.rows key ≡ state_at (rows_of s.rows) store.history key
  pub stamps : (key : Key) → stamp_held store.stamps key ≡ newest_writer key store.history
  pub numbers : (j : ℕ) → s.start + count_of j store.history ≤ s.greatest
  pub fit : AllByRecursion (EntryFits s.widths) store.history
  pub named : (key : Key) → is_some (state_at (rows_of s.rows) store.history key) ≡ true
      → has_key (named_keys s) key ≡ true

-- the plan is that of the setting
pub record IsPlan (s : Setting) (plan : Plan) : Type 0 where
  pub workers : plan.workers ≡ s.workers
  pub greatest : plan.greatest ≡ s.greatest
  pub widths : plan.widths.items ≡ s.widths

-- An attempt of worker j at transaction x, with the evaluation e, ended by o on the snapshot seen: its event is listed,
-- and where it committed its entry is appended and published, its write set put over the rows, and its stamp noted.
pub record Attempts (j x : ℕ) (e : Evaluated) (o : Outcome) (seen : List ℕ) (old new : Store) (old_log new_log : Log) :
    Type 0 where
  pub log : new_log
      ≡ log_with old_log (Tried (attempt_by x (length old.history) e (locks_with (lock_held old.stamps) e o) o))
      (reads_of e) (locks_with (lock_held old.stamps) e o) (writes_by e o) seen
  pub history : new.history ≡ old.history ++ entry_by j x (length old.history) (writes_by e o) o
  pub vector : new.vector ≡ vector_by j o old.vector
  pub rows : (key : Key) → rows_held new.rows key ≡ overlay (writes_by e o) (rows_held old.rows) key
  pub stamps : (key : Key) → stamp_held new.stamps key
      ≡ (if writes_key (writes_by e o) key then stamp_at j (number_by o) else stamp_held old.stamps key)

-- what worker j's attempt at operations does by a plan, on a store
abbrev pub AttemptsBy : Plan → ℕ → ℕ → List Op → Store → Store → Log → Log → Type 0
AttemptsBy plan j x ops old new old_log new_log =
    let e = evaluation_of plan.widths.items (rows_held old.rows) ops in
    Attempts j x e (outcome_of plan.greatest (slice_index old.vector (j - 1)) e) old.vector old new old_log new_log
