-- The words of a new world are below 2^64, where its rows are.
use Rattle.std.specs.List.{AllByRecursion}
use Rattle.std.proofs.Common.{Bool, List, [], arith, false, replicate, suc, true, zero, ℕ, ◌*◌, ◌+◌, ◌==◌, ◌∷◌}
use Rattle.si_model.specs.declared.op.Policy.{Policy}
use Rattle.nam_catalog.specs.declared.shape.Shape.{Shape}
use Rattle.nam_catalog.specs.declared.shape.Table.{Table}
use Rattle.nam_catalog.specs.Fits.{FitsLimits}
use Rattle.nam_catalog.specs.Words.{cell_words, intent_words}
use Rattle.nam_layout.specs.Address.{address}
use Rattle.si_model.specs.declared.row.Row.{Row}
use Rattle.nam_layout.specs.declared.field.Field.TheVariants as field
use Rattle.nam_calls.specs.Holds.{AreWords}
use Rattle.nam_calls.specs.Index.{nth_key, nth_position}
use Rattle.nam_calls.specs.Memory.{memory}
use Rattle.nam_calls.specs.Words.{capacity_of, key_word, path_of}
use Rattle.nam_calls.proofs.HoldsWords.{mark_word, number_word, same_words, words_append, words_set}
use Rattle.nam_protocol.specs.declared.session.Job.{Job}
use Rattle.nam_protocol.specs.HoldsWords.{JobHolds, RowHolds, SessionHolds}
use Rattle.nam_protocol.specs.Opening.{blank_position, blank_slot, blank_tables, blank_words, copies, load_from}
use Rattle.nam_protocol.specs.Opening.{with_row, with_rows, with_value}
use Rattle.nam_protocol.specs.Telling.{new_client}
use Rattle.nam_protocol.specs.WordsLaw.{NewWorldLaw}
use Rattle.nam_protocol.specs.World.{new_sessions}
use Rattle.nam_protocol.proofs.HoldsClient.{client_keeps}
use Rattle.nam_protocol.proofs.HoldsSession.{session_keeps}

-- 1. Blank words

copies_words : (n : ℕ) (words : List ℕ) → AreWords words → AreWords (copies n words)
unfolding copies
copies_words zero words all = tt
copies_words (suc n) words all = words_append words (copies n words) all (copies_words n words all)

position_words_hold : (width ring : ℕ) → AreWords (blank_position width ring)
position_words_hold width ring =
    let zeros = same_words width 0 (omega arith) in
    let slots = copies_words ring (blank_slot width) (mark_word, (omega arith, zeros)) in
    (omega arith, (omega arith, (omega arith, words_append (replicate {A = ℕ} width 0) _ zeros slots)))

tables_words_hold : (tables : List Table) → AreWords (blank_tables tables)
tables_words_hold [] = tt
tables_words_hold (t ∷ ts) =
    words_append (copies t.capacity (blank_position t.width t.ring)) (blank_tables ts)
    (copies_words t.capacity (blank_position t.width t.ring) (position_words_hold t.width t.ring))
    (tables_words_hold ts)

module _ (shape : Shape) (limits : FitsLimits shape) where
  blank_words_hold : AreWords (blank_words shape)
  blank_words_hold =
      let starts = same_words (2 * shape.workers) shape.start (number_word shape.form shape.start limits.start) in
      let cells = same_words (shape.buckets * shape.cells * cell_words) 0 (omega arith) in
      let intents = same_words (shape.workers * intent_words shape.form) 0 (omega arith) in
      words_append _ _
      (words_append _ _ (words_append _ _ starts (tables_words_hold shape.tables)) cells) intents

  -- 2. Loaded rows

  value_loaded : (at nth : ℕ) (value words : List ℕ) → AreWords value → AreWords words
      → AreWords (with_value shape at nth value words)
  value_loaded at nth [] words has all = all
  value_loaded at nth (v ∷ vs) words has all =
      value_loaded at (nth + 1) vs _ has.1 (words_set words (address shape (field.Word at nth)) v all has.0)

  row_loaded : (at : ℕ) (row : Row) (words : List ℕ) → RowHolds row → AreWords words
      → AreWords (with_row shape at row words)
  row_loaded at row words has all =
      value_loaded at 0 row.value _ has.1
      (words_set _ (address shape (field.Header at)) 0
      (words_set words (address shape (field.Key at)) (key_word row.key) all has.0) (omega arith))

  load_holds : (row : Row) (rest passed : ℕ) (words : List ℕ) → RowHolds row → AreWords words
      → AreWords (load_from shape row rest passed words)
  unfolding load_from
  load_holds row zero passed words has all = all
  load_holds row (suc rest) passed words has all =
      let path = path_of shape row.table row.key in
      load_case (memory shape words (nth_key path passed) == 0) (path.row + nth_position path passed)
      (load_holds row rest (passed + 1) words has all)
    where
      load_case : (free : Bool) (at : ℕ) → AreWords (load_from shape row rest (passed + 1) words)
          → AreWords (elim free [
            | true ↦ with_row shape at row words
            | false ↦ load_from shape row rest (passed + 1) words
          ])
      load_case true at later = row_loaded at row words has all
      load_case false at later = later

  rows_loaded : (rows : List Row) (words : List ℕ) → AllByRecursion RowHolds rows → AreWords words
      → AreWords (with_rows shape rows words)
  rows_loaded [] words has all = all
  rows_loaded (row ∷ rows) words has all =
      rows_loaded rows _ has.1 (load_holds row (capacity_of shape row.table) 0 words has.0 all)

  -- 3. New sessions

  new_sessions_hold : (policy : Policy) (worker : ℕ) (jobs : List (List Job))
      → AllByRecursion (AllByRecursion JobHolds) jobs
      → AllByRecursion (SessionHolds shape) (new_sessions shape policy worker jobs)
  new_sessions_hold policy worker [] all = tt
  new_sessions_hold policy worker (job ∷ jobs) all = (
    (session_keeps shape).new (new_client worker shape.start) job policy
        ((client_keeps shape).new worker shape.start limits.start) tt all.0,
    new_sessions_hold policy (worker + 1) jobs all.1,
  )

pub new_world_holds : NewWorldLaw
new_world_holds shape limits rows policy jobs has all = (
  rows_loaded shape limits rows (blank_words shape) has (blank_words_hold shape limits),
  new_sessions_hold shape limits policy 1 jobs all,
)
