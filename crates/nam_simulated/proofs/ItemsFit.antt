-- The items and locks that a client lists fit its shape.
use Rattle.nam_calls.specs.Fits.{HasWidth, IsTableOf}
use Rattle.nam_calls.specs.Words.{width_of}
use Rattle.nam_catalog.specs.Fits.{FitsLimits}
use Rattle.nam_catalog.specs.Tables.{widths_of}
use Rattle.nam_catalog.specs.declared.shape.Shape.{Shape}
use Rattle.nam_catalog.specs.declared.shape.Table.{Table}
use Rattle.nam_header.specs.Tag.{full}
use Rattle.nam_protocol.proofs.FallsKeys.{record_is_placed}
use Rattle.nam_protocol.proofs.FieldLemmas.{placed}
use Rattle.nam_protocol.proofs.OpensDriver.{one}
use Rattle.nam_protocol.specs.Carries.{IsFullAt, IsMissed}
use Rattle.nam_protocol.specs.Commit.{lock_at, no_record, record_at, records_of}
use Rattle.nam_protocol.specs.Operations.{holding}
use Rattle.nam_protocol.specs.Telling.{locks_from, new_locks}
use Rattle.nam_protocol.specs.TxnFits.{IsPlaced, StateFits, is_claimed}
use Rattle.nam_protocol.specs.declared.txn.Record.{Record}
use Rattle.nam_protocol.specs.declared.txn.TxnState.{TxnState}
use Rattle.nam_report.specs.Fits.{ItemFits, LockFits, NamesTable}
use Rattle.nam_verbs.proofs.TestLemmas.{by_test}
use Rattle.si_model.proofs.EvaluationLemmas.{same_key_says}
use Rattle.si_model.specs.Evaluation.{OpFits, found, op_key}
use Rattle.si_model.specs.EvaluationLaws.{IsWide, is_scan}
use Rattle.si_model.specs.Rows.{item_key, same_key}
use Rattle.si_model.specs.declared.log.Lock.{Lock}
use Rattle.si_model.specs.declared.op.Op.{Op}
use Rattle.si_model.specs.declared.op.Op.TheVariants.{Add, Del, Get, Guard, Need, Put, Scan}
use Rattle.si_model.specs.declared.row.Item.{Item}
use Rattle.si_model.specs.declared.row.Key.{Key}
use Rattle.std.proofs.Common.{Bool, List, None, Option, Some, [], arith, false, length, subst, suc, sym, true, zero, ℕ}
use Rattle.std.proofs.Common.{◌+◌, ◌<◌, ◌∷◌, ◌≡◌}
use Rattle.std.proofs.lemmas.Bool.{false≢true}
use Rattle.std.proofs.lemmas.List.{length-map}
use Rattle.std.specs.List.{AllByRecursion}
use Rattle.std.specs.Prelude.{IfSome, slice_index, slice_index_or}
use Rattle.si_model.specs.declared.op.Op.TheVariants as op

module _ (shape : Shape) where
  abbrev widths : List ℕ
  widths = widths_of shape.tables

  -- 1. Tables and values

  pub table_named : (table : ℕ) → IsTableOf shape table → NamesTable (widths_of shape.tables) table
  table_named table is = let l = length-map shape.tables (λ (t : Table). t.width) in omega arith

  pub op_named : (op : Op) → OpFits (widths_of shape.tables) op → NamesTable (widths_of shape.tables) (op_key op).table
  op_named (op.Get t k) fits = fits.0
  op_named (op.Put t k v) fits = fits.0.0
  op_named (op.Add t k f up by) fits = fits.0.0
  op_named (op.Del t k) fits = fits.0
  op_named (op.Need t k f least) fits = fits.0.0
  op_named (op.Guard t k) fits = fits.0
  op_named (op.Scan t low high) fits = fits.0

  pub value_fits : (table : ℕ) (value : Option (List ℕ)) → HasWidth (width_of shape table) value
      → IfSome value (λ v. length v ≡ slice_index (widths_of shape.tables) table)
  value_fits table None wide = tt
  value_fits table (Some v) wide = wide

  -- what an operation on one key reads
  pub found_fits : (op : Op) (value : Option (List ℕ)) → OpFits (widths_of shape.tables) op → is_scan op ≡ false
      → HasWidth (width_of shape (op_key op).table) value
      → AllByRecursion (ItemFits (widths_of shape.tables)) (found op (holding value))
  found_fits (op.Get t k) value fits one wide = ((fits.0, value_fits t value wide), tt)
  found_fits (op.Put t k v) value fits one wide = tt
  found_fits (op.Add t k f up by) value fits one wide = ((fits.0.0, value_fits t value wide), tt)
  found_fits (op.Del t k) value fits one wide = tt
  found_fits (op.Need t k f least) value fits one wide = ((fits.0.0, value_fits t value wide), tt)
  found_fits (op.Guard t k) value fits one wide = ((fits.0, value_fits t value wide), tt)
  found_fits (op.Scan t low high) value fits one wide = absurd (false≢true (sym one))

  -- 2. The write set

  claimed_table : (claims : List Record) (table key : ℕ) → AllByRecursion (IsPlaced shape) claims
      → is_claimed claims record { table = table; key = key } ≡ true → IsTableOf shape table
  claimed_table [] table key placed e = absurd (false≢true e)
  claimed_table (c ∷ claims) table key placed e =
      by_test (λ b. b ≡ true → IsTableOf shape table) (same_key c.key record { table = table; key = key }) true
      (is_claimed claims record { table = table; key = key })
      (λ same f. subst (λ (k : Key). IsTableOf shape k.table)
      (same_key_says c.key record { table = table; key = key } same) placed.0.1.0)
      (λ other f. claimed_table claims table key placed.1 f) e

  items_fit : (claims : List Record) (items : List Item) → AllByRecursion (IsPlaced shape) claims
      → AllByRecursion (λ item. is_claimed claims (item_key item) ≡ true) items
      → AllByRecursion (IsWide (widths_of shape.tables)) items
      → AllByRecursion (ItemFits (widths_of shape.tables)) items
  items_fit claims [] placed claimed wide = tt
  items_fit claims (item ∷ items) placed claimed wide = (
    (
      table_named item.table (claimed_table claims item.table item.key placed claimed.0),
      value_fits item.table item.value wide.0,
    ),
    items_fit claims items placed claimed.1 wide.1,
  )

  pub writes_fit : (state : TxnState) → StateFits shape state
      → AllByRecursion (ItemFits (widths_of shape.tables)) state.writes
  writes_fit state fits = items_fit state.claims state.writes fits.placed fits.written fits.wide

  -- 3. Locks

  table_at : (records : List Record) (nth : ℕ)
      → ((n : ℕ) → n < length records → IsTableOf shape (slice_index_or records n no_record).key.table)
      → IsTableOf shape 0 → IsTableOf shape (slice_index_or records nth no_record).key.table
  table_at [] nth each first = first
  table_at (r ∷ records) zero each first = each 0 (omega arith)
  table_at (r ∷ records) (suc nth) each first = table_at records nth (λ n l. each (suc n) (omega arith)) first

  module _ (limits : FitsLimits shape) (state : TxnState) (fits : StateFits shape state)
      (are : state.records ≡ records_of state) where
    pub lock_fits : (nth word : ℕ) → LockFits (widths_of shape.tables) (lock_at state nth word)
    lock_fits nth word =
        let some = limits.least_tables in
        table_named (record_at state nth).key.table
        (table_at state.records nth (λ n l. (record_is_placed shape state fits are n l).1.0) (omega arith))

    pub locks_fit : (nth : ℕ) (headers : List ℕ)
        → AllByRecursion (LockFits (widths_of shape.tables)) (locks_from state nth headers)
    locks_fit nth [] = tt
    locks_fit nth (header ∷ headers) = (lock_fits nth header, locks_fit (nth + 1) headers)

    pub missed_fits : (word : ℕ) (lock : Lock) (locked : Bool) → IsMissed state word lock locked
        → LockFits (widths_of shape.tables) lock
    missed_fits word lock locked missed =
        subst (LockFits (widths_of shape.tables)) (sym missed.lock_is) (lock_fits (length state.held) word)

    pub full_fits : (full : Lock) → IsFullAt state full → LockFits (widths_of shape.tables) full
    full_fits full is = subst (LockFits (widths_of shape.tables)) (sym is.lock) (lock_fits is.nth is.head)

  -- none are taken where none are held
  pub no_locks_fit : (state : TxnState) (before : ℕ)
      → AllByRecursion (LockFits (widths_of shape.tables)) (new_locks state before [])
  no_locks_fit state zero = tt
  no_locks_fit state (suc before) = tt
