-- What an operation makes of the value that its transaction has read.
use Rattle.std.specs.Prelude.{ℕ, Bool, ◌≤◌, List, length, Option, Some, None, MatchOption}
use Rattle.std.specs.List.{position_from, list_any}
use Rattle.si_model.specs.declared.row.Key.{Key}
use Rattle.si_model.specs.declared.row.Item.{Item}
use Rattle.si_model.specs.declared.op.Op.{Op}
use Rattle.si_model.specs.declared.op.Op.TheVariants.{Get, Put, Add, Del, Need, Guard, Scan}
use Rattle.si_model.specs.Rows.{key_at, same_key, item_key, item_at}
use Rattle.si_model.specs.Evaluation.{field_of, with_field, new_number, with_write, guards_after}
use Rattle.nam_protocol.specs.declared.txn.Record.{Record}
use Rattle.nam_protocol.specs.declared.txn.TxnState.{TxnState}

-- the place of the first item of the key
abbrev pub first_written : List Item → Key → Option ℕ
first_written writes key = position_from (λ i. same_key (item_key i) key) 0 writes

-- is one of the claims of the key
abbrev pub has_claim : List Record → Key → Bool
has_claim claims key = list_any (λ c. same_key c.key key) claims

-- the value, where there is one, has the field
abbrev pub HasField : ℕ → Option (List ℕ) → Type 0
HasField field value = MatchOption value (Unit {0}) (λ v. field ≤ length v)

-- the value, where there is one, has the field that the operation names
abbrev pub CanRead : Op → Option (List ℕ) → Type 0
CanRead (Add t k f up by) value = (1 ≤ f) × HasField f value
CanRead (Need t k f least) value = (1 ≤ f) × HasField f value
CanRead _ value = Unit {0}

-- a field that the operation names is one of a value of so many fields
abbrev pub NamesField : ℕ → Op → Type 0
NamesField width (Add t k f up by) = (1 ≤ f) × (f ≤ width) × (width ≤ 8)
NamesField width (Need t k f least) = (1 ≤ f) × (f ≤ width) × (width ≤ 8)
NamesField width _ = Unit {0}

-- the write set after the operation, on a table of this width
abbrev pub written_by : ℕ → Op → Option (List ℕ) → List Item → List Item
written_by width (Put t k v) value ws = with_write ws (item_at (key_at t k) (Some v))
written_by width (Add t k f up by) value ws =
    with_write ws (item_at (key_at t k) (Some (with_field width value f (new_number up (field_of value f) by))))
written_by width (Del t k) value ws = with_write ws (item_at (key_at t k) None)
written_by width (Get t k) value ws = ws
written_by width (Need t k f least) value ws = ws
written_by width (Guard t k) value ws = ws
written_by width (Scan t low high) value ws = ws

-- the write set and the guards after it
abbrev pub changed_by : ℕ → Op → Option (List ℕ) → TxnState → TxnState
changed_by width op value state =
    record state { writes = written_by width op value state.writes; guards = guards_after op state.guards }
