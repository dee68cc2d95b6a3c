-- The operations of a transaction, on what the transaction has at hand.
use Rattle.std.specs.Prelude.{ℕ, List, Option, Some, None, slice_get}
use Rattle.si_model.specs.declared.row.Key.{Key}
use Rattle.si_model.specs.declared.row.Item.{Item}
use Rattle.si_model.specs.declared.op.Op.{Op}
use Rattle.si_model.specs.declared.op.Op.TheVariants.{Get, Put, Add, Del, Need, Guard, Scan}
use Rattle.si_model.specs.Rows.{Rows, overlay}
use Rattle.si_model.specs.Evaluation.{found, field_of, new_number, op_key}
use Rattle.nam_catalog.specs.declared.shape.Shape.{Shape}
use Rattle.nam_calls.specs.Words.{path_of}
use Rattle.nam_calls.specs.declared.index.Path.{Path}
use Rattle.nam_protocol.specs.declared.txn.TxnAnswer.{TxnAnswer}
use Rattle.nam_protocol.specs.declared.txn.TxnAnswer.TheVariants.{Value, Written, Added, Met}

-- the path of its key
abbrev pub op_path : Shape → Op → Path
op_path shape op = path_of shape (op_key op).table (op_key op).key

-- rows as far as an operation looks at them, which is its own key
abbrev pub holding : Option (List ℕ) → Rows
holding value key = value

-- what the write set gives a key that it writes
abbrev pub own_value : List Item → Key → Option (List ℕ)
own_value writes key = overlay writes (holding None) key

-- the item that an operation reads, where it reads one
abbrev pub read_of : Op → Option (List ℕ) → Option Item
read_of op value = slice_get (found op (holding value)) 0

-- the value that was read
abbrev pub value_in : Option Item → Option (List ℕ)
value_in None = None
value_in (Some item) = item.value

-- the answer of an operation that passes
abbrev pub answer_of : Op → Option (List ℕ) → TxnAnswer
answer_of (Get t k) value = Value value
answer_of (Put t k v) value = Written
answer_of (Add t k f up by) value = Added (new_number up (field_of value f) by)
answer_of (Del t k) value = Written
answer_of (Need t k f least) value = Met
answer_of (Guard t k) value = Value value
answer_of (Scan t low high) value = Written
