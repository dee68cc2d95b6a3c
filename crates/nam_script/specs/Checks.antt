-- The tests of numbers and names, in the order of kinds, and what is counted of the lines so far.
use Rattle.std.specs.Prelude.{ℕ, ◌+◌, ◌-◌, ◌^◌, List, [], ◌∷◌, ◌++◌, length, Option, Some, None, Result, Ok, Err}
use Rattle.std.specs.Prelude.{Bool, ◌&&◌, nat_le, nat_lt, if◌then◌else◌, ◌==◌, slice_index}
use Rattle.std.specs.List.{list_any, sum_by}
use Rattle.std.specs.Str.{bytes_eq}
use Rattle.si_model.specs.declared.row.Key.{Key}
use Rattle.si_model.specs.declared.row.Row.{Row}
use Rattle.si_model.specs.declared.op.Op.{Op}
use Rattle.si_model.specs.declared.op.Op.TheVariants.{Scan}
use Rattle.si_model.specs.Rows.{has_key}
use Rattle.si_model.specs.Evaluation.{key_claimed}
use Rattle.nam_catalog.specs.declared.bounds.TheConstants.{MOST_KEYS, MOST_STEPS}
use Rattle.nam_catalog.specs.declared.shape.Table.{Table}
use Rattle.nam_script.specs.declared.refusal.Kind.{Kind}
use Rattle.nam_script.specs.declared.refusal.Kind.TheVariants as kind
use Rattle.nam_script.specs.declared.script.ScriptTxn.{ScriptTxn}
use Rattle.nam_script.specs.declared.script.Stint.{Stint}
use Rattle.nam_script.specs.declared.line.SpeltStint.{SpeltStint}
use Rattle.nam_script.specs.declared.checks.Found.{Found}

infixl 10 ◌>>=◌
abbrev pub ◌>>=◌ : {A B : Type 0} → Result A Kind → (A → Result B Kind) → Result B Kind
(Ok x) >>= f = f x
(Err e) >>= f = Err e

-- a test that a line has to pass
abbrev pub must : Bool → Kind → Result (Unit {0}) Kind
must b k = if b then Ok tt else Err k

-- a number from low to high
abbrev pub within : ℕ → ℕ → Option ℕ → Result ℕ Kind
within low high None = Err kind.Range
within low high (Some n) = if nat_le low n && nat_le n high then Ok n else Err kind.Range

-- the words, where none is above 2^64 - 1
unfoldable pub all_small : List (Option ℕ) → Result (List ℕ) Kind
all_small [] = Ok []
all_small (None ∷ ns) = Err kind.Range
all_small (Some n ∷ ns) = do
  ms ← all_small ns
  Ok (n ∷ ms)

-- a word
abbrev pub small : Option ℕ → Result ℕ Kind
small n = within 0 (2 ^ 64 - 1) n

-- a key is at most 2^64 - 2
abbrev pub key_of : Option ℕ → Result ℕ Kind
key_of n = within 0 (2 ^ 64 - 2) n

-- 1 to 1,000,000 turns of one of the workers
abbrev pub stint_within : ℕ → SpeltStint → Result Stint Kind
stint_within workers s = do
  worker ← within 1 workers s.worker
  steps ← within 1 MOST_STEPS s.steps
  Ok (record { worker = worker; steps = steps })

-- the stints, each within its limits
unfoldable pub all_stints : ℕ → List SpeltStint → Result (List Stint) Kind
all_stints workers [] = Ok []
all_stints workers (s ∷ ss) = do
  stint ← stint_within workers s
  rest ← all_stints workers ss
  Ok (stint ∷ rest)

-- the table of a name, from a place on
unfoldable pub place_from : ℕ → List Table → List ℕ → Result Found Kind
place_from i [] name = Err kind.Name
place_from i (t ∷ ts) name =
    if bytes_eq t.name name then Ok (record { table = i; width = t.width; capacity = t.capacity }) else place_from
    (i + 1) ts name

abbrev pub place_of : List Table → List ℕ → Result Found Kind
place_of tables name = place_from 0 tables name

-- a row of this table has this key
abbrev pub is_given : List Row → ℕ → ℕ → Bool
is_given rows table key = list_any (λ r. r.table == table && r.key == key) rows

-- how many rows a table has
abbrev pub rows_in : List Row → ℕ → ℕ
rows_in [] table = 0
rows_in (r ∷ rs) table = (if r.table == table then 1 else 0) + rows_in rs table

-- what is wrong with a row that does not fit its table: its key is given before, or else it is its size
abbrev pub misfit : List Row → ℕ → ℕ → Kind
misfit rows table key = if is_given rows table key then kind.Twice else kind.Size

-- what an operation counts of the operations in all: a scan counts as its table's capacity
abbrev pub op_cost : List ℕ → Op → ℕ
op_cost capacities (Scan t low high) = slice_index capacities t
op_cost capacities _ = 1

abbrev pub ops_cost : List ℕ → List Op → ℕ
ops_cost capacities [] = 0
ops_cost capacities (op ∷ ops) = op_cost capacities op + ops_cost capacities ops

abbrev pub txns_cost : List ℕ → List ScriptTxn → ℕ
txns_cost capacities [] = 0
txns_cost capacities (x ∷ xs) = ops_cost capacities x.ops + txns_cost capacities xs

-- so many more, where that is not more than the most
abbrev pub total_within : ℕ → ℕ → ℕ → Result ℕ Kind
total_within so_far more most = if nat_le (so_far + more) most then Ok (so_far + more) else Err kind.Size

-- the keys with one more, each once and so many at the most
abbrev pub keys_with : List Key → Option Key → Result (List Key) Kind
keys_with keys None = Ok keys
keys_with keys (Some key) =
    if has_key keys key then Ok keys else if nat_lt (length keys) MOST_KEYS then Ok (keys ++ key ∷ [])
    else Err kind.Size

-- the keys with the one that an operation writes or guards
abbrev pub keys_after : List Key → Op → Result (List Key) Kind
keys_after keys op = keys_with keys (key_claimed op)

abbrev pub steps_of : List Stint → ℕ
steps_of stints = sum_by (λ s. s.steps) stints
