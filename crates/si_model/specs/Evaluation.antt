-- What a list of operations reads, writes and guards on a copy of the rows.
use Rattle.std.specs.Prelude.{ℕ, ◌+◌, ◌-◌, ◌^◌, ◌≡◌, ◌<◌, ◌≤◌, Bool, true, false, not, nat_lt, nat_le, if◌then◌else◌}
use Rattle.std.specs.Prelude.{List, [], ◌∷◌, ◌++◌, length, filter, slice_index, slice_set, replicate, Option, Some}
use Rattle.std.specs.Prelude.{None, MatchOption}
use Rattle.std.specs.List.{list_any}
use Rattle.si_model.specs.declared.row.Key.{Key}
use Rattle.si_model.specs.declared.row.Item.{Item}
use Rattle.si_model.specs.declared.op.Op.{Op}
use Rattle.si_model.specs.declared.op.Op.TheVariants.{Get, Put, Add, Del, Need, Guard, Scan}
use Rattle.si_model.specs.declared.evaluated.Evaluated.{Evaluated}
use Rattle.si_model.specs.declared.evaluated.Evaluated.TheVariants.{Done, Declined}
use Rattle.si_model.specs.Rows.{key_at, same_key, item_key, item_at, Rows, writes_key, overlay, items_between}

-- field f of a value, counted from 1, and 0 where the value is absent
abbrev pub field_of : Option (List ℕ) → ℕ → ℕ
field_of None f = 0
field_of (Some v) f = slice_index v (f - 1)

-- the value with another number in field f; zeros elsewhere where it was absent
abbrev pub with_field : ℕ → Option (List ℕ) → ℕ → ℕ → List ℕ
with_field width None f n = slice_set (replicate width 0) (f - 1) n
with_field width (Some v) f n = slice_set v (f - 1) n

-- is the number that a change gives from 0 to 2^64 - 1
abbrev pub can_change : Bool → ℕ → ℕ → Bool
can_change up n by = if up then nat_lt (n + by) (2 ^ 64) else nat_le by n

abbrev pub new_number : Bool → ℕ → ℕ → ℕ
new_number up n by = if up then n + by else n - by

-- the write set with one more write: each key once, in the order of first writes, with its last value
abbrev pub with_write : List Item → Item → List Item
with_write [] i = i ∷ []
with_write (j ∷ is) i = if same_key (item_key j) (item_key i) then i ∷ is else j ∷ with_write is i

-- the guarded keys with one more: each once, in the order of first guards
abbrev pub with_guard : List Key → Key → List Key
with_guard [] key = key ∷ []
with_guard (g ∷ gs) key = if same_key g key then g ∷ gs else g ∷ with_guard gs key

-- may the operation pass on the copy
abbrev pub passes : Op → Rows → Bool
passes (Get t k) copy = true
passes (Put t k v) copy = true
passes (Add t k f up by) copy = can_change up (field_of (copy (key_at t k)) f) by
passes (Del t k) copy = true
passes (Need t k f least) copy = nat_le least (field_of (copy (key_at t k)) f)
passes (Guard t k) copy = true
passes (Scan t low high) copy = true

-- what the operation reads, before its own change
abbrev pub found : Op → Rows → List Item
found (Get t k) copy = item_at (key_at t k) (copy (key_at t k)) ∷ []
found (Put t k v) copy = []
found (Add t k f up by) copy = item_at (key_at t k) (copy (key_at t k)) ∷ []
found (Del t k) copy = []
found (Need t k f least) copy = item_at (key_at t k) (copy (key_at t k)) ∷ []
found (Guard t k) copy = item_at (key_at t k) (copy (key_at t k)) ∷ []
found (Scan t low high) copy = items_between copy t low high

-- the write set after the operation
abbrev pub writes_after : List ℕ → Op → Rows → List Item → List Item
writes_after widths (Get t k) copy ws = ws
writes_after widths (Put t k v) copy ws = with_write ws (item_at (key_at t k) (Some v))
writes_after widths (Add t k f up by) copy ws =
    let v = copy (key_at t k) in
    with_write ws (item_at (key_at t k) (Some (with_field (slice_index widths t) v f (new_number up (field_of v f) by))))
writes_after widths (Del t k) copy ws = with_write ws (item_at (key_at t k) None)
writes_after widths (Need t k f least) copy ws = ws
writes_after widths (Guard t k) copy ws = ws
writes_after widths (Scan t low high) copy ws = ws

-- the guarded keys after the operation
abbrev pub guards_after : Op → List Key → List Key
guards_after (Get t k) gs = gs
guards_after (Put t k v) gs = gs
guards_after (Add t k f up by) gs = gs
guards_after (Del t k) gs = gs
guards_after (Need t k f least) gs = gs
guards_after (Guard t k) gs = with_guard gs (key_at t k)
guards_after (Scan t low high) gs = gs

-- the guarded keys that aren't written
abbrev pub unwritten : List Item → List Key → List Key
unwritten ws gs = filter (λ key. not (writes_key ws key)) gs

abbrev pub with_reads : List Item → Evaluated → Evaluated
with_reads is (Done reads writes guards) = Done (is ++ reads) writes guards
with_reads is (Declined op reads) = Declined op (is ++ reads)

-- operation n and those after it, under the writes and guards so far
abbrev pub evaluation_from : List ℕ → Rows → ℕ → List Item → List Key → List Op → Evaluated
evaluation_from widths rows n ws gs [] = Done [] ws (unwritten ws gs)
evaluation_from widths rows n ws gs (op ∷ ops) =
    let copy = overlay ws rows in
    if passes op copy
    then with_reads (found op copy) (evaluation_from widths rows (n + 1) (writes_after widths op copy ws)
    (guards_after op gs) ops)
    else Declined n (found op copy)

-- the operations one after another, on a copy of the rows
abbrev pub evaluation_of : List ℕ → Rows → List Op → Evaluated
evaluation_of widths rows ops = evaluation_from widths rows 1 [] [] ops

abbrev pub reads_of : Evaluated → List Item
reads_of (Done reads writes guards) = reads
reads_of (Declined op reads) = reads

-- do all these operations pass, under the writes so far
abbrev pub all_pass : List ℕ → Rows → List Item → List Op → Bool
all_pass widths rows ws [] = true
all_pass widths rows ws (op ∷ ops) =
    let copy = overlay ws rows in
    if passes op copy then all_pass widths rows (writes_after widths op copy ws) ops else false

-- the reads of operations that all pass, under the writes so far
abbrev pub reads_from : List ℕ → Rows → List Item → List Op → List Item
reads_from widths rows ws [] = []
reads_from widths rows ws (op ∷ ops) =
    let copy = overlay ws rows in
    found op copy ++ reads_from widths rows (writes_after widths op copy ws) ops

-- the key of an operation; of a scan its lowest
abbrev pub op_key : Op → Key
op_key (Get t k) = key_at t k
op_key (Put t k v) = key_at t k
op_key (Add t k f up by) = key_at t k
op_key (Del t k) = key_at t k
op_key (Need t k f least) = key_at t k
op_key (Guard t k) = key_at t k
op_key (Scan t low high) = key_at t low

-- the key that an operation other than a scan reads
abbrev pub key_read : Op → Option Key
key_read (Get t k) = Some (key_at t k)
key_read (Add t k f up by) = Some (key_at t k)
key_read (Need t k f least) = Some (key_at t k)
key_read (Guard t k) = Some (key_at t k)
key_read op = None

-- the key that an operation writes
abbrev pub key_written : Op → Option Key
key_written (Put t k v) = Some (key_at t k)
key_written (Add t k f up by) = Some (key_at t k)
key_written (Del t k) = Some (key_at t k)
key_written op = None

-- the key that an operation guards
abbrev pub key_guarded : Op → Option Key
key_guarded (Guard t k) = Some (key_at t k)
key_guarded op = None

-- the key that an operation writes or guards, which so needs a position
abbrev pub key_claimed : Op → Option Key
key_claimed (Put t k v) = Some (key_at t k)
key_claimed (Add t k f up by) = Some (key_at t k)
key_claimed (Del t k) = Some (key_at t k)
key_claimed (Guard t k) = Some (key_at t k)
key_claimed op = None

abbrev pub is_key : Key → Option Key → Bool
is_key key None = false
is_key key (Some k) = same_key k key

-- does one of the operations write the key
abbrev pub ops_write : Key → List Op → Bool
ops_write key ops = list_any (λ op. is_key key (key_written op)) ops

-- does one of the operations write or guard the key
abbrev pub ops_claim : Key → List Op → Bool
ops_claim key ops = list_any (λ op. is_key key (key_claimed op)) ops

-- the keys that a function names in the operations, each once, in the order of first use
abbrev pub keys_from : (Op → Option Key) → List Key → List Op → List Key
keys_from named ks [] = ks
keys_from named ks (op ∷ ops) = keys_from named (elim (named op) [ None ↦ ks | Some key ↦ with_guard ks key ]) ops

-- the keys that the operations write, where all pass
abbrev pub written_keys : List Op → List Key
written_keys ops = keys_from key_written [] ops

-- the keys that the operations guard and do not write, where all pass
abbrev pub guard_keys : List Op → List Key
guard_keys ops = filter (λ key. not (ops_write key ops)) (keys_from key_guarded [] ops)

-- a table of the widths, of at most 8 fields
abbrev pub IsTable : List ℕ → ℕ → Type 0
IsTable widths t = (t < length widths) × (slice_index widths t ≤ 8)

-- a field of the table, counted from 1
abbrev pub IsField : List ℕ → ℕ → ℕ → Type 0
IsField widths t f = (1 ≤ f) × (f ≤ slice_index widths t)

-- the operation fits the widths of the tables
abbrev pub OpFits : List ℕ → Op → Type 0
OpFits widths (Get t k) = IsTable widths t
OpFits widths (Put t k v) = IsTable widths t × (length v ≡ slice_index widths t)
OpFits widths (Add t k f up by) = IsTable widths t × IsField widths t f
OpFits widths (Del t k) = IsTable widths t
OpFits widths (Need t k f least) = IsTable widths t × IsField widths t f
OpFits widths (Guard t k) = IsTable widths t
OpFits widths (Scan t low high) = IsTable widths t

-- each value has its table's width
abbrev pub AreWide : List ℕ → Rows → Type 0
AreWide widths rows = (key : Key) → MatchOption (rows key) (Unit {0}) (λ v. length v ≡ slice_index widths key.table)
