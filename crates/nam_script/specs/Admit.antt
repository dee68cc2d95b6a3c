-- Which line may come after the lines so far, and the first fault of one that may not.
use Rattle.std.specs.Prelude.{◌≡◌, ℕ, List, [], ◌∷◌, ◌++◌, length, Option, Some, None, Result, Ok, Err, Bool, true}
use Rattle.std.specs.Prelude.{false, not, is_ok, is_some, nat_lt, nat_le, ◌==◌}
use Rattle.si_model.specs.declared.op.Op.{Op}
use Rattle.si_model.specs.declared.op.Op.TheVariants as op
use Rattle.nam_catalog.specs.declared.bounds.TheConstants.{MOST_WORKERS, MOST_TRIES, MOST_BUCKETS, MOST_CELLS}
use Rattle.nam_catalog.specs.declared.bounds.TheConstants.{MOST_TABLES, MOST_WIDTH}
use Rattle.nam_catalog.specs.declared.bounds.TheConstants.{MOST_CAPACITY, MOST_RING, MOST_TXNS, MOST_TXN_OPS}
use Rattle.nam_catalog.specs.declared.bounds.TheConstants.{MOST_OPS, MOST_TURNS, MOST_PICKS}
use Rattle.nam_catalog.specs.declared.form.Form.{Form}
use Rattle.nam_catalog.specs.declared.form.Form.TheVariants.{Narrow, Wide, Held}
use Rattle.nam_catalog.specs.declared.shape.Shape.{Shape}
use Rattle.nam_catalog.specs.declared.shape.Table.{Table}
use Rattle.nam_catalog.specs.Greatest.{greatest_number}
use Rattle.nam_catalog.specs.Limits.{fault_of}
use Rattle.nam_text.specs.Fields.{fields_of}
use Rattle.nam_script.specs.declared.refusal.Kind.{Kind}
use Rattle.nam_script.specs.declared.refusal.Kind.TheVariants as kind
use Rattle.nam_script.specs.declared.refusal.LineEnd.{LineEnd}
use Rattle.nam_script.specs.declared.refusal.LineEnd.TheVariants as ends
use Rattle.nam_script.specs.declared.line.Change.{Change}
use Rattle.nam_script.specs.declared.line.SpeltStint.{SpeltStint}
use Rattle.nam_script.specs.Line.{Line}
use Rattle.nam_script.specs.Line as line
use Rattle.nam_script.specs.declared.draft.Body.{Body}
use Rattle.nam_script.specs.declared.draft.Draft.{Draft}
use Rattle.nam_script.specs.declared.stage.Stage.TheVariants as stage
use Rattle.nam_script.specs.Lines.{line_of}
use Rattle.nam_script.specs.Stages.{is_at, takes_table, takes_row, is_loaded, takes_turns}
use Rattle.nam_script.specs.Checks.{◌>>=◌, must, within, small, all_small, key_of, all_stints, place_of, is_given}
use Rattle.nam_script.specs.Checks.{rows_in, total_within, keys_after, steps_of}

-- nothing is loaded or run
abbrev pub no_body : Body
no_body =
    record
    { rows = []; txns = []; worker = 0; ops = []; keys = []; cost = 0; stints = []; steps = 0; seed = 0; picks = 0 }

-- before the first line
abbrev pub start : Draft
start = record {
  stage = stage.Empty;
  shape = record { form = Narrow; workers = 0; tables = []; buckets = 0; cells = 0; start = 0 };
  policy = record { tries = 1; tidy = false };
  body = no_body;
}

abbrev pub admit_version : Draft → Result Draft Kind
admit_version d = do
  _ ← must (is_at d.stage stage.Empty) kind.Word
  Ok (record d { stage = stage.Version })

-- form Held is not taken
abbrev pub is_held : Form → Bool
is_held Narrow = false
is_held Wide = false
is_held Held = true

abbrev pub admit_header : Draft → Form → Result Draft Kind
admit_header d form = do
  _ ← must (is_at d.stage stage.Version) kind.Word
  _ ← must (not (is_held form)) kind.Word
  Ok (record d { stage = stage.Header; shape = record d.shape { form = form } })

abbrev pub admit_workers : Draft → Option ℕ → Result Draft Kind
admit_workers d number = do
  _ ← must (is_at d.stage stage.Header) kind.Word
  n ← within 1 MOST_WORKERS number
  Ok (record d { stage = stage.Workers; shape = record d.shape { workers = n } })

abbrev pub admit_tries : Draft → Option ℕ → Result Draft Kind
admit_tries d number = do
  _ ← must (is_at d.stage stage.Workers) kind.Word
  n ← within 1 MOST_TRIES number
  Ok (record d { stage = stage.Tries; policy = record d.policy { tries = n } })

abbrev pub admit_tidy : Draft → Bool → Result Draft Kind
admit_tidy d on = do
  _ ← must (is_at d.stage stage.Tries) kind.Word
  Ok (record d { stage = stage.Tidy; policy = record d.policy { tidy = on } })

-- the start is a commit number that headers of the form can bear
abbrev pub admit_start : Draft → Option ℕ → Result Draft Kind
admit_start d number = do
  _ ← must (is_at d.stage stage.Tidy) kind.Word
  n ← within 0 (greatest_number d.shape.form) number
  Ok (record d { stage = stage.Start; shape = record d.shape { start = n } })

abbrev pub admit_overflow : Draft → Option ℕ → Option ℕ → Result Draft Kind
admit_overflow d buckets cells = do
  _ ← must (is_at d.stage stage.Start) kind.Word
  b ← within 1 MOST_BUCKETS buckets
  c ← within 1 MOST_CELLS cells
  Ok (record d { stage = stage.Overflow; shape = record d.shape { buckets = b; cells = c } })

abbrev pub with_table : Shape → Table → Shape
with_table shape table = record shape { tables = shape.tables ++ table ∷ [] }

-- By then each limit but that of the words in all has been tried, so that no other fault is left.
abbrev pub admit_table : Draft → List ℕ → Option ℕ → Option ℕ → Option ℕ → Result Draft Kind
admit_table d name width capacity ring = do
  _ ← must (takes_table d.stage) kind.Word
  _ ← must (not (is_ok (place_of d.shape.tables name))) kind.Name
  w ← within 1 MOST_WIDTH width
  k ← within 1 MOST_CAPACITY capacity
  r ← within 1 MOST_RING ring
  _ ← must (nat_lt (length d.shape.tables) MOST_TABLES) kind.Size
  _ ← must (not (is_some (fault_of (with_table d.shape (record { name = name; width = w; capacity = k; ring = r })))))
      kind.Size
  Ok (record d
      { stage = stage.Tables; shape = with_table d.shape (record { name = name; width = w; capacity = k; ring = r }) })

abbrev pub admit_row : Draft → List ℕ → Option ℕ → List (Option ℕ) → Result Draft Kind
admit_row d table key values = do
  _ ← must (takes_row d.stage) kind.Word
  found ← place_of d.shape.tables table
  k ← key_of key
  vs ← all_small values
  _ ← must (not (is_given d.body.rows found.table k)) kind.Twice
  _ ← must (nat_lt (rows_in d.body.rows found.table) found.capacity) kind.Size
  _ ← must (length vs == found.width) kind.Size
  Ok (record d {
    stage = stage.Rows;
    body = record d.body
        { rows = d.body.rows ++ (record { table = found.table; key = k; value = vs }) ∷ [] };
  })

abbrev pub admit_txn : Draft → Option ℕ → Result Draft Kind
admit_txn d worker = do
  _ ← must (is_loaded d.stage) kind.Word
  w ← within 1 d.shape.workers worker
  _ ← must (nat_lt (length d.body.txns) MOST_TXNS) kind.Size
  Ok (record d { stage = stage.Open; body = record d.body { worker = w } })

-- an operation that counts so much of the operations in all
abbrev pub push_op : Draft → Op → ℕ → Result Draft Kind
push_op d o cost = do
  _ ← must (nat_lt (length d.body.ops) MOST_TXN_OPS) kind.Size
  sum ← total_within d.body.cost cost MOST_OPS
  keys ← keys_after d.body.keys o
  Ok (record d { body = record d.body { ops = d.body.ops ++ o ∷ []; keys = keys; cost = sum } })

abbrev pub admit_get : Draft → List ℕ → Option ℕ → Result Draft Kind
admit_get d table key = do
  _ ← must (is_at d.stage stage.Open) kind.Word
  found ← place_of d.shape.tables table
  k ← key_of key
  push_op d (op.Get found.table k) 1

abbrev pub admit_put : Draft → List ℕ → Option ℕ → List (Option ℕ) → Result Draft Kind
admit_put d table key values = do
  _ ← must (is_at d.stage stage.Open) kind.Word
  found ← place_of d.shape.tables table
  k ← key_of key
  vs ← all_small values
  _ ← must (length vs == found.width) kind.Size
  push_op d (op.Put found.table k vs) 1

abbrev pub admit_add : Draft → List ℕ → Option ℕ → Option ℕ → Change → Result Draft Kind
admit_add d table key field change = do
  _ ← must (is_at d.stage stage.Open) kind.Word
  found ← place_of d.shape.tables table
  k ← key_of key
  f ← within 1 found.width field
  by ← small change.by
  push_op d (op.Add found.table k f change.up by) 1

abbrev pub admit_del : Draft → List ℕ → Option ℕ → Result Draft Kind
admit_del d table key = do
  _ ← must (is_at d.stage stage.Open) kind.Word
  found ← place_of d.shape.tables table
  k ← key_of key
  push_op d (op.Del found.table k) 1

abbrev pub admit_need : Draft → List ℕ → Option ℕ → Option ℕ → Option ℕ → Result Draft Kind
admit_need d table key field least = do
  _ ← must (is_at d.stage stage.Open) kind.Word
  found ← place_of d.shape.tables table
  k ← key_of key
  f ← within 1 found.width field
  n ← small least
  push_op d (op.Need found.table k f n) 1

abbrev pub admit_guard : Draft → List ℕ → Option ℕ → Result Draft Kind
admit_guard d table key = do
  _ ← must (is_at d.stage stage.Open) kind.Word
  found ← place_of d.shape.tables table
  k ← key_of key
  push_op d (op.Guard found.table k) 1

abbrev pub admit_scan : Draft → List ℕ → Option ℕ → Option ℕ → Result Draft Kind
admit_scan d table low high = do
  _ ← must (is_at d.stage stage.Open) kind.Word
  found ← place_of d.shape.tables table
  l ← key_of low
  h ← key_of high
  _ ← must (nat_le l h) kind.Range
  push_op d (op.Scan found.table l h) found.capacity

-- a transaction has operations
abbrev pub admit_end : Draft → Result Draft Kind
admit_end d = do
  _ ← must (is_at d.stage stage.Open) kind.Word
  _ ← must (nat_lt 0 (length d.body.ops)) kind.Word
  Ok (record d {
    stage = stage.Between;
    body = record d.body
        { txns = d.body.txns ++ (record { worker = d.body.worker; ops = d.body.ops }) ∷ []; ops = []; keys = [] };
  })

abbrev pub admit_turns : Draft → List SpeltStint → Result Draft Kind
admit_turns d spelt = do
  _ ← must (takes_turns d.stage) kind.Word
  stints ← all_stints d.shape.workers spelt
  sum ← total_within d.body.steps (steps_of stints) MOST_TURNS
  Ok (record d { stage = stage.Turns; body = record d.body { stints = d.body.stints ++ stints; steps = sum } })

abbrev pub admit_seed : Draft → Option ℕ → Option ℕ → Result Draft Kind
admit_seed d seed picks = do
  _ ← must (is_loaded d.stage) kind.Word
  s ← small seed
  n ← within 0 MOST_PICKS picks
  Ok (record d { stage = stage.Seed; body = record d.body { seed = s; picks = n } })

unfoldable pub admit : Draft → Line → Result Draft Kind
admit d line.Version = admit_version d
admit d (line.Header form) = admit_header d form
admit d (line.Workers n) = admit_workers d n
admit d (line.Tries n) = admit_tries d n
admit d (line.Tidy on) = admit_tidy d on
admit d (line.Start n) = admit_start d n
admit d (line.Overflow buckets cells) = admit_overflow d buckets cells
admit d (line.Table name width capacity ring) = admit_table d name width capacity ring
admit d (line.Row table key values) = admit_row d table key values
admit d (line.Txn worker) = admit_txn d worker
admit d (line.Get table key) = admit_get d table key
admit d (line.Put table key values) = admit_put d table key values
admit d (line.Add table key field change) = admit_add d table key field change
admit d (line.Del table key) = admit_del d table key
admit d (line.Need table key field least) = admit_need d table key field least
admit d (line.Guard table key) = admit_guard d table key
admit d (line.Scan table low high) = admit_scan d table low high
admit d line.End = admit_end d
admit d (line.Turns stints) = admit_turns d stints
admit d (line.Seed seed picks) = admit_seed d seed picks

-- the line that the bytes spell; it is of kind word where they spell none
abbrev pub admit_spelt : Draft → Option Line → Result Draft Kind
admit_spelt d None = Err kind.Word
admit_spelt d (Some l) = admit d l

unfoldable pub admit_text : Draft → List ℕ → Result Draft Kind
admit_text d text = admit_spelt d (line_of (fields_of text))

-- what taking a line returned and left is what admitting gives, unless memory ran out
abbrev pub Takes : {A : Type 0} → Result (Unit {0}) LineEnd → A → Result A Kind → Type 0
Takes (Ok u) new given = given ≡ Ok new
Takes (Err (ends.Bad k)) new given = given ≡ Err k
Takes (Err ends.Memory) new given = Unit {0}

-- the same of a line by its fields: nothing was returned where they spell none
abbrev pub TakesLine : Option (Result (Unit {0}) LineEnd) → Draft → Draft → Option Line → Type 0
TakesLine None new old read = read ≡ None
TakesLine (Some taken) new old read = Takes taken new (admit_spelt old read)
