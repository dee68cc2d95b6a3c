-- How lines are spelt, and the lines of a script.
use Rattle.std.specs.Prelude.{ℕ, List, [], ◌∷◌, ◌++◌, map, take, Option, Some, Result, Ok, if◌then◌else◌}
use Rattle.std.specs.List.{flat_map}
use Rattle.si_model.specs.declared.row.Row.{Row}
use Rattle.si_model.specs.declared.op.Op.{Op}
use Rattle.si_model.specs.declared.op.Op.TheVariants as op
use Rattle.si_model.specs.declared.op.Policy.{Policy}
use Rattle.nam_catalog.specs.declared.shape.Shape.{Shape}
use Rattle.nam_catalog.specs.declared.shape.Table.{Table}
use Rattle.nam_catalog.specs.Tables.{name_of}
use Rattle.nam_text.specs.Kinds.{line_text as spelt_text}
use Rattle.nam_script.specs.declared.refusal.Kind.{Kind}
use Rattle.nam_script.specs.declared.line.SpeltStint.{SpeltStint}
use Rattle.nam_script.specs.Line.{Line}
use Rattle.nam_script.specs.Line as line
use Rattle.nam_script.specs.declared.script.ScriptTxn.{ScriptTxn}
use Rattle.nam_script.specs.declared.script.Stint.{Stint}
use Rattle.nam_script.specs.declared.draft.Draft.{Draft}
use Rattle.nam_script.specs.declared.stage.Stage.{Stage}
use Rattle.nam_script.specs.declared.stage.Stage.TheVariants as stage
use Rattle.nam_script.specs.Lines.{spelt_line}
use Rattle.nam_script.specs.Stages.{rank, is_at}
use Rattle.nam_script.specs.Checks.{◌>>=◌}
use Rattle.nam_script.specs.Admit.{admit}

-- ---- a line

-- its fields, parted by spaces and ended by a newline
abbrev pub line_text : Line → List ℕ
line_text l = spelt_text (spelt_line l)

abbrev pub text_of : List Line → List ℕ
text_of ls = flat_map line_text ls

-- the line can be read again: its names are names, its numbers words, and it has 1 to 8 values or 1 to 64 stints
abbrev pub IsGood : Line → Type 0
IsGood l = (spelt_line l).Fits

-- none of its numbers is above 2^64 - 1
abbrev pub LineIsSmall : Line → Type 0
LineIsSmall l = (spelt_line l).IsSmall

-- ---- the lines of a script

abbrev pub somes : List ℕ → List (Option ℕ)
somes ns = map (λ n. Some n) ns

abbrev pub spelt : Stint → SpeltStint
spelt s = record { worker = Some s.worker; steps = Some s.steps }

-- the lines before the tables, as far as the workers' retries
abbrev pub opening_lines : Shape → Policy → List Line
opening_lines shape policy =
    line.Version ∷ line.Header shape.form ∷ line.Workers (Some shape.workers) ∷ line.Tries (Some policy.tries) ∷ []

-- the rest of the lines before the tables
abbrev pub store_lines : Shape → Policy → List Line
store_lines shape policy =
    line.Tidy policy.tidy ∷ line.Start (Some shape.start) ∷ line.Overflow (Some shape.buckets) (Some shape.cells) ∷ []

abbrev pub setting_lines : Shape → Policy → List Line
setting_lines shape policy = opening_lines shape policy ++ store_lines shape policy

abbrev pub table_line : Table → Line
table_line t = line.Table t.name (Some t.width) (Some t.capacity) (Some t.ring)

abbrev pub row_line : List Table → Row → Line
row_line ts r = line.Row (name_of ts r.table) (Some r.key) (somes r.value)

abbrev pub op_line : List Table → Op → Line
op_line ts (op.Get t k) = line.Get (name_of ts t) (Some k)
op_line ts (op.Put t k v) = line.Put (name_of ts t) (Some k) (somes v)
op_line ts (op.Add t k f up by) = line.Add (name_of ts t) (Some k) (Some f) (record { up = up; by = Some by })
op_line ts (op.Del t k) = line.Del (name_of ts t) (Some k)
op_line ts (op.Need t k f least) = line.Need (name_of ts t) (Some k) (Some f) (Some least)
op_line ts (op.Guard t k) = line.Guard (name_of ts t) (Some k)
op_line ts (op.Scan t low high) = line.Scan (name_of ts t) (Some low) (Some high)

abbrev pub txn_lines : List Table → ScriptTxn → List Line
txn_lines ts x = line.Txn (Some x.worker) ∷ (map (op_line ts) x.ops ++ line.End ∷ [])

abbrev pub turns_line : List Stint → Line
turns_line ss = line.Turns (map spelt ss)

-- the lines of the transaction that is open
abbrev pub open_lines : Stage → List Table → ℕ → List Op → List Line
open_lines st ts worker ops = if is_at st stage.Open then line.Txn (Some worker) ∷ map (op_line ts) ops else []

abbrev pub seed_lines : Stage → ℕ → ℕ → List Line
seed_lines st seed picks = if is_at st stage.Seed then line.Seed (Some seed) (Some picks) ∷ [] else []

-- the lines so far, where the stints stand in groups
abbrev pub lines_of_draft : Draft → List (List Stint) → List Line
lines_of_draft d groups =
    take (rank d.stage) (setting_lines d.shape d.policy)
    ++ (map table_line d.shape.tables
    ++ (map (row_line d.shape.tables) d.body.rows
    ++ (flat_map (txn_lines d.shape.tables) d.body.txns
    ++ (open_lines d.stage d.shape.tables d.body.worker d.body.ops
    ++ (map turns_line groups
    ++ seed_lines d.stage d.body.seed d.body.picks)))))

-- the draft that these lines give after another
unfoldable pub admit_all : Draft → List Line → Result Draft Kind
admit_all d [] = Ok d
admit_all d (l ∷ ls) = admit d l >>= (λ e. admit_all e ls)
