-- The one text of a script.
use Rattle.std.specs.Prelude.{ℕ, ◌≡◌, ◌≤◌, length, ◌-◌, ◌==◌, List, [], ◌∷◌, ◌++◌, codes, Some, if◌then◌else◌}
use Rattle.std.specs.List.{flat_map, AllByRecursion}
use Rattle.si_model.specs.declared.row.Row.{Row}
use Rattle.si_model.specs.declared.op.Op.{Op}
use Rattle.si_model.specs.declared.op.Policy.{Policy}
use Rattle.nam_catalog.specs.declared.shape.Shape.{Shape}
use Rattle.nam_catalog.specs.declared.shape.Table.{Table}
use Rattle.nam_script.specs.declared.script.ScriptTxn.{ScriptTxn}
use Rattle.nam_script.specs.declared.script.Stint.{Stint}
use Rattle.nam_script.specs.declared.script.Turns.{Turns}
use Rattle.nam_script.specs.declared.script.Turns.TheVariants as turns
use Rattle.nam_script.specs.declared.script.Script.{Script}
use Rattle.nam_script.specs.Line as line
use Rattle.nam_script.specs.Lines.{spelt_stint_text}
use Rattle.nam_script.specs.Spelling.{line_text, text_of, spelt, opening_lines, store_lines, table_line, row_line}
use Rattle.nam_script.specs.Spelling.{op_line, turns_line}

-- the lines before the tables
abbrev pub settings_text : Shape → Policy → List ℕ
settings_text shape policy = text_of (opening_lines shape policy) ++ text_of (store_lines shape policy)

abbrev pub table_text : Table → List ℕ
table_text t = line_text (table_line t)

-- the line of a loaded row
abbrev pub row_text : List Table → Row → List ℕ
row_text tables r = line_text (row_line tables r)

-- the line of an operation
abbrev pub op_text : List Table → Op → List ℕ
op_text tables o = line_text (op_line tables o)

-- the lines of a transaction
abbrev pub txn_text : List Table → ScriptTxn → List ℕ
txn_text tables x = line_text (line.Txn (Some x.worker)) ++ flat_map (op_text tables) x.ops ++ line_text line.End

-- a stint, behind a space
abbrev pub stint_text : Stint → List ℕ
stint_text s = codes " " ++ spelt_stint_text (spelt s)

-- what stands before a stint on a line with room for so many more
abbrev pub stint_start : ℕ → List ℕ
stint_start room = if room == 0 then codes "\nturns" else []

-- the room after it: a line takes 64
abbrev pub room_after : ℕ → ℕ
room_after room = if room == 0 then 63 else room - 1

-- stints on a line with room for so many more, and on the lines after it
abbrev pub stints_text : ℕ → List Stint → List ℕ
stints_text room [] = codes "\n"
stints_text room (s ∷ ss) = stint_start room ++ stint_text s ++ stints_text (room_after room) ss

-- the turns, 64 stints to a line
abbrev pub turns_text : Turns → List ℕ
turns_text (turns.List []) = []
turns_text (turns.List (s ∷ ss)) = codes "turns" ++ stints_text 64 (s ∷ ss)
turns_text (turns.Seed seed picks) = line_text (line.Seed (Some seed) (Some picks))

-- the lines of a script, in their order
abbrev pub script_text : Script → List ℕ
script_text s =
    settings_text s.shape s.policy
    ++ flat_map table_text s.shape.tables
    ++ flat_map (row_text s.shape.tables) s.rows
    ++ flat_map (txn_text s.shape.tables) s.txns
    ++ turns_text s.turns

-- a line of turns
abbrev pub group_text : List Stint → List ℕ
group_text g = line_text (turns_line g)

-- the turns with the stints in groups, each on a line of its own
abbrev pub grouped_turns : List (List Stint) → Turns → List ℕ
grouped_turns groups (turns.List ss) = flat_map group_text groups
grouped_turns groups (turns.Seed seed picks) = turns_text (turns.Seed seed picks)

-- the lines of a script, with the stints in groups
abbrev pub grouped_text : Script → List (List Stint) → List ℕ
grouped_text s groups =
    settings_text s.shape s.policy
    ++ flat_map table_text s.shape.tables
    ++ flat_map (row_text s.shape.tables) s.rows
    ++ flat_map (txn_text s.shape.tables) s.txns
    ++ grouped_turns groups s.turns

abbrev pub stints_in : Turns → List Stint
stints_in (turns.List ss) = ss
stints_in (turns.Seed seed picks) = []

-- The text is that of the script, but that its stints may stand in other groups than 64 to a line, of 1 to 64 each.
pub record IsSpelt (s : Script) (text : List ℕ) : Type 0 where
  pub groups : List (List Stint)
  pub stints : flat_map (λ g. g) groups ≡ stints_in s.turns
  pub short : AllByRecursion (λ g. (1 ≤ length g) × (length g ≤ 64)) groups
  pub is : text ≡ grouped_text s groups
