use Rattle.std.proofs.Common.{◌≡◌, ◌++◌, drop}
use Rattle.std.specs.Prelude.{string_bytes}
use Rattle.std.specs.List.{flat_map}
use Rattle.nam_script.specs.Text.{row_text}
use Rattle.nam_script.proofs.printing.push_rows.Given as goal

-- the rows from here on are still to come
abbrev pub invariant-loop-row : goal.invariant-loop-row
invariant-loop-row l =
    string_bytes l.out ++ flat_map (row_text l.tables) (drop l.row-index l.rows)
    ≡ string_bytes l.initial.out ++ flat_map (row_text l.tables) l.rows
