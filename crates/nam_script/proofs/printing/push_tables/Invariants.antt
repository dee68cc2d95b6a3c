use Rattle.std.proofs.Common.{◌≡◌, ◌++◌, drop}
use Rattle.std.specs.Prelude.{string_bytes}
use Rattle.std.specs.List.{flat_map}
use Rattle.nam_script.specs.Text.{table_text}
use Rattle.nam_script.proofs.printing.push_tables.Given as goal

-- the tables from here on are still to come
abbrev pub invariant-loop-table : goal.invariant-loop-table
invariant-loop-table l =
    string_bytes l.out ++ flat_map table_text (drop l.table-index l.tables)
    ≡ string_bytes l.initial.out ++ flat_map table_text l.tables
