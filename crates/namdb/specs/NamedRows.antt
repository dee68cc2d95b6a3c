-- The keys that rows and operations name.
use Rattle.std.specs.Prelude.{List, ◌++◌, map}
use Rattle.std.specs.List.{flat_map}
use Rattle.si_model.specs.declared.row.Key.{Key}
use Rattle.si_model.specs.Rows.{row_key}
use Rattle.si_model.specs.Evaluation.{op_key}
use Rattle.si_model.specs.Setting.{Setting}

-- the keys that the rows and the operations name
abbrev pub named_keys : Setting → List Key
named_keys s = map row_key s.rows ++ flat_map (λ ops. map op_key ops) s.jobs
