-- The setting of a script.
use Rattle.std.specs.Prelude.{map}
use Rattle.si_model.specs.Setting.{Setting}
use Rattle.nam_catalog.specs.Greatest.{greatest_number}
use Rattle.nam_catalog.specs.Tables.{widths_of, capacities_of, rings_of}
use Rattle.nam_script.specs.declared.script.Script.{Script}
use Rattle.nam_script.specs.Admit.{is_held}

-- the script as the machine sees it
abbrev pub setting_of : Script → Setting
setting_of s = record {
  workers = s.shape.workers;
  start = s.shape.start;
  greatest = greatest_number s.shape.form;
  held = is_held s.shape.form;
  widths = widths_of s.shape.tables;
  capacities = capacities_of s.shape.tables;
  rings = rings_of s.shape.tables;
  cells = s.shape.cells;
  rows = s.rows;
  jobs = map (λ x. x.ops) s.txns;
  owners = map (λ x. x.worker) s.txns;
  policy = s.policy;
}
