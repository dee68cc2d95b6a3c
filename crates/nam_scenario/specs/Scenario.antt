-- What is simulated of a script: its shape, its loaded rows, its policy, its transactions with their workers, and whose
-- turns come first.
use Rattle.std.specs.Prelude.{map}
use Rattle.nam_script.specs.declared.script.Script.{Script}
use Rattle.nam_script.specs.declared.script.ScriptTxn.{ScriptTxn}
use Rattle.nam_script.specs.declared.script.Stint.{Stint}
use Rattle.nam_script.specs.declared.script.Turns.{Turns}
use Rattle.nam_script.specs.declared.script.Turns.TheVariants.{List, Seed}
use Rattle.nam_protocol.specs.Schedule.{Owned, Scenario, Schedule, Stints, Picks}

abbrev pub owned_of : ScriptTxn → Owned
owned_of txn = record { worker = txn.worker; ops = txn.ops }

abbrev pub schedule_of : Turns → Schedule
schedule_of (List stints) = Stints (map (λ (s : Stint). record { worker = s.worker; steps = s.steps }) stints)
schedule_of (Seed seed picks) = Picks seed picks

abbrev pub scenario_of : Script → Scenario
scenario_of script = record {
  shape = script.shape;
  rows = script.rows;
  policy = script.policy;
  txns = map owned_of script.txns;
  schedule = schedule_of script.turns;
}
