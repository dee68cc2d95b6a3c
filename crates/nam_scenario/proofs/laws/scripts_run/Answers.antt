use Rattle.nam_scenario.proofs.ScenarioLemmas.{scripts_run}
use Rattle.nam_scenario.proofs.laws.scripts_run.Goals as goal

pub returns : goal.returns
returns c = scripts_run
