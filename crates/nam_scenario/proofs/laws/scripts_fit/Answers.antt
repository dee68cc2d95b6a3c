use Rattle.nam_scenario.proofs.ScenarioLemmas.{scripts_fit}
use Rattle.nam_scenario.proofs.laws.scripts_fit.Goals as goal

pub returns : goal.returns
returns c = scripts_fit
