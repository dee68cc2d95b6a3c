use Rattle.nam_origins.proofs.ListsStore.{all_listed, lists_keep, lists_open}
use Rattle.nam_origins.proofs.laws.listed_law.Goals as goal

pub returns-clause-opening : goal.returns-clause-opening
returns-clause-opening c = lists_open

pub returns-clause-step : goal.returns-clause-step
returns-clause-step c = lists_keep

pub returns-clause-listed : goal.returns-clause-listed
returns-clause-listed c = all_listed
