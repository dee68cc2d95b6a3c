use Rattle.nam_origins.proofs.ListsStore.{logs_keep, logs_open, logs_reached}
use Rattle.nam_origins.proofs.laws.logs_law.Goals as goal

pub returns-clause-opening : goal.returns-clause-opening
returns-clause-opening c = logs_open

pub returns-clause-step : goal.returns-clause-step
returns-clause-step c = logs_keep

pub returns-clause-reached : goal.returns-clause-reached
returns-clause-reached c = logs_reached
