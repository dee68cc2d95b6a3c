use Rattle.nam_horizon.proofs.MomentLemmas.{collected_so_far, next_exchange, done_exchange, no_write}
use Rattle.nam_horizon.proofs.laws.moment_law.Goals as goal

pub returns-clause-so_far : goal.returns-clause-so_far
returns-clause-so_far c cells fits workers some = collected_so_far cells fits.least_cells workers some

pub returns-clause-next_exchange : goal.returns-clause-next_exchange
returns-clause-next_exchange c cells fits workers some = next_exchange cells fits.least_cells workers some

pub returns-clause-done_exchange : goal.returns-clause-done_exchange
returns-clause-done_exchange c cells fits workers some = done_exchange cells fits.least_cells workers some

pub returns-clause-no_write : goal.returns-clause-no_write
returns-clause-no_write c = no_write
