use Rattle.nam_horizon.proofs.CollectLemmas.{collected_by}
use Rattle.nam_horizon.proofs.ExchangeLemmas.{exchanges}
use Rattle.nam_horizon.proofs.laws.exchange_law.Goals as goal

pub returns : goal.returns
returns c = λ cells fits workers some seen steps known ends.
    exchanges cells workers seen known steps (collected_by cells fits.least_cells workers some seen steps known ends)
