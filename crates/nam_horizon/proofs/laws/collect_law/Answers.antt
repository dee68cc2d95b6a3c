use Rattle.nam_horizon.proofs.CollectLemmas.{collected_by, collects_by, known_at}
use Rattle.nam_horizon.proofs.laws.collect_law.Goals as goal

pub returns-clause-exact : goal.returns-clause-exact
returns-clause-exact c = λ cells fits workers some seen steps known. (
  collected_by cells fits.least_cells workers some seen steps known,
  collects_by cells fits.least_cells workers
      some seen steps known,
)

pub returns-clause-known : goal.returns-clause-known
returns-clause-known c = λ cells fits workers some seen steps known ends.
    known_at workers seen cells known steps (collected_by cells fits.least_cells workers some seen steps known ends)
