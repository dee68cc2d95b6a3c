use Rattle.nam_cells.proofs.PlaceLemmas.{freed_law, full_law, horizon_law, places_law}
use Rattle.nam_cells.proofs.laws.places_law.Goals as goal

pub returns-clause-full : goal.returns-clause-full
returns-clause-full c = full_law

pub returns-clause-horizon : goal.returns-clause-horizon
returns-clause-horizon c = horizon_law

pub returns-clause-freed : goal.returns-clause-freed
returns-clause-freed c = freed_law

pub returns-clause-places : goal.returns-clause-places
returns-clause-places c = places_law
