use Rattle.nam_slots.proofs.OpeningLemmas.{slots_open}
use Rattle.nam_slots.proofs.StoreLemmas.{slots_keep, slots_next}
use Rattle.nam_slots.proofs.laws.slots_law.Goals as goal

pub returns-clause-opening : goal.returns-clause-opening
returns-clause-opening c = slots_open

pub returns-clause-step : goal.returns-clause-step
returns-clause-step c = slots_keep

pub returns-clause-next : goal.returns-clause-next
returns-clause-next c = slots_next
