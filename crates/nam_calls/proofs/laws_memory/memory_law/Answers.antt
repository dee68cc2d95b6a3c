use Rattle.nam_calls.proofs.MemoryLemmas.{store_changes, verb_changes}
use Rattle.nam_calls.proofs.laws_memory.memory_law.Goals as goal

pub returns-clause-store : goal.returns-clause-store
returns-clause-store c = store_changes

pub returns-clause-verb : goal.returns-clause-verb
returns-clause-verb c = verb_changes
