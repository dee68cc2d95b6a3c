use Rattle.nam_calls.proofs.IntentLemmas.{words_fill, state_read, state_written, kind_read, kind_written}
use Rattle.nam_calls.proofs.laws_medic.intent_law.Goals as goal

pub returns-clause-words : goal.returns-clause-words
returns-clause-words c = words_fill

pub returns-clause-state_read : goal.returns-clause-state_read
returns-clause-state_read c = state_read

pub returns-clause-state_written : goal.returns-clause-state_written
returns-clause-state_written c = state_written

pub returns-clause-kind_read : goal.returns-clause-kind_read
returns-clause-kind_read c = kind_read

pub returns-clause-kind_written : goal.returns-clause-kind_written
returns-clause-kind_written c = kind_written
