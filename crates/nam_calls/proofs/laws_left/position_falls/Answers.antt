use Rattle.nam_calls.proofs.FallsMachines.{find_falls, claim_key_falls, current_falls, words_fall, install_falls}
use Rattle.nam_calls.proofs.FallsMachines.{slot_falls, copy_falls, ring_falls}
use Rattle.nam_calls.proofs.laws_left.position_falls.Goals as goal

pub returns-clause-find : goal.returns-clause-find
returns-clause-find c = find_falls

pub returns-clause-claim_key : goal.returns-clause-claim_key
returns-clause-claim_key c = claim_key_falls

pub returns-clause-current : goal.returns-clause-current
returns-clause-current c = current_falls

pub returns-clause-words : goal.returns-clause-words
returns-clause-words c = words_fall

pub returns-clause-install : goal.returns-clause-install
returns-clause-install c = install_falls

pub returns-clause-slot : goal.returns-clause-slot
returns-clause-slot c = slot_falls

pub returns-clause-copy : goal.returns-clause-copy
returns-clause-copy c = copy_falls

pub returns-clause-ring : goal.returns-clause-ring
returns-clause-ring c = ring_falls
