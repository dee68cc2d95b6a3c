use Rattle.nam_claimed.proofs.ClientLemmas.{clients_hold, used_holds}
use Rattle.nam_claimed.proofs.HomeLemmas.{apart_holds, goes_holds, stands_holds}
use Rattle.nam_claimed.proofs.WriteLemmas.{taken_holds}
use Rattle.nam_claimed.proofs.laws.home_law.Goals as goal

pub returns-clause-stands : goal.returns-clause-stands
returns-clause-stands c = stands_holds

pub returns-clause-apart : goal.returns-clause-apart
returns-clause-apart c = apart_holds

pub returns-clause-goes : goal.returns-clause-goes
returns-clause-goes c = goes_holds

pub returns-clause-taken : goal.returns-clause-taken
returns-clause-taken c = taken_holds

pub returns-clause-used : goal.returns-clause-used
returns-clause-used c = used_holds

pub returns-clause-clients : goal.returns-clause-clients
returns-clause-clients c = clients_hold
