use Rattle.nam_calls.proofs.FallsLocks.{lock_falls, unlock_falls}
use Rattle.nam_calls.proofs.laws_left.locks_fall.Goals as goal

pub returns-clause-lock : goal.returns-clause-lock
returns-clause-lock c = lock_falls

pub returns-clause-unlock : goal.returns-clause-unlock
returns-clause-unlock c = unlock_falls
