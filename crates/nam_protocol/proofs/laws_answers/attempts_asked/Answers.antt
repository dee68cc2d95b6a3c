use Rattle.nam_protocol.proofs.AskedSession.{session_runs_asked}
use Rattle.nam_protocol.proofs.AskedDriver.{driver_asks}
use Rattle.nam_protocol.proofs.laws_answers.attempts_asked.Goals as goal

pub returns-clause-driver : goal.returns-clause-driver
returns-clause-driver c = driver_asks

pub returns-clause-session : goal.returns-clause-session
returns-clause-session c = session_runs_asked
