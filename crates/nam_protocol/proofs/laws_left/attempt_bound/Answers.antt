use Rattle.std.proofs.Common.{refl}
use Rattle.nam_protocol.proofs.FallsAttempt.{ask_asks, take_asks, attempt_bound}
use Rattle.nam_protocol.proofs.laws_left.attempt_bound.Goals as goal

pub returns-clause-new : goal.returns-clause-new
returns-clause-new c = λ worker last seen. record { written = refl; guarded = refl }

pub returns-clause-ask : goal.returns-clause-ask
returns-clause-ask c = ask_asks

pub returns-clause-take : goal.returns-clause-take
returns-clause-take c = take_asks

pub returns-clause-sum : goal.returns-clause-sum
returns-clause-sum c = attempt_bound
