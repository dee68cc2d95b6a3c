use Rattle.nam_horizon.proofs.OldLemmas.{too_old_by, is_too_old, not_passed_by, is_not_passed}
use Rattle.nam_horizon.proofs.laws.old_law.Goals as goal

pub returns-clause-too_old : goal.returns-clause-too_old
returns-clause-too_old c = λ workers some seen steps worker entry horizon.
    (too_old_by workers some seen steps worker entry horizon, is_too_old workers some seen steps worker entry horizon)

pub returns-clause-not_passed : goal.returns-clause-not_passed
returns-clause-not_passed c = λ workers some seen steps.
    (not_passed_by workers some seen steps, is_not_passed workers some seen steps)
