use Rattle.si_law.proofs.GrowthScript.{script_quiet_growth, script_commit_growth}
use Rattle.si_law.proofs.growth.script_growth_law.Goals as goal

pub returns-clause-quiet : goal.returns-clause-quiet
returns-clause-quiet c = script_quiet_growth

pub returns-clause-commit : goal.returns-clause-commit
returns-clause-commit c = script_commit_growth
