use Rattle.si_law.proofs.GrowthScript.{script_start}
use Rattle.si_law.proofs.growth.script_start_law.Goals as goal

pub returns : goal.returns
returns c = script_start
