use Rattle.si_law.proofs.GrowthScript.{script_through, script_whole}
use Rattle.si_law.proofs.growth.script_end_law.Goals as goal

pub returns-clause-through : goal.returns-clause-through
returns-clause-through c = script_through

pub returns-clause-whole : goal.returns-clause-whole
returns-clause-whole c = script_whole
