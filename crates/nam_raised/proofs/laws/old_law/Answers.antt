use Rattle.nam_raised.proofs.CauseLemmas.{cause_holds}
use Rattle.nam_raised.proofs.OldLemmas.{old_holds}
use Rattle.nam_raised.proofs.laws.old_law.Goals as goal

pub returns-clause-old : goal.returns-clause-old
returns-clause-old c = old_holds

pub returns-clause-cause : goal.returns-clause-cause
returns-clause-cause c = cause_holds
