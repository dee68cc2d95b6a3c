use Rattle.std.specs.Prelude.{◌≤◌}
use Rattle.nam_verbs.specs.Running.{verbs_left}
use Rattle.nam_catalog.specs.declared.bounds.TheConstants.{MOST_WORDS}
use Rattle.nam_trial.proofs.store.PlainStore.run.Given as goal

abbrev pub invariant-loop-verb : goal.invariant-loop-verb
invariant-loop-verb g l = (g.M.Machine.running l.machine).reach ≤ MOST_WORDS

abbrev pub decreases-loop-verb : goal.decreases-loop-verb
decreases-loop-verb g l = verbs_left (g.M.Machine.running l.machine)
