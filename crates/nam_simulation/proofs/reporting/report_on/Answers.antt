use Rattle.nam_simulation.proofs.SimulatedLemmas.{report_fits, report_is}
use Rattle.nam_simulation.proofs.reporting.report_on.Goals as goal

pub returns-clause-fits : goal.returns-clause-fits
returns-clause-fits c =
    report_fits c.arranged_law.ensures.published c.args.script.now c.args.left _ c.requires
    (report_is c.args.script.now c.args.left _ _ _ _ c.in_ok-history.ensures c.as_slice-3.ensures c.from_vec.ensures
    (rw c.as_slice-2.ensures.value c.in_ok-jobs.ensures))
    c.numbers_fit.ensures
