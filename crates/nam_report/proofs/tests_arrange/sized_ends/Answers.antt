use Rattle.std.proofs.Common.{sym, subst, arith}
use Rattle.nam_report.specs.ArrangedExamples.{AreReady}
use Rattle.nam_report.proofs.ArrangedExamples.{sized_ready}
use Rattle.nam_report.proofs.tests_arrange.sized_ends.Goals as goal

pub ends_of-requires : goal.ends_of-requires
ends_of-requires c = subst AreReady (sym c.as_slice-2.ensures.value)
    (sized_ready c.args.workers c.args.commits c.in_ok-logs.logs.items c.in_ok-logs.ensures.long
    (omega (arith, c.requires.workers)) c.in_ok-logs.ensures.sized)
