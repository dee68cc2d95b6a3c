use Rattle.std.proofs.Common.{sym, ◌∙◌, subst}
use Rattle.nam_report.specs.ArrangedExamples.{AreReady}
use Rattle.nam_report.proofs.ArrangedExamples.{guard_ready}
use Rattle.nam_report.proofs.tests_arrange.guard_order.Goals as goal

pub order_of-requires : goal.order_of-requires
order_of-requires c = subst AreReady (sym (c.as_slice-2.ensures.value ∙ c.in_ok-logs.ensures)) guard_ready
