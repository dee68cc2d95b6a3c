use Rattle.nam_order.proofs.CircleLemmas.{circle_law}
use Rattle.nam_order.proofs.GuardsLemmas.{guards_law}
use Rattle.nam_order.proofs.OrderLemmas.{order_law}
use Rattle.nam_order.proofs.WinsLemmas.{wins_law}
use Rattle.nam_order.proofs.laws.order_law.Goals as goal

pub returns-clause-order : goal.returns-clause-order
returns-clause-order c = order_law

pub returns-clause-wins : goal.returns-clause-wins
returns-clause-wins c = wins_law

pub returns-clause-guards : goal.returns-clause-guards
returns-clause-guards c = guards_law

pub returns-clause-circle : goal.returns-clause-circle
returns-clause-circle c = circle_law
