use Rattle.std.proofs.Common.{rules}
use Rattle.nam_simulation.proofs.TurnLemmas.{is_asked, none_refuses}
use Rattle.nam_simulation.proofs.turns.is_refused.Goals as goal

pub returns-then-place-lines-clause-asked : goal.returns-then-place-lines-clause-asked
returns-then-place-lines-clause-asked g c =
    is_asked _ c.args.lines.now c.args.worker c.saturating_sub-place.result c.saturating_sub-place.ensures
    c.index-lines-place.result c.if-place-lines.true c.index-lines-place.is c.refuses.new.line
    (search rules)

pub returns-clause-refused : goal.returns-clause-refused
returns-clause-refused g c =
    none_refuses _ c.args.lines.now c.args.worker c.saturating_sub-place.result c.saturating_sub-place.ensures
    c.if-place-lines.false
