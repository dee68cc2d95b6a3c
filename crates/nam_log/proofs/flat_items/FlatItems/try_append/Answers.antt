use Rattle.std.proofs.Common.{sym}
use Rattle.nam_log.proofs.FlatLemmas.{items-one_more, AreItems-one_more}
use Rattle.nam_log.proofs.flat_items.FlatItems.try_append.Goals as goal

pub invariant_of-self : goal.invariant_of-self
invariant_of-self c =
    rw (c.push.ensures.items, c.append.ensures.items)
    (AreItems-one_more _ _ _ _ c.self.invariant (sym c.requires.0) c.requires.1)

pub returns-clause-taken : goal.returns-clause-taken
returns-clause-taken c =
    λ _. rw (c.push.ensures.items, c.append.ensures.items, ← c.self.view_is)
    (items-one_more _ _ _ _ c.self.invariant)
