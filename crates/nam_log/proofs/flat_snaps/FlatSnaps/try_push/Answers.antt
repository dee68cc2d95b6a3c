use Rattle.nam_log.proofs.FlatLemmas.{lists-one_more, AreLists-one_more}
use Rattle.nam_log.proofs.flat_snaps.FlatSnaps.try_push.Goals as goal

pub invariant_of-self : goal.invariant_of-self
invariant_of-self c =
    rw (c.push.ensures.items, c.append.ensures.items)
    (AreLists-one_more _ _ _ c.self.invariant c.as_slice-words.ensures.fits)

pub returns-clause-taken : goal.returns-clause-taken
returns-clause-taken c =
    λ _. rw (c.push.ensures.items, c.append.ensures.items, ← c.self.view_is, ← c.as_slice-words.ensures.value)
    (lists-one_more _ _ _ c.self.invariant)
