use Rattle.std.proofs.Common.{sym, ◌∙◌, rules}
use Rattle.nam_verbs.proofs.TakenLemmas.{taken}
use Rattle.nam_calls.specs.Ring.{ring_after, ring_left}
use Rattle.nam_calls.specs.Fits.{RingFits, SearchEnds}
use Rattle.nam_calls.proofs.FallsMachines.{ring_falls}
use Rattle.nam_ring.proofs.search.SearchRingMachine.take.Goals as goal
use Rattle.nam_ring.proofs.search.SearchRingMachine.take.Goals.{in-At, in-Over}

pub returns-clause-falls : goal.returns-clause-falls
returns-clause-falls c =
    let a = c.self.inside in
    rw (← c.self.view_is) (elim c.match-replace.branch [
      | in-At w ↦ (taken (RingFits a.place) (SearchEnds a.place) (ring_left a.place)
          (λ at. ring_after a.place a.seen at c.args.found)
          (λ at fits. ring_falls a.place c.self.invariant.0 a.seen at c.args.found fits)
          _ _ _ c.self.invariant.1 (sym c.replace.ensures.value ∙ w.in-At.is)
          (w.self-is ∙ w.ring_after-self-inside.ensures)).1
      | in-Over w ↦ search rules
    ])
