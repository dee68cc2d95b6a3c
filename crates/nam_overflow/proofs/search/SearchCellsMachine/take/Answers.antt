use Rattle.std.proofs.Common.{refl, sym, ◌∙◌}
use Rattle.nam_verbs.proofs.TakenLemmas.{taken}
use Rattle.nam_calls.specs.Overflow.{cell_after, cell_left}
use Rattle.nam_calls.specs.Fits.{CellFits, SearchEnds}
use Rattle.nam_calls.proofs.FallsCells.{cell_falls}
use Rattle.nam_overflow.proofs.search.SearchCellsMachine.take.Goals as goal
use Rattle.nam_overflow.proofs.search.SearchCellsMachine.take.Goals.{in-At, in-Over}

pub returns-clause-after : goal.returns-clause-after
returns-clause-after c = elim c.match-replace.branch [
  | in-At w ↦
      let at = sym c.replace.ensures.value ∙ w.in-At.is in
      rw (← c.self.view_is, at, w.self-is, w.cell_after-self-inside.ensures) refl
  | in-Over w ↦
      let over = sym c.replace.ensures.value ∙ w.in-Over.is in
      let some = rw (← c.self.view_is, over) at c.requires in absurd (cc)
]

pub returns-clause-falls : goal.returns-clause-falls
returns-clause-falls c = elim c.match-replace.branch [
  | in-At w ↦
      let a = c.self.inside in
      let fits = c.self.invariant in
      rw (← c.self.view_is, w.self-is) (taken (CellFits a.cells a.place) (SearchEnds a.place)
      (cell_left a.cells a.place) (λ at. cell_after a.cells a.place a.seen at c.args.found)
      (λ at here. cell_falls a.cells a.place fits.1 a.seen at c.args.found here)
      _ _ _ fits.2 (sym c.replace.ensures.value ∙ w.in-At.is) w.cell_after-self-inside.ensures).1
  | in-Over w ↦
      let over = sym c.replace.ensures.value ∙ w.in-Over.is in
      let some = rw (← c.self.view_is, over) at c.requires in absurd (cc)
]
