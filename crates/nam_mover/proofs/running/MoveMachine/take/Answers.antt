use Rattle.std.proofs.Common.{refl, sym, ◌∙◌, ap}
use Rattle.nam_verbs.specs.Falls.{Any}
use Rattle.nam_verbs.proofs.TakenLemmas.{taken}
use Rattle.nam_calls.specs.Mover.{move_after, move_left}
use Rattle.nam_calls.specs.Fits.{MoveFits}
use Rattle.nam_calls.proofs.FallsCells.{move_falls}
use Rattle.nam_mover.specs.Move.{running}
use Rattle.nam_mover.proofs.running.MoveMachine.take.Goals as goal
use Rattle.nam_mover.proofs.running.MoveMachine.take.Goals.{in-At, in-Over}

pub returns-clause-value : goal.returns-clause-value
returns-clause-value c = elim c.match-replace.branch [
  | in-At w ↦
      let at = sym c.replace.ensures.value ∙ w.in-At.is in
      rw (← c.self.view_is, at, w.self-is, w.move_after-self-inside.ensures) refl
  | in-Over w ↦
      let over = sym c.replace.ensures.value ∙ w.in-Over.is in
      let some = rw (← c.self.view_is, over) at c.requires in absurd (cc)
]

pub returns-clause-after : goal.returns-clause-after
returns-clause-after c = ap running (returns-clause-value c)

pub returns-clause-falls : goal.returns-clause-falls
returns-clause-falls c = elim c.match-replace.branch [
  | in-At w ↦
      let a = c.self.inside in
      let fits = c.self.invariant in
      rw (← c.self.view_is, w.self-is) (taken (MoveFits a.place a.cells) Any
      (move_left a.place a.cells) (λ at. move_after a.place a.cells at c.args.found)
      (λ at here. move_falls a.place a.cells fits.0 fits.1 at c.args.found here)
      _ _ _ fits.2 (sym c.replace.ensures.value ∙ w.in-At.is) w.move_after-self-inside.ensures).1
  | in-Over w ↦
      let over = sym c.replace.ensures.value ∙ w.in-Over.is in
      let some = rw (← c.self.view_is, over) at c.requires in absurd (cc)
]
