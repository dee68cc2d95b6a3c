use Rattle.std.proofs.Common.{◌<◌, sym, ◌∙◌, ap, subst}
use Rattle.nam_verbs.specs.Now.{left_now}
use Rattle.nam_calls.specs.Medic.{medic_after}
use Rattle.nam_calls.specs.MedicLeft.{medic_left}
use Rattle.nam_medic.specs.Medic.{Finishing}
use Rattle.nam_medic.proofs.MedicLemmas.{goes_on, stands_before_end}
use Rattle.nam_medic.proofs.running.Medic.take.Goals as goal
use Rattle.nam_medic.proofs.running.Medic.take.Goals.{in-At, in-Over}

pub standing-requires-clause-fits : goal.standing-requires-clause-fits
standing-requires-clause-fits c = elim c.match-replace.branch [
  | in-At w ↦
      let shape = c.args.layout.now in
      let old = ap (λ (a : Finishing). a.state) (sym c.self.view_is) ∙ sym c.replace.ensures.value in
      let new = w.state-is ∙ w.medic_after-state.ensures
      ∙ ap (λ (a : Finishing). medic_after shape a.worker w.in-At.at c.args.found) c.self.view_is in
      (goes_on shape c.args.self.now c.args.found c.total-words.ensures.fits c.requires.serves _ _ _ old w.in-At.is
      new).0
  | in-Over w ↦
      let old = ap (λ (a : Finishing). a.state) (sym c.self.view_is) ∙ sym c.replace.ensures.value in
      absurd (stands_before_end c.args.layout.now c.args.self.now _ _ c.requires.serves c.requires.stands old
      w.in-Over.is)
]

pub returns-clause-falls : goal.returns-clause-falls
returns-clause-falls c = elim c.match-replace.branch [
  | in-At w ↦
      let shape = c.args.layout.now in
      let old = ap (λ (a : Finishing). a.state) (sym c.self.view_is) ∙ sym c.replace.ensures.value in
      let new = w.state-is ∙ w.medic_after-state.ensures
      ∙ ap (λ (a : Finishing). medic_after shape a.worker w.in-At.at c.args.found) c.self.view_is in
      let less = (goes_on shape c.args.self.now c.args.found c.total-words.ensures.fits c.requires.serves _ _ _ old
      w.in-At.is new).1 in
      let left = ap (λ (a : Finishing). a.left) c.self-2.view_is ∙ c.standing.ensures.serves.left
      ∙ ap (left_now (medic_left shape)) c.standing.ensures.state in
      subst (λ n. n < c.args.self.now.left) (sym left) less
  | in-Over w ↦
      let old = ap (λ (a : Finishing). a.state) (sym c.self.view_is) ∙ sym c.replace.ensures.value in
      absurd (stands_before_end c.args.layout.now c.args.self.now _ _ c.requires.serves c.requires.stands old
      w.in-Over.is)
]
