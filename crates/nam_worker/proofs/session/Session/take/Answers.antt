use Rattle.std.proofs.Common.{sym, subst, inr, ap}
use Rattle.std.specs.Prelude.{IsSome}
use Rattle.nam_protocol.specs.Session.{session_verb}
use Rattle.nam_worker.specs.Session.{IsSessionOf, session_of}
use Rattle.nam_worker.proofs.SteppingLemmas.{gone_falls, gone_of, treated_is, treated_of}
use Rattle.nam_worker.proofs.session.Session.take.Goals as goal

pub returns-in-Some-clause-of : goal.returns-in-Some-clause-of
returns-in-Some-clause-of c =
    let layout = c.args.layout.now in
    let here = subst (IsSessionOf layout) (sym c.self.view_is) c.requires.of in
    let stands = subst (λ s. IsSome (session_verb layout (session_of s))) (sym c.self.view_is) c.requires.stands in
    treated_of layout _ here c.in-Some.medic c.in-Some.is c.take.new.self c.take.ensures.serves c.take.ensures.worker
    c.args.found stands
    (treated_is layout _ here c.in-Some.medic c.in-Some.is c.take.new.self c.args.found
    (ap (λ r. r.state) c.take.ensures.after))

pub invariant_of-self : goal.invariant_of-self
invariant_of-self c =
    let layout = c.args.layout.now in
    let here = subst (IsSessionOf layout) (sym c.self.view_is) c.requires.of in
    let stands = subst (λ s. IsSome (session_verb layout (session_of s))) (sym c.self.view_is) c.requires.stands in
    inr (
      layout,
      treated_of layout _ here c.in-Some.medic c.in-Some.is c.take.new.self c.take.ensures.serves
          c.take.ensures.worker c.args.found stands
          (treated_is layout _ here c.in-Some.medic c.in-Some.is c.take.new.self c.args.found
          (ap (λ r. r.state) c.take.ensures.after)),
    )

pub returns-in-None-clause-of : goal.returns-in-None-clause-of
returns-in-None-clause-of c =
    let layout = c.args.layout.now in
    let here = subst (IsSessionOf layout) (sym c.self.view_is) c.requires.of in
    let stands = subst (λ s. IsSome (session_verb layout (session_of s))) (sym c.self.view_is) c.requires.stands in
    gone_of layout _ here c.in-None.is c.args.found c.take_word.new.client c.take_word.new.driver
    c.as_slice.result.now c.as_slice.ensures c.take_word.ensures.value c.take_word.ensures.of c.take_word.ensures.room
    c.take_word.ensures.uncut c.take_word.ensures.worker stands

pub invariant_of-self-in-None : goal.invariant_of-self-in-None
invariant_of-self-in-None c =
    let layout = c.args.layout.now in
    let here = subst (IsSessionOf layout) (sym c.self.view_is) c.requires.of in
    let stands = subst (λ s. IsSome (session_verb layout (session_of s))) (sym c.self.view_is) c.requires.stands in
    inr (
      layout,
      gone_of layout _ here c.in-None.is c.args.found c.take_word.new.client c.take_word.new.driver
          c.as_slice.result.now c.as_slice.ensures c.take_word.ensures.value c.take_word.ensures.of c.take_word.ensures.room
          c.take_word.ensures.uncut c.take_word.ensures.worker stands,
    )

pub returns-in-None-clause-falls : goal.returns-in-None-clause-falls
returns-in-None-clause-falls c =
    let layout = c.args.layout.now in
    let here = subst (IsSessionOf layout) (sym c.self.view_is) c.requires.of in
    let stands = subst (λ s. IsSome (session_verb layout (session_of s))) (sym c.self.view_is) c.requires.stands in
    gone_falls layout _ here c.in-None.is c.args.found c.take_word.new.client c.take_word.new.driver
    c.as_slice.result.now c.as_slice.ensures c.take_word.ensures.value c.take_word.ensures.of c.take_word.ensures.room
    c.take_word.ensures.uncut c.take_word.ensures.worker stands c.args.self.now c.self.view_is
