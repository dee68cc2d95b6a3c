use Rattle.std.proofs.Common.{sym, subst, inr}
use Rattle.nam_worker.specs.Session.{IsNewSession, IsReadyFor}
use Rattle.nam_worker.proofs.SteppingLemmas.{begun_of, can_begin, still_plain}
use Rattle.nam_worker.proofs.session.Session.prepare.Goals as goal

pub invariant_of-self : goal.invariant_of-self
invariant_of-self c =
    still_plain c.args.layout.now _ (subst (IsNewSession c.args.layout.now) (sym c.self.view_is) c.requires)
    c.reserve.new.self

pub settle-requires : goal.settle-requires
settle-requires c =
    let layout = c.args.layout.now in
    let here = subst (IsNewSession layout) (sym c.self.view_is) c.requires in
    let has = c.in_ok-reserve.ensures.ok.0 in
    rw c.as_slice-2.ensures
    (can_begin layout _ here c.reserve.new.self (c.reserve.ensures.of layout here.of) c.reserve.ensures.client
    (rw (
      c.needs-attempts.ensures.attempts,
      c.needs-attempts.ensures.ops,
      c.needs-attempts.ensures.tidies,
      c.policy.ensures,
      c.as_slice.ensures,
    ) at has))

pub returns-clause-of : goal.returns-clause-of
returns-clause-of c =
    let layout = c.args.layout.now in
    let here = subst (IsNewSession layout) (sym c.self.view_is) c.requires in
    begun_of layout _ here c.reserve.new.self (c.reserve.ensures.of layout here.of) c.reserve.ensures.client
    c.settle.new.client c.settle.new.driver c.as_slice-2.result.now c.as_slice-2.ensures c.settle.ensures.value
    c.settle.ensures.of c.settle.ensures.room c.settle.ensures.uncut c.settle.ensures.worker
    c.ready_medic-self-inside.result
    (subst (λ w. IsReadyFor layout w c.ready_medic-self-inside.result) c.worker.ensures
    c.ready_medic-self-inside.ensures)

pub invariant_of-self-2 : goal.invariant_of-self-2
invariant_of-self-2 c =
    let layout = c.args.layout.now in
    let here = subst (IsNewSession layout) (sym c.self.view_is) c.requires in
    inr (
      layout,
      begun_of layout _ here c.reserve.new.self (c.reserve.ensures.of layout here.of)
          c.reserve.ensures.client c.settle.new.client c.settle.new.driver c.as_slice-2.result.now c.as_slice-2.ensures
          c.settle.ensures.value c.settle.ensures.of c.settle.ensures.room c.settle.ensures.uncut c.settle.ensures.worker
          c.ready_medic-self-inside.result
          (subst (λ w. IsReadyFor layout w c.ready_medic-self-inside.result) c.worker.ensures
          c.ready_medic-self-inside.ensures),
    )
