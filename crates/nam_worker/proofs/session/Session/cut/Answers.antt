use Rattle.std.proofs.Common.{sym, subst, ◌∙◌}
use Rattle.nam_worker.specs.Session.{IsSessionOf}
use Rattle.nam_worker.proofs.MedicLemmas.{cut_holds, cut_of}
use Rattle.nam_worker.proofs.session.Session.cut.Goals as goal

pub invariant_of-self : goal.invariant_of-self
invariant_of-self c =
    let left = sym c.is_through.ensures ∙ c.if-is_through.false in
    rw (c.take-self-inside.ensures.value, c.take-self-inside.ensures.after)
    (cut_holds _ c.self.invariant (rw c.as_slice.ensures at left) (sym c.is_cut.ensures ∙ c.if-is_cut.false)
    c.cut.new.self c.cut.ensures.client c.cut.ensures.spare c.cut.ensures.of)

pub returns-clause-of : goal.returns-clause-of
returns-clause-of c shape is =
    let here = subst (IsSessionOf shape) (sym c.self.view_is) is in
    let left = sym c.is_through.ensures ∙ c.if-is_through.false in
    rw c.take-self-inside.ensures.value
    (cut_of shape _ here (rw c.as_slice.ensures at left) (sym c.is_cut.ensures ∙ c.if-is_cut.false) c.cut.new.self
    c.cut.ensures.client c.cut.ensures.spare (c.cut.ensures.of shape here.of) c.take-self-inside.new.self)
