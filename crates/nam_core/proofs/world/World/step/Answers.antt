use Rattle.std.proofs.Common.{◌≡◌, ◌<◌, ◌≤◌, length, get_or, ap, ◌∙◌, subst}
use Rattle.std.specs.Prelude.{slice_set}
use Rattle.nam_catalog.specs.declared.shape.Shape.{Shape}
use Rattle.nam_protocol.specs.World.{step}
use Rattle.nam_core.specs.World.{ShapedWorld, shaped, IsStepped}
use Rattle.nam_core.proofs.WorldLemmas.{steps, stays_by_step}
use Rattle.nam_core.proofs.world.World.step.Goals as goal

pub returns-then-place-len : goal.returns-then-place-len
returns-then-place-len g c =
    let session = g.S.Runs.session in
    let shape = c.self.inside.shape in
    let words = c.self.inside.region in
    let sessions = c.self.inside.sessions.items in
    let worker = c.args.worker in
    let at = c.saturating_sub-place.ensures in
    let item = c.index_mut.result.now in
    let after = c.step_session.new.region in
    let next = c.step_session.new.session in
    let number = c.len.ensures ∙ c.self.inside.sessions.ok.0 in
    let less = subst (λ k. k < length sessions) at
    (subst (λ n. c.saturating_sub-place.result < n) number c.if-place-len.true) in
    let is = subst (λ k. item ≡ get_or sessions k item) at c.index_mut.ensures.value in
    let stepped = subst (λ (s : Shape). IsStepped s words (session item) after (session next))
    c.self.invariant.layout_is c.step_session.ensures.step in
    subst
    (λ (w : ShapedWorld). shaped session shape after (slice_set sessions c.saturating_sub-place.result next)
    ≡ record { shape = w.shape; world = step w.shape w.world worker })
    c.self.view_is
    (ap (λ k. shaped session shape after (slice_set sessions k next)) at
    ∙ steps session shape words sessions worker item less is after next stepped)

pub returns-else-place-len : goal.returns-else-place-len
returns-else-place-len g c =
    let sessions = c.self.inside.sessions.items in
    let worker = c.args.worker in
    let at = c.saturating_sub-place.ensures in
    let number = c.len.ensures ∙ c.self.inside.sessions.ok.0 in
    let past = subst (λ k. length sessions ≤ k) at
    (subst (λ n. n ≤ c.saturating_sub-place.result) number c.if-place-len.false) in
    subst (λ (w : ShapedWorld). w ≡ record { shape = w.shape; world = step w.shape w.world worker }) c.self.view_is
    (stays_by_step g.S.Runs.session c.self.inside.shape c.self.inside.region sessions worker past)
