use Rattle.std.proofs.Common.{◌≡◌, ◌<◌, ◌-◌, length, get_or, ap, sym, ◌∙◌, subst}
use Rattle.std.proofs.lemmas.List.Elements.{All-get_or}
use Rattle.std.specs.Prelude.{slice_set}
use Rattle.nam_protocol.specs.World.{cut}
use Rattle.nam_core.specs.World.{ShapedWorld, shaped}
use Rattle.nam_core.proofs.WorldLemmas.{cuts}
use Rattle.nam_core.proofs.world.World.cut.Goals as goal

pub returns-then-place-len : goal.returns-then-place-len
returns-then-place-len g c =
    let session = g.S.Runs.session in
    let shape = c.self.inside.shape in
    let words = c.self.inside.region in
    let sessions = c.self.inside.sessions.items in
    let worker = c.args.worker in
    let at = c.saturating_sub-place.ensures in
    let item = c.index_mut.result.now in
    let next = c.cut.new.self in
    let number = c.len.ensures ∙ c.self.inside.sessions.ok.0 in
    let less = subst (λ k. k < length sessions) at
    (subst (λ n. c.saturating_sub-place.result < n) number c.if-place-len.true) in
    let is = subst (λ k. item ≡ get_or sessions k item) at c.index_mut.ensures.value in
    let of = subst (g.S.Runs.IsOf shape) (sym is) (All-get_or (g.S.Runs.IsOf shape) sessions (worker - 1) item less
    c.self.invariant.of) in
    let stopped = c.cut.ensures.value shape of in
    subst
    (λ (w : ShapedWorld). shaped session shape words (slice_set sessions c.saturating_sub-place.result next)
    ≡ record { shape = w.shape; world = cut w.shape w.world worker })
    c.self.view_is
    (ap (λ k. shaped session shape words (slice_set sessions k next)) at
    ∙ cuts session shape words sessions worker item less is next stopped)
