use Rattle.std.proofs.Common.{ap, sym, ◌∙◌, subst, length}
use Rattle.std.specs.Prelude.{All}
use Rattle.nam_catalog.specs.declared.shape.Shape.{Shape}
use Rattle.nam_catalog.specs.Words.{words_of}
use Rattle.nam_core.proofs.world.World.new.Goals as goal

pub invariant_of-result : goal.invariant_of-result
invariant_of-result g c =
    let same = sym c.copied.ensures in
    record {
      layout_is = c.new-layout.ensures ∙ same;
      long = ap length c.new.ensures ∙ c.in_ok-words.ensures.long ∙ ap words_of same;
      of = subst (λ (s : Shape). All (g.S.Runs.IsOf s) c.args.sessions.items) same c.requires.sessions;
    }
