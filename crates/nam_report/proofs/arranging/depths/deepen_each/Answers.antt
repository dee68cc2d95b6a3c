use Rattle.std.proofs.Common.{◌≡◌, ◌||◌, Bool, true, false, get_or, set, ap, ◌∙◌, arith, refl}
use Rattle.std.proofs.lemmas.Bool.{true≢false}
use Rattle.std.proofs.lemmas.List.{set-get_or}
use Rattle.nam_report.specs.declared.arranging.placed.Placed.{Placed}
use Rattle.nam_report.specs.Depths.{at_depth, deepest, reach_in}
use Rattle.nam_report.proofs.DepthLemmas.{mapped_front, front_more, front_all}
use Rattle.nam_report.proofs.arranging.depths.deepen_each.Goals as goal

neither : (a b : Bool) → (a || b) ≡ false → (a ≡ false) × (b ≡ false)
neither true b h = absurd (true≢false h)
neither false b h = (refl, h)

pub loop-commit-preserved : goal.loop-commit-preserved
loop-commit-preserved c =
    let f : Placed → Placed = λ p. at_depth (deepest (reach_in c.args.reached.now) p.level p.line.writes) p in
    let xs = c.args.placed.now in
    let i = c.loop-commit.commit-index in
    let now = c.loop-commit.placed in
    let d = c.commit-item.result in
    let done : now ≡ mapped_front f i xs = c.loop-commit.invariant.done in
    let new : c.deepen-changed.new.commit ≡ f (get_or now i d) = c.deepen-changed.ensures.after in
    record {
      done = ap (set now i) new ∙ ap (λ ys. set ys i (f (get_or ys i d))) done
          ∙ front_more f xs i d c.loop-commit-test.true;
      same = λ none.
          let both = neither c.loop-commit.changed c.deepen-changed.result none in
          ap (set now i) (c.deepen-changed.ensures.same both.1) ∙ set-get_or now i d
          ∙ c.loop-commit.invariant.same both.0;
    }

pub returns-clause-after : goal.returns-clause-after
returns-clause-after c = c.loop-commit.invariant.done
    ∙ front_all (λ (p : Placed). at_depth (deepest (reach_in c.args.reached.now) p.level p.line.writes) p)
    c.args.placed.now c.loop-commit.commit-index (omega arith)
