use Rattle.std.proofs.Common.{◌≡◌, ◌++◌, [], length, take, drop, map, ap, ◌∙◌, append-nil, arith}
use Rattle.std.proofs.Math.Path.{fun_ext}
use Rattle.std.proofs.lemmas.List.{drop_all, take_all, length-map}
use Rattle.nam_report.specs.declared.arranging.placed.Placed.{Placed}
use Rattle.nam_report.specs.Depths.{at_depth, reach_in, reach, deepest, with_next_depths}
use Rattle.nam_report.proofs.arranging.depths.deepen_all.Goals as goal

pub returns-clause-after : goal.returns-clause-after
returns-clause-after c =
    let items = c.args.placed.now.items in
    let new = c.deepen_each.new.placed in
    let said : reach_in c.in_ok-reached.reached ≡ reach items =
    fun_ext (λ k. c.in_ok-reached.ensures k ∙ ap (λ ps. reach ps k) c.as_slice.ensures.value) in
    let after : new ≡ with_next_depths items =
    c.deepen_each.ensures.after
    ∙ ap (map (λ (p : Placed). at_depth (deepest (reach_in c.in_ok-reached.reached) p.level p.line.writes) p))
    c.as_mut_slice.ensures.value
    ∙ ap (λ f. map (λ (p : Placed). at_depth (deepest f p.level p.line.writes) p) items) said in
    let long : length new ≡ length items = ap length after
    ∙ length-map items (λ (p : Placed). at_depth (deepest (reach items) p.level p.line.writes) p) in
    let rest : drop (length new) items ≡ [] = drop_all (length new) items (omega (arith, long)) in
    let whole : new ++ drop (length new) items ≡ new = ap (λ ps. new ++ ps) rest ∙ append-nil new in
    ap (take c.args.placed.now.len) whole ∙ take_all c.args.placed.now.len new
    (omega (arith, long, c.args.placed.now.ok.0)) ∙ after
