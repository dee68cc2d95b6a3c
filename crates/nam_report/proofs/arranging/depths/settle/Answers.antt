use Rattle.std.proofs.Common.{◌≡◌, ◌≤◌, ◌<◌, ◌+◌, ◌-◌, ◌^◌, List, suc, length, ap, sym, ◌∙◌, subst, arith}
use Rattle.std.specs.List.{AllByRecursion}
use Rattle.std.proofs.lemmas.List.Elements.{All-from_recursion}
use Rattle.si_model.proofs.ListLemmas.{All-listed, All-from_listed}
use Rattle.nam_report.specs.declared.arranging.placed.Placed.{Placed}
use Rattle.nam_report.specs.Arranging.{after_rounds}
use Rattle.nam_report.proofs.DepthLemmas.{low_round, rounds_fixed}
use Rattle.nam_report.proofs.arranging.depths.settle.Goals as goal

pub deepen_all-requires : goal.deepen_all-requires
deepen_all-requires c =
    let items = c.loop-round.placed.items in
    All-from_recursion (λ (p : Placed). p.depth + 1 < 2 ^ 64) items
    (All-from_listed (λ p. p.depth + 1 < 2 ^ 64) items
    (λ p l. omega (
      arith,
      All-listed (λ p. p.depth ≤ c.loop-round._round) items p c.loop-round.invariant.low l,
      c.loop-round-test.true,
      c.len-round-end.type_inv,
    )))

pub returns-then-not-branch : goal.returns-then-not-branch
returns-then-not-branch c =
    let n = length c.args.placed.now.items in
    let items = c.loop-round.placed.items in
    let same = c.in_ok-deepen_all.ensures.same c.if-not-branch.true in
    same ∙ rounds_fixed (n - c.loop-round._round) items (sym same ∙ c.in_ok-deepen_all.ensures.after)
    ∙ c.loop-round.invariant.rounds

pub loop-round-preserved : goal.loop-round-preserved
loop-round-preserved c =
    let items = c.loop-round.placed.items in
    let new : List Placed = c.deepen_all.new.placed.items in
    let after = c.in_ok-deepen_all.ensures.after in
    let r = c.loop-round._round in
    let n = length c.args.placed.now.items in
    let next : suc r ≡ r + 1 = omega arith in
    let left : n - r ≡ suc (n - (r + 1)) =
    omega (
      arith,
      c.loop-round-test.true,
      c.loop-round.auto._round-end,
      c.len-round-end.ensures,
      c.args.placed.now.ok.0,
    ) in
    record {
      low = subst (λ m. AllByRecursion (λ (p : Placed). p.depth ≤ m) new) next
          (subst (AllByRecursion (λ (p : Placed). p.depth ≤ suc r)) (sym after)
          (low_round r items c.loop-round.invariant.low));
      rounds = ap (after_rounds (n - (r + 1))) after ∙ sym (ap (λ m. after_rounds m items) left)
          ∙ c.loop-round.invariant.rounds;
    }

pub loop-round-init : goal.loop-round-init
loop-round-init c =
    let items : List Placed = c.args.placed.now.items in
    let all : length items - 0 ≡ length items = omega arith in
    record {
      low = All-from_listed (λ p. p.depth ≤ 0) items
          (λ p l. omega (arith, All-listed (λ p. p.depth ≡ 0) items p c.requires l));
      rounds = ap (λ m. after_rounds m items) all;
    }

pub returns : goal.returns
returns c =
    let n = length c.args.placed.now.items in
    let none : n - c.loop-round._round ≡ 0 =
    omega (
      arith,
      c.loop-round-test.false,
      c.loop-round.auto._round-end,
      c.len-round-end.ensures,
      c.args.placed.now.ok.0,
    ) in
    sym (ap (λ m. after_rounds m c.loop-round.placed.items) none) ∙ c.loop-round.invariant.rounds
