use Rattle.std.proofs.Common.{◌≡◌, ℕ, List, not, true, false, arith, rules, Bor}
use Rattle.std.specs.List.Sorted.{IsPartitionPoint}
use Rattle.std.proofs.lemmas.List.Sorted.{IsPartitionPoint-from_clause}
use Rattle.si_model.specs.History.{stamp_at}
use Rattle.si_model.specs.Snapshots.{contains}
use Rattle.nam_report.proofs.LevelLemmas.{partitioned, not_true, not_false}
use Rattle.nam_report.proofs.arranging.levels.first_in_chain.Goals as goal

pub returns : goal.returns
returns c =
    let s = stamp_at c.args.worker c.args.number in
    let ss = c.args.snapshots.now in
    let i = c.partition_point.result in
    let split : IsPartitionPoint (λ (x : Bor (List ℕ)). not (contains x.now s) ≡ true)
    (λ x. not (contains x.now s) ≡ false) ss i =
    IsPartitionPoint-from_clause (λ (x : Bor (List ℕ)). not (contains x.now s)) ss i
    c.partition_point.ensures.partitioned (partitioned s ss c.requires) (λ a r f k. search rules) in
    record {
      within = omega (arith, c.partition_point.ensures.bound);
      before = λ k d lt. not_true _ (split.0 k d (omega arith) lt);
      here = λ d lt. not_false _ (split.1 i d (omega arith) lt);
    }
