use Rattle.std.proofs.Common.{◌≡◌, ◌++◌, ◌-◌, ◌^◌, min, List, ℕ, [], drop, ap, sym, ◌∙◌, subst, append-nil, arith}
use Rattle.std.proofs.Common.{rules, Bor}
use Rattle.std.specs.Prelude.{IsPermutation}
use Rattle.std.proofs.lemmas.List.{drop_all}
use Rattle.std.proofs.lemmas.List.Sorted.{IsPermutation-map, IsNonDecreasingBy-from_sort_by_key}
use Rattle.si_model.specs.Snapshots.{sum_above}
use Rattle.nam_report.specs.Lines.{snaps_in_logs, referents}
use Rattle.nam_report.proofs.arranging.levels.snapshots_of.Goals as goal

pub returns-clause-same : goal.returns-clause-same
returns-clause-same c =
    let found = c.loop-log.found.items in
    let left : drop c.loop-log.log-index c.args.logs.now ≡ [] =
    drop_all c.loop-log.log-index c.args.logs.now (omega arith) in
    let all : referents found ≡ snaps_in_logs c.args.logs.now =
    sym (append-nil (referents found)) ∙ ap (λ logs. referents found ++ snaps_in_logs logs) (sym left)
    ∙ c.loop-log.invariant in
    subst (λ (ss : List (List ℕ)). IsPermutation ss (referents c.sort_by_cached_key.new.self.items)) all
    (IsPermutation-map (λ (s : Bor (List ℕ)). s.now) found c.sort_by_cached_key.new.self.items
    c.in_ok-sort_by_cached_key.ensures.permutation)

pub returns-clause-rise : goal.returns-clause-rise
returns-clause-rise c =
    IsNonDecreasingBy-from_sort_by_key (λ (s : Bor (List ℕ)). min (sum_above c.args.start s.now) (2 ^ 64 - 1))
    c.sort_by_cached_key.new.self.items c.in_ok-sort_by_cached_key.ensures.sorted (λ a r q k. search rules)
