use Rattle.std.proofs.Common.{◌≡◌, ◌++◌, drop, not}
use Rattle.std.specs.Prelude.{filter}
use Rattle.si_model.specs.Evaluation.{ops_write, guard_keys}
use Rattle.si_model.proofs.keys.guard_keys.Given as goal

-- with the unwritten keys from here on, all are there
abbrev pub invariant-loop-guard : goal.invariant-loop-guard
invariant-loop-guard l = l.keys ++ filter (λ key. not (ops_write key l.ops)) (drop l.guard-index l.guard-items)
    ≡ guard_keys l.ops
